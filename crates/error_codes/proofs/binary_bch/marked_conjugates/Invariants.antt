use Rattle.error_codes.specs.BinaryBch.{MarkConjugates}
use Rattle.reed_solomon.specs.ByteFields.{byte_times}
use Rattle.error_codes.specs.Filling.{is_marked}
use Rattle.error_codes.proofs.binary_bch.marked_conjugates.Given as goal

-- the conjugates of the roots before this one
abbrev pub invariant-loop-m : goal.invariant-loop-m
invariant-loop-m l = MarkConjugates (byte_times l.code.field) l.code.root l.m (is_marked l.marks)
