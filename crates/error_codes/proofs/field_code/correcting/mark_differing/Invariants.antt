use Rattle.std.proofs.Common.{length, slice_index}
use Rattle.std.specs.Prelude.{nat_eq, not}
use Rattle.error_codes.specs.Filling.{is_marked}
use Rattle.error_codes.proofs.Marking.{IsWritten}
use Rattle.error_codes.proofs.field_code.correcting.mark_differing.Given as goal

abbrev pub invariant-loop-i : goal.invariant-loop-i
invariant-loop-i l =
    IsWritten (length l.word) (λ j. not (nat_eq (slice_index l.word j) (slice_index l.other j))) (is_marked l.initial.marks) l.i l.marks
