use Rattle.std.proofs.Common.{◌≡◌, ◌<◌, ◌+◌, ℕ, length, slice_index}
use Rattle.field_base.specs.Powers.{power}
use Rattle.reed_solomon.specs.ByteFields.{byte_times}
use Rattle.error_codes.specs.Correcting.{code_value}
use Rattle.error_codes.proofs.code.CorrectingCode.is_code_word.Given as goal

abbrev pub invariant-loop-m : goal.invariant-loop-m
invariant-loop-m l =
    (n : ℕ) → n < l.m → code_value (byte_times l.self.field) (length l.word) (slice_index l.word)
    (power 1 (byte_times l.self.field) l.self.root (l.self.first_root + n)) ≡ 0
