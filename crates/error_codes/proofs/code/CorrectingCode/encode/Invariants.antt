use Rattle.std.proofs.Common.{◌≡◌, ◌<◌, ◌≤◌, ◌+◌, ℕ, length, slice_index}
use Rattle.field_base.specs.Powers.{power}
use Rattle.reed_solomon.specs.ByteFields.{byte_times}
use Rattle.error_codes.specs.Correcting.{code_value}
use Rattle.error_codes.proofs.code.CorrectingCode.encode.Given as goal

-- what is left of the data so far
abbrev pub invariant-loop-i : goal.invariant-loop-i
invariant-loop-i l =
    ((j : ℕ) → l.checks ≤ j → slice_index l.rest j ≡ 0)
    × ((m : ℕ) → m < l.checks → code_value (byte_times l.self.field) l.checks (slice_index l.rest)
    (slice_index l.self.roots m)
    ≡ byte_times l.self.field
    (code_value (byte_times l.self.field) l.i (slice_index l.word) (slice_index l.self.roots m))
    (power 1 (byte_times l.self.field) (slice_index l.self.roots m) l.checks))

abbrev pub invariant-loop-j : goal.invariant-loop-j
invariant-loop-j l =
    (length l.word ≡ length l.initial.word)
    × ((i : ℕ) → i < l.self.dimension → slice_index l.word i ≡ slice_index l.initial.word i)
    × ((n : ℕ) → n < l.j → slice_index l.word (l.self.dimension + n) ≡ slice_index l.rest n)
