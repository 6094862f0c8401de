use Rattle.std.proofs.Common.{◌≡◌, ◌<◌, ◌≤◌, ◌+◌, ◌*◌, ℕ, length, slice_index}
use Rattle.field_base.specs.Powers.{power}
use Rattle.reed_solomon.specs.ByteFields.{byte_times}
use Rattle.error_codes.specs.Correcting.{code_value}
use Rattle.error_codes.proofs.LaneRegisters.{ColumnsWritten}
use Rattle.error_codes.proofs.code.CorrectingCode.encode_columns.Given as goal

-- what is left of the data so far, in each lane that has a word
abbrev pub invariant-loop-i : goal.invariant-loop-i
invariant-loop-i l =
    let times = byte_times l.self.field in
    (length l.rests ≡ 8192) × ((p : ℕ) → 32 * l.checks ≤ p → slice_index l.rests p ≡ 0)
    × ((c m : ℕ) → c < l.width → m < l.checks
    → code_value times l.checks (λ j. slice_index l.rests (32 * j + c)) (slice_index l.self.roots m)
    ≡ times (code_value times l.i (λ k. slice_index l.words (k * l.depth + (l.first + c))) (slice_index l.self.roots m))
    (power 1 times (slice_index l.self.roots m) l.checks))

abbrev pub invariant-loop-j : goal.invariant-loop-j
invariant-loop-j l =
    ColumnsWritten l.depth l.first l.width l.self.dimension (λ k c. slice_index l.rests (32 * k + c)) l.initial.words l.words l.j
