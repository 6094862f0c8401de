use Rattle.std.proofs.Common.{◌≡◌, ◌+◌, ◌<◌, ℕ, length, slice_index}
use Rattle.error_codes.proofs.field_code.values.read_eight.Given as goal

abbrev pub invariant-loop-k : goal.invariant-loop-k
invariant-loop-k l =
    (length l.eight ≡ 8) × ((n : ℕ) → n < l.k → slice_index l.eight n ≡ slice_index l.entries (l.first + n))
