use Rattle.std.proofs.Common.{◌≡◌, ◌≢◌, ◌<◌, ◌≤◌, ◌+◌, ◌*◌, ◌/◌, ◌%◌, ℕ, length, slice_index}
use Rattle.error_codes.specs.Correcting.{code_value}
use Rattle.error_codes.proofs.field_code.values.evaluate.Given as goal

-- the values before this point, the points from it on, and the values of its eight that were found with the one before
abbrev pub invariant-loop-m : goal.invariant-loop-m
invariant-loop-m g l =
    let times = g.F.SymbolField.product l.field in
    (length l.points ≡ length l.initial.points)
    × ((n : ℕ) → n < l.m → slice_index l.points n
    ≡ code_value times (length l.word) (slice_index l.word) (slice_index l.initial.points n))
    × ((n : ℕ) → l.m ≤ n → slice_index l.points n ≡ slice_index l.initial.points n)
    × ((k : ℕ) → k < 8 → l.m % 8 ≢ 0 → l.m / 8 * 8 + k < length l.initial.points → times (slice_index l.found k) 1
    ≡ code_value times (length l.word) (slice_index l.word) (slice_index l.initial.points (l.m / 8 * 8 + k)))
