use Rattle.std.proofs.Common.{◌≡◌, ℕ, ◌<◌, length, map}
use Rattle.std.specs.Prelude.{slice_index}
use Rattle.bits_packed.proofs.WordRanges.{IsFilledTo}
use Rattle.bits_packed.proofs.transposes.transposed.Given as goal

-- the rows before this one are packed
abbrev pub invariant-loop-row : goal.invariant-loop-row
invariant-loop-row l =
    (length l.rows ≡ 64) × ((k : ℕ) → k < l.row → slice_index (map (λ x. x.bits) l.rows) k ≡ slice_index l.words k)

-- and those before this one are read
abbrev pub invariant-loop-column : goal.invariant-loop-column
invariant-loop-column l = IsFilledTo 64 (slice_index (map (λ x. x.bits) l.rows)) l.column l.out
