use Rattle.std.proofs.Common.{◌≡◌, ℕ, ◌<◌, ◌≤◌}
use Rattle.bits_packed.specs.BitMatrices.{bit_entry}
use Rattle.bits_packed.proofs.reduction.find_pivot.Given as goal

-- the rows before this one are 0 in the column
abbrev pub invariant-loop-row : goal.invariant-loop-row
invariant-loop-row l = (i : ℕ) → l.from ≤ i → i < l.row → bit_entry l.shape.words l.matrix i l.column ≡ 0
