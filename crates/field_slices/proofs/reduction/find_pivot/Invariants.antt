use Rattle.std.proofs.Common.{◌≡◌, ℕ, ◌<◌, ◌≤◌}
use Rattle.field_slices.specs.Matrices.{entry_of}
use Rattle.field_slices.proofs.reduction.find_pivot.Given as goal

-- the rows before this one are 0 in the column
abbrev pub invariant-loop-row : goal.invariant-loop-row
invariant-loop-row g l =
    let number = g.S.Scalars.number l.field in
    (i : ℕ) → l.from ≤ i → i < l.row → entry_of number l.shape.columns l.matrix i l.column ≡ 0
