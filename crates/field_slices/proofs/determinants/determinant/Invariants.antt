use Rattle.std.proofs.Common.{◌≡◌, ◌-◌, length}
use Rattle.field_slices.specs.Determinants.{corner_entry, determinant_of}
use Rattle.field_slices.specs.Matrices.{entry_of}
use Rattle.field_slices.proofs.determinants.determinant.Given as goal

-- the product times the determinant of the rows and columns that are left is that of all
abbrev pub invariant-loop-step : goal.invariant-loop-step
invariant-loop-step g l =
    let number = g.S.Scalars.number l.field in
    let times = g.S.Scalars.product l.field in
    (length l.matrix ≡ length l.fn.matrix)
    × (determinant_of times l.size (entry_of number l.size l.fn.matrix)
    ≡ times (number l.product)
    (determinant_of times (l.size - l.step) (corner_entry l.step (entry_of number l.size l.matrix))))
