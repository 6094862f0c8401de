use Rattle.std.proofs.Common.{◌≡◌, ◌-◌, ◌+◌, ℕ, suc, refl, sym, ◌∙◌, ap, arith}
use Rattle.field_slices.specs.Determinants.{corner_entry, determinant_of}
use Rattle.field_slices.specs.Matrices.{entry_of}
use Rattle.field_slices.proofs.MatrixRows.{entries-lt}
use Rattle.field_slices.proofs.PivotDeterminants.{pivot-none, pivot-taken}
use Rattle.field_slices.proofs.determinants.take_pivot.Goals as goal

pub returns-in_err-row-clause-none : goal.returns-in_err-row-clause-none
returns-in_err-row-clause-none g c =
    let now = entry_of (g.S.Scalars.number c.args.field) c.args.shape.columns c.args.matrix.now in
    λ _. pivot-none (g.met.S.Scalars.field_law c.args.field).ring now c.requires.shape.row_within (c.in_err-row.ensures.none refl)

pub returns-clause-divided : goal.returns-clause-divided
returns-clause-divided g c =
    let number = g.S.Scalars.number c.args.field in
    let times = g.S.Scalars.product c.args.field in
    let law = g.met.S.Scalars in
    let ring = (law.field_law c.args.field).ring in
    let size = c.args.shape.columns in
    let step = c.args.step in
    let m = c.args.shape.rows - (step + 1) in
    let old = c.args.matrix.now in
    let square = c.requires.square in
    let within = c.requires.shape.row_within in
    let found = c.in_ok-row.ensures.inside in
    let left : c.args.shape.rows - step ≡ suc m = omega (arith, within) in
    let inverse = number c.invert.result in
    let cleared = c.clear_column.new.matrix in
    let pivot = sym c.entry-pivot.ensures in
    ap (λ (n : ℕ). determinant_of times n (corner_entry step (entry_of number size old))) left
    ∙ pivot-taken ring (law.wide_law c.args.field) (entries-lt _ _ (law.range_law c.args.field) size) m (omega (arith, square, within))
    found.0 (omega (arith, square, found.1)) c.bring_nonzero.ensures (ap (λ (x : ℕ). times x inverse) pivot ∙ c.invert.ensures)
    c.scale_row.ensures
    (λ i j reached below inside. c.clear_column.ensures.cleared i j reached (omega (arith, square, below)) inside)
    ∙ ap (λ (x : ℕ). times x (determinant_of times m (corner_entry (step + 1) (entry_of number size cleared)))) pivot
