use Rattle.std.proofs.Common.{sym, ◌∙◌, ap₂, arith}
use Rattle.std.specs.Prelude.{bit_xor}
use Rattle.field_slices.specs.Matrices.{entry_of}
use Rattle.field_slices.proofs.MatrixRows.{rows_from, rows_step, rows_end}
use Rattle.field_slices.proofs.TriangularSteps.{cleared_below-above, cleared_below-row}
use Rattle.field_slices.proofs.decompositions.clear_below.Goals as goal

pub loop-row-init : goal.loop-row-init
loop-row-init g c =
    let number = g.S.Scalars.number c.args.field in
    let times = g.S.Scalars.product c.args.field in
    let L = entry_of number c.args.shape.rows c.args.lower.now in
    let U = entry_of number c.args.shape.columns c.args.matrix.now in (
      omega arith,
      rows_from (λ i j before inside. sym (cleared_below-above times c.args.column L U i j (omega (arith, before)))),
    )

pub loop-row-preserved : goal.loop-row-preserved
loop-row-preserved g c =
    let number = g.S.Scalars.number c.args.field in
    let times = g.S.Scalars.product c.args.field in
    let L = entry_of number c.args.shape.rows c.args.lower.now in
    let U = entry_of number c.args.shape.columns c.args.matrix.now in
    let column = c.args.column in
    let row = c.loop-row.row in
    let so_far = c.loop-row.invariant in (
      omega (arith, so_far.0),
      rows_step so_far.1
          (λ j inside.
          ap₂ bit_xor (so_far.1.rest row j (omega arith) inside)
          (ap₂ times c.entry-factor.ensures
          (so_far.1.done column j (omega (arith, so_far.0)) inside ∙ cleared_below-above times column L U column j (omega arith)))
          ∙ sym (cleared_below-row times column L U row j (omega (arith, so_far.0))))
          c.add_scaled_row.ensures,
    )

pub returns-clause-cleared : goal.returns-clause-cleared
returns-clause-cleared g c =
    let number = g.S.Scalars.number c.args.field in
    let times = g.S.Scalars.product c.args.field in
    let L = entry_of number c.args.shape.rows c.args.lower.now in
    let U = entry_of number c.args.shape.columns c.args.matrix.now in
    λ i j below inside j_inside.
    rows_end c.loop-row.invariant.1 c.args.shape.rows (omega arith) i j inside j_inside
    ∙ cleared_below-row times c.args.column L U i j below

pub returns-clause-stays : goal.returns-clause-stays
returns-clause-stays g c =
    let number = g.S.Scalars.number c.args.field in
    let times = g.S.Scalars.product c.args.field in
    let L = entry_of number c.args.shape.rows c.args.lower.now in
    let U = entry_of number c.args.shape.columns c.args.matrix.now in
    let so_far = c.loop-row.invariant in
    λ i j above inside.
    so_far.1.done i j (omega (arith, so_far.0, above)) inside ∙ cleared_below-above times c.args.column L U i j above
