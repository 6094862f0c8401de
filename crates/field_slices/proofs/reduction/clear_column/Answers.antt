use Rattle.std.proofs.Common.{arith}
use Rattle.field_slices.proofs.Elimination.{cleared-start, cleared-step, cleared-end}
use Rattle.field_slices.proofs.MatrixRows.{rows_step}
use Rattle.field_slices.proofs.reduction.clear_column.Goals as goal

pub loop-other-init : goal.loop-other-init
loop-other-init g c =
    let times = g.S.Scalars.product c.args.field in
    (omega arith, cleared-start times c.args.from c.args.row c.args.column)

pub loop-other-preserved : goal.loop-other-preserved
loop-other-preserved g c =
    let times = g.S.Scalars.product c.args.field in
    let so_far = c.loop-other.invariant in (
      omega (arith, so_far.0),
      rows_step so_far.1
          (cleared-step times c.args.from c.args.row c.args.column so_far.1 c.requires.column_within so_far.0)
          c.clear_entry.ensures,
    )

pub returns-clause-cleared : goal.returns-clause-cleared
returns-clause-cleared g c =
    let times = g.S.Scalars.product c.args.field in
    cleared-end times c.args.from c.args.row c.args.column c.loop-other.invariant.1 c.args.shape.rows (omega arith)
