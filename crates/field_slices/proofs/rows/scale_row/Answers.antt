use Rattle.std.proofs.Common.{◌∙◌, ap, arith}
use Rattle.field_slices.proofs.MatrixRows.{row_start, row_step, row_end}
use Rattle.field_slices.proofs.rows.scale_row.Goals as goal

pub loop-column-init : goal.loop-column-init
loop-column-init g c = row_start

pub loop-column-preserved : goal.loop-column-preserved
loop-column-preserved g c =
    let number = g.S.Scalars.number c.args.field in
    let times = g.S.Scalars.product c.args.field in
    let so_far = c.loop-column.invariant in
    row_step so_far (omega arith)
    (c.multiply-value.ensures
    ∙ ap (times (number c.args.scalar))
    (c.entry-own.ensures ∙ so_far.rest c.loop-column.column (omega arith) (omega arith))) c.set_entry.ensures

pub returns : goal.returns
returns g c = row_end c.loop-column.invariant (omega arith)
