use Rattle.std.proofs.Common.{◌∙◌}
use Rattle.field_slices.proofs.MatrixRows.{part_added}
use Rattle.field_slices.proofs.rows.add_to_row.Goals as goal

pub returns : goal.returns
returns g c =
    let number = g.S.Scalars.number c.args.field in
    let times = g.S.Scalars.product c.args.field in
    let first = c.split_at_mut-before in
    let second = c.split_at_mut-own in
    part_added number c.args.shape.columns times (number c.args.scalar) c.args.row c.args.matrix.now
    first.result.0.now first.result.1.now second.result.0.now c.add_scaled.new.sums second.result.1.now c.args.values.now
    first.ensures.value second.ensures.value (first.ensures.front_len ∙ c.row_start-start.ensures.is) second.ensures.front_len
    c.add_scaled.ensures.long c.add_scaled.ensures.sums
