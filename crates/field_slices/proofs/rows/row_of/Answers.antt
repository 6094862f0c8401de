use Rattle.std.proofs.Common.{◌∙◌}
use Rattle.field_slices.proofs.MatrixRows.{part_read}
use Rattle.field_slices.proofs.rows.row_of.Goals as goal

pub returns-clause-entries : goal.returns-clause-entries
returns-clause-entries g c =
    let number = g.S.Scalars.number c.args.field in
    λ j inside.
    let first = c.split_at in
    let second = c.split_at-2 in
    part_read number c.args.shape.columns c.args.row j c.args.matrix.now first.result.0.now first.result.1.now
    second.result.0.now second.result.1.now first.ensures.by_index.0 second.ensures.by_index.0
    (first.ensures.front_len ∙ c.row_start-start.ensures.is) second.ensures.front_len inside
