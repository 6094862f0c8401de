use Rattle.std.proofs.Common.{◌+◌, arith}
use Rattle.field_slices.specs.Matrices.{entry_of}
use Rattle.field_slices.proofs.MatrixRows.{put_start, put_step, put_end}
use Rattle.field_slices.proofs.columns.copy_row.Goals as goal

pub loop-column-init : goal.loop-column-init
loop-column-init g c =
    let number = g.S.Scalars.number c.args.field in
    let copy = c.args.copy in
    put_start copy.to copy.count (λ k. entry_of number copy.columns c.args.source.now c.args.row (copy.from + k))

pub loop-column-preserved : goal.loop-column-preserved
loop-column-preserved g c =
    let number = g.S.Scalars.number c.args.field in
    let copy = c.args.copy in
    put_step copy.to copy.count (λ k. entry_of number copy.columns c.args.source.now c.args.row (copy.from + k))
    c.loop-column.invariant (omega arith) (omega arith) (omega arith) c.entry-value.ensures c.set_entry.ensures

pub returns : goal.returns
returns g c =
    let number = g.S.Scalars.number c.args.field in
    let copy = c.args.copy in
    put_end copy.to copy.count (λ k. entry_of number copy.columns c.args.source.now c.args.row (copy.from + k))
    c.loop-column.invariant (omega arith)
