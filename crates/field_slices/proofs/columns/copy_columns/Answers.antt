use Rattle.std.proofs.Common.{◌+◌, arith}
use Rattle.field_slices.specs.Matrices.{entry_of}
use Rattle.field_slices.proofs.MatrixRows.{put_same, rows_start, rows_step, rows_end}
use Rattle.field_slices.proofs.columns.copy_columns.Goals as goal

pub loop-row-init : goal.loop-row-init
loop-row-init g c = rows_start

pub loop-row-preserved : goal.loop-row-preserved
loop-row-preserved g c =
    let number = g.S.Scalars.number c.args.field in
    let copy = c.args.copy in
    let so_far = c.loop-row.invariant in
    let row = c.loop-row.row in
    rows_step so_far
    (λ j inside.
    put_same copy.to copy.count (λ k. entry_of number copy.columns c.args.source.now row (copy.from + k))
    (entry_of number copy.target_columns c.loop-row.target row) (entry_of number copy.target_columns c.args.target.now row) j
    (so_far.rest row j (omega arith) inside)) c.copy_row.ensures

pub returns-clause-entries : goal.returns-clause-entries
returns-clause-entries g c = rows_end c.loop-row.invariant c.args.copy.rows (omega arith)

pub returns-then-copy-eq0-clause-entries : goal.returns-then-copy-eq0-clause-entries
returns-then-copy-eq0-clause-entries g c = λ i j inside within. absurd (omega (arith, within, c.if-copy-eq0.true))
