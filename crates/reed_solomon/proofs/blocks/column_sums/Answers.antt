use Rattle.std.proofs.Common.{slice_index, ◌+◌, arith}
use Rattle.reed_solomon.specs.Tables.{row_sum_of}
use Rattle.reed_solomon.proofs.GroupWriting.{entry_next}
use Rattle.reed_solomon.proofs.RowWriting.{sum_so_far}
use Rattle.reed_solomon.proofs.blocks.column_sums.Goals as goal
use Rattle.reed_solomon.proofs.blocks.column_sums.Goals.{then-from-eq0, else-from-eq0}

pub column_sum-requires-clause-begun : goal.column_sum-requires-clause-begun
column_sum-requires-clause-begun g c =
    let row = c.loop-row.row in
    sum_so_far c.args.entries.now c.args.shards.now c.args.starts.now c.args.from row c.args.column c.if-from-eq0.so_far
    (slice_index c.args.out.now (slice_index c.args.rows.now row + c.args.column))
    (λ first. elim c.if-from-eq0.branch [ then-from-eq0 w ↦ w.so_far-is | else-from-eq0 w ↦ absurd (w.if-from-eq0.false first) ])
    (λ later. elim c.if-from-eq0.branch [ then-from-eq0 w ↦ absurd (omega (arith, later, w.if-from-eq0.true)) | else-from-eq0 w ↦ w.so_far-is ])
    (c.requires.begun row c.loop-row-test.true)

pub loop-row-preserved : goal.loop-row-preserved
loop-row-preserved g c =
    entry_next (λ row. row_sum_of c.args.until c.args.entries.now c.args.shards.now c.args.starts.now row c.args.column) g.row.N c.loop-row.row _
    c.loop-row.sums c.loop-row.invariant.0 c.loop-row-test.true c.loop-row.invariant.1 c.column_sum.ensures
