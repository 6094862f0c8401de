use Rattle.std.proofs.Common.{ℕ, ◌+◌, slice_index, arith}
use Rattle.reed_solomon.specs.Tables.{row_sum_of}
use Rattle.reed_solomon.proofs.RowWriting.{rows_rewritten}
use Rattle.reed_solomon.proofs.blocks.add_all.Goals as goal

pub loop-done-preserved : goal.loop-done-preserved
loop-done-preserved g c =
    let done = c.loop-done.done in
    let sums = λ (n : ℕ). row_sum_of n c.args.sources.now.entries.now c.args.sources.now.shards.now c.args.sources.now.starts.now in (
      omega (arith, c.loop-done-test.true),
      rows_rewritten (sums (done + 2)) (sums done) (slice_index c.args.rows.now) g.row.N c.args.sources.now.size c.args.out.now c.loop-done.out
          c.add_shards-in-loop-done.new.out c.loop-done.invariant.1 c.add_shards-in-loop-done.ensures,
    )

pub loop-j-preserved : goal.loop-j-preserved
loop-j-preserved g c =
    let j = c.loop-j.j in
    let sums = λ (n : ℕ). row_sum_of n c.args.sources.now.entries.now c.args.sources.now.shards.now c.args.sources.now.starts.now in
    rows_rewritten (sums (j + 1)) (sums j) (slice_index c.args.rows.now) g.row.N c.args.sources.now.size c.args.out.now c.loop-j.out
    c.add_shards-in-loop-j.new.out c.loop-j.invariant c.add_shards-in-loop-j.ensures
