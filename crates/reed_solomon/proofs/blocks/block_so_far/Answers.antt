use Rattle.std.proofs.Common.{arith}
use Rattle.reed_solomon.proofs.RowWriting.{row_read}
use Rattle.reed_solomon.proofs.blocks.block_so_far.Goals as goal

pub loop-row-init : goal.loop-row-init
loop-row-init g c = record { count = c.zero_block-sums.ensures.count; long = c.zero_block-sums.ensures.long; held = λ row lane below inside. absurd (omega (arith, below)) }

pub loop-row-preserved : goal.loop-row-preserved
loop-row-preserved g c =
    row_read g.row.N c.loop-row.row c.args.column c.args.rows.now c.args.out.now c.loop-row.sums c.loop-row.invariant c.loop-row-test.true
    (c.requires.room c.loop-row.row c.loop-row-test.true)
