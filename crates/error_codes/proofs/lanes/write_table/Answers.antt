use Rattle.std.proofs.Common.{arith}
use Rattle.reed_solomon.specs.ByteFields.{byte_times}
use Rattle.error_codes.proofs.LaneRegisters.{table-more, table-none}
use Rattle.error_codes.proofs.lanes.write_table.Goals as goal

pub loop-n-init : goal.loop-n-init
loop-n-init c = table-none (byte_times c.args.field) c.args.scalar c.args.start c.args.tables.now

pub loop-n-preserved : goal.loop-n-preserved
loop-n-preserved c =
    table-more (byte_times c.args.field) c.args.scalar c.args.start c.loop-n.n c.multiply-low.result c.multiply-high.result c.args.tables.now
    c.loop-n.tables c.loop-n-test.true c.requires c.multiply-low.ensures c.multiply-high.ensures c.loop-n.invariant

pub returns-clause-low : goal.returns-clause-low
returns-clause-low c = λ n below. c.loop-n.invariant.low n (omega (arith, below, c.loop-n-test.false))

pub returns-clause-high : goal.returns-clause-high
returns-clause-high c = λ n below. c.loop-n.invariant.high n (omega (arith, below, c.loop-n-test.false))

pub returns-clause-before : goal.returns-clause-before
returns-clause-before c = c.loop-n.invariant.before
