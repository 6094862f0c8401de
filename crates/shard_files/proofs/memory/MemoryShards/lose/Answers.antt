use Rattle.std.proofs.Common.{inl, arith}
use Rattle.shard_files.proofs.InMemory.{loses_all, loses_more, loses_none}
use Rattle.shard_files.proofs.memory.MemoryShards.lose.Goals as goal

pub loop-index-init : goal.loop-index-init
loop-index-init c = loses_none c.args.lost.now c.args.self.now.files.items

pub loop-index-preserved : goal.loop-index-preserved
loop-index-preserved c =
    let lost = c.lose_one.ensures in
    loses_more c.loop-index.index c.args.lost.now c.args.self.now.files.items c.loop-index.self.files.items c.lose_one.new.self.files.items
    c.is_set.result c.is_set.ensures c.loop-index.invariant lost.count lost.gone lost.left lost.others

pub returns-clause-gone : goal.returns-clause-gone
returns-clause-gone c =
    loses_all c.loop-index.index c.args.lost.now c.args.self.now.files.items c.loop-index.self.files.items c.loop-index.invariant
    (omega (arith, c.loop-index-test.false))

pub returns-clause-left : goal.returns-clause-left
returns-clause-left c = λ index stays. c.loop-index.invariant.stays index (inl stays)
