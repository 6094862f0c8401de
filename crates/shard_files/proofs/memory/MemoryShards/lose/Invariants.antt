use Rattle.shard_files.proofs.InMemory.{LosesBelow}
use Rattle.shard_files.proofs.memory.MemoryShards.lose.Given as goal

abbrev pub invariant-loop-index : goal.invariant-loop-index
invariant-loop-index l = LosesBelow l.index l.lost l.initial.self.files.items l.self.files.items
