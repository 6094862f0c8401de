use Rattle.std.proofs.Common.{◌∙◌}
use Rattle.shard_files.proofs.InMemory.{file_others, file_set}
use Rattle.shard_files.proofs.memory.MemoryShards.lose_one.Goals as goal

pub returns-then-is_lost-clause-gone : goal.returns-then-is_lost-clause-gone
returns-then-is_lost-clause-gone c =
    λ is. file_set c.args.self.now.files.items c.args.index c.clear.new.self c.requires ∙ c.clear.ensures.items

pub returns-then-is_lost-clause-others : goal.returns-then-is_lost-clause-others
returns-then-is_lost-clause-others c = λ other apart. file_others c.args.self.now.files.items c.args.index other c.clear.new.self apart
