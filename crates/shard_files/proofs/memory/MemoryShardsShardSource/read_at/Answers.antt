use Rattle.std.proofs.Common.{length, ◌∙◌}
use Rattle.shard_files.proofs.InMemory.{held-reads}
use Rattle.shard_files.proofs.memory.MemoryShardsShardSource.read_at.Goals as goal

pub returns-clause-read : goal.returns-clause-read
returns-clause-read c =
    λ files held is. held-reads _ _ c.args.place c.args.start (length c.args.bytes.now) _ held c.file.ensures ∙ c.read_part.ensures.read is

pub returns-clause-missed : goal.returns-clause-missed
returns-clause-missed c =
    λ files held is. held-reads _ _ c.args.place c.args.start (length c.args.bytes.now) _ held c.file.ensures ∙ c.read_part.ensures.missed is
