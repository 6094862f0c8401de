use Rattle.shard_files.proofs.Returns.{shards_return_law}
use Rattle.shard_files.proofs.laws.shards_return.Goals as goal

pub returns : goal.returns
returns c = shards_return_law
