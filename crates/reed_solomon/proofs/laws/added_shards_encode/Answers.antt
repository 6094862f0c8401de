use Rattle.reed_solomon.proofs.AddedShards.{added_shards_encode}
use Rattle.reed_solomon.proofs.laws.added_shards_encode.Goals as goal

pub returns : goal.returns
returns c = added_shards_encode
