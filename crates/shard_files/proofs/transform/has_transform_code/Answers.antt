use Rattle.std.proofs.Common.{refl}
use Rattle.shard_files.proofs.TransformWords.{few_shards}
use Rattle.shard_files.proofs.transform.has_transform_code.Goals as goal

pub returns-in-Some-clause-few : goal.returns-in-Some-clause-few
returns-in-Some-clause-few c = λ is. few_shards c.args.data_shards c.args.parity_shards (c.in-Some.ensures.accepted.0 refl).2
