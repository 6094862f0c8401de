use Rattle.std.proofs.Common.{length}
use Rattle.shard_files.proofs.Splittable.{splittable}
use Rattle.shard_files.proofs.round_trip.layout_of.Goals as goal

pub returns-clause-accepted : goal.returns-clause-accepted
returns-clause-accepted c =
    splittable c.of_file-origin.result c.args.code c.args.data_shards c.args.parity_shards (length c.args.content.now)
    c.of_file-origin.ensures.counts c.of_file-origin.ensures.named.0 c.of_file-origin.ensures.size c.of_file-origin.ensures.even c.of.ensures.accepted
