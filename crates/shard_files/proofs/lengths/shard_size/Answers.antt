use Rattle.shard_files.proofs.Sizes.{even_size_is}
use Rattle.shard_files.proofs.lengths.shard_size.Goals as goal

pub returns-clause-size : goal.returns-clause-size
returns-clause-size c =
    even_size_is c.args.data_shards c.args.total c.args.length c.parts.result c.clamp-most.result c.saturating_mul.result c.parts-stripes.result
    c.saturating_mul-2.result c.parts-2.result c.clamp.result c.ranges.length.fits c.parts.ensures c.clamp-most.ensures c.saturating_mul.ensures
    c.parts-stripes.ensures c.saturating_mul-2.ensures c.parts-2.ensures c.clamp.ensures
