use Rattle.shard_files.proofs.OneSplit.{files_are_one_law, splits_are_one_law}
use Rattle.shard_files.proofs.laws.splits_are_one.Goals as goal

pub returns-clause-stripes : goal.returns-clause-stripes
returns-clause-stripes c = splits_are_one_law c.changes_are_seen.ensures c.shards_determine.ensures

pub returns-clause-files : goal.returns-clause-files
returns-clause-files c = files_are_one_law (splits_are_one_law c.changes_are_seen.ensures c.shards_determine.ensures)
