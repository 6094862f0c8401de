use Rattle.std.proofs.Common.{[]}
use Rattle.shard_files.proofs.round_trip.identity_of.Goals as goal

pub returns : goal.returns
returns c = c.finalize.ensures _ (c.update.ensures [] c.new-hasher.ensures)
