use Rattle.reed_solomon.proofs.RoundTrip.{lost_shards_return}
use Rattle.reed_solomon.proofs.laws.lost_shards_return.Goals as goal

pub returns : goal.returns
returns c = lost_shards_return
