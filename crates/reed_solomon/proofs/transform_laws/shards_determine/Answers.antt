use Rattle.reed_solomon.proofs.CodeWordPlaces.{shards_determine}
use Rattle.reed_solomon.proofs.transform_laws.shards_determine.Goals as goal

pub returns : goal.returns
returns c = shards_determine
