use Rattle.transcripts.proofs.OpeningPaths.{openings_bind}
use Rattle.transcripts.proofs.openings.openings_bind.Goals as goal

pub returns : goal.returns
returns c = openings_bind
