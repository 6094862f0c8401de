use Rattle.transcripts.proofs.OpeningPaths.{openings_lead}
use Rattle.transcripts.proofs.openings.openings_lead.Goals as goal

pub returns : goal.returns
returns c = openings_lead
