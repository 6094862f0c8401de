use Rattle.transcripts.proofs.NodeCounts.{openings_have_one_count}
use Rattle.transcripts.proofs.openings.openings_have_one_count.Goals as goal

pub returns : goal.returns
returns c = openings_have_one_count
