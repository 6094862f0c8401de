use Rattle.transcripts.proofs.PathChecks.{leads_as_cap}
use Rattle.transcripts.proofs.merkle_paths.verify_row.Goals as goal

pub returns : goal.returns
returns g c = leads_as_cap _ _ _ _ _ _ _ c.in_ok-leads.ensures
