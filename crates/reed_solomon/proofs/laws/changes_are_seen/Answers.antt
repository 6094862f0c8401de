use Rattle.reed_solomon.proofs.RoundTrip.{changes_are_seen}
use Rattle.reed_solomon.proofs.laws.changes_are_seen.Goals as goal

pub returns : goal.returns
returns c = changes_are_seen
