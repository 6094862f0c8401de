-- The law of elements.
use Rattle.transcript_elements.proofs.JoinedLemmas.{elements_join}
use Rattle.transcript_elements.proofs.joined.elements_join.Goals as goal

pub returns : goal.returns
returns g c = elements_join _ _ _
