use Rattle.transcripts.proofs.Binding.{caps_bind}
use Rattle.transcripts.proofs.caps.caps_bind.Goals as goal

pub returns : goal.returns
returns c = caps_bind
