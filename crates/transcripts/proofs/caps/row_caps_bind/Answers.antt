use Rattle.transcripts.proofs.Binding.{row_caps_bind}
use Rattle.transcripts.proofs.caps.row_caps_bind.Goals as goal

pub returns : goal.returns
returns c = row_caps_bind
