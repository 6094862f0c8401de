use Rattle.transcripts.proofs.Binding.{paths_bind}
use Rattle.transcripts.proofs.merkle_paths.paths_bind.Goals as goal

pub returns : goal.returns
returns c = paths_bind
