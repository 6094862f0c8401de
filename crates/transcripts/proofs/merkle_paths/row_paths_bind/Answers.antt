use Rattle.transcripts.proofs.Binding.{row_paths_bind}
use Rattle.transcripts.proofs.merkle_paths.row_paths_bind.Goals as goal

pub returns : goal.returns
returns c = row_paths_bind
