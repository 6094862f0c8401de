-- The law of runs.
use Rattle.transcripts.proofs.Runs.{runs_join}
use Rattle.transcripts.proofs.byte_challenger.runs_join.Goals as goal

pub returns : goal.returns
returns g c = runs_join _
