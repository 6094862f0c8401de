use Rattle.transcripts.proofs.Statements.{statements_differ}
use Rattle.transcripts.proofs.commitment.statements_differ.Goals as goal

pub returns : goal.returns
returns c = statements_differ
