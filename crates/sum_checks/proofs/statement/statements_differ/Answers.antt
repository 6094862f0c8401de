use Rattle.sum_checks.proofs.SumcheckStatements.{statements_differ}
use Rattle.sum_checks.proofs.statement.statements_differ.Goals as goal

pub returns : goal.returns
returns c = statements_differ
