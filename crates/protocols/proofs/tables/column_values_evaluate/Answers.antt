use Rattle.protocols.proofs.TableLaws.{column_values_evaluate}
use Rattle.protocols.proofs.tables.column_values_evaluate.Goals as goal

pub returns : goal.returns
returns c = column_values_evaluate
