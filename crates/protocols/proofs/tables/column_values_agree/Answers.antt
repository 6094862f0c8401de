use Rattle.protocols.proofs.TableLaws.{column_values_agree}
use Rattle.protocols.proofs.tables.column_values_agree.Goals as goal

pub returns : goal.returns
returns c = column_values_agree
