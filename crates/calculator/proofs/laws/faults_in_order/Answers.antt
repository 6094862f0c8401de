-- The order of the faults.
use Rattle.calculator.proofs.FaultLemmas.{FaultsInOrder-answer_of}
use Rattle.calculator.proofs.laws.faults_in_order.Goals as goal

pub returns : goal.returns
returns c = FaultsInOrder-answer_of
