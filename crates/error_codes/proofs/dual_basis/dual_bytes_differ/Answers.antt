use Rattle.error_codes.proofs.DualBytes.{dual-differ, dual-sums}
use Rattle.error_codes.proofs.dual_basis.dual_bytes_differ.Goals as goal

pub returns-clause-each : goal.returns-clause-each
returns-clause-each c = dual-differ

pub returns-clause-sums : goal.returns-clause-sums
returns-clause-sums c = dual-sums
