use Rattle.error_codes.proofs.Registers.{registers_solve}
use Rattle.error_codes.proofs.laws.registers_solve.Goals as goal

pub returns : goal.returns
returns c = registers_solve
