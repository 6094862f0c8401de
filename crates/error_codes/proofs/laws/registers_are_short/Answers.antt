use Rattle.error_codes.proofs.ShortRegisters.{registers_are_short}
use Rattle.error_codes.proofs.laws.registers_are_short.Goals as goal

pub returns : goal.returns
returns c = registers_are_short
