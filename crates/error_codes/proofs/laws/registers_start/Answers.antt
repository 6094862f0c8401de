use Rattle.error_codes.proofs.Massey.{registers_start}
use Rattle.error_codes.proofs.laws.registers_start.Goals as goal

pub returns : goal.returns
returns c = registers_start
