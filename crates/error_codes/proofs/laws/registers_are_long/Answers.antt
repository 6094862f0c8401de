use Rattle.error_codes.proofs.Massey.{registers_are_long}
use Rattle.error_codes.proofs.laws.registers_are_long.Goals as goal

pub returns : goal.returns
returns c = registers_are_long
