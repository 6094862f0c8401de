use Rattle.error_codes.proofs.Massey.{registers_stay}
use Rattle.error_codes.proofs.laws.registers_stay.Goals as goal

pub returns : goal.returns
returns c = registers_stay
