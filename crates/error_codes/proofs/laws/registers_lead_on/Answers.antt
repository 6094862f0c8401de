use Rattle.error_codes.proofs.Massey.{registers_lead_on}
use Rattle.error_codes.proofs.laws.registers_lead_on.Goals as goal

pub returns : goal.returns
returns c = registers_lead_on
