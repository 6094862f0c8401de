use Rattle.any_field.proofs.PrimeTable.{prime-above}
use Rattle.any_field.proofs.extension.orders.prime_at.Goals as goal

pub returns-clause-above : goal.returns-clause-above
returns-clause-above c = prime-above c.args.place c.requires
