use Rattle.any_field.proofs.Rabin.{inverses_give_field}
use Rattle.any_field.proofs.laws.inverses_give_field.Goals as goal

pub returns : goal.returns
returns c = inverses_give_field
