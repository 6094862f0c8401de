use Rattle.any_field.proofs.Rabin.{rabin_is_exact}
use Rattle.any_field.proofs.laws.rabin_is_exact.Goals as goal

pub returns : goal.returns
returns c = rabin_is_exact
