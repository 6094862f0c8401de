use Rattle.any_field.proofs.Tests.{ben_or_is_exact}
use Rattle.any_field.proofs.laws.ben_or_is_exact.Goals as goal

pub returns : goal.returns
returns c = ben_or_is_exact
