-- 2 ^ k squarings return an element of level k.
use Rattle.field_base.proofs.TowerTraces.{squarings_return}
use Rattle.field_base.proofs.laws.frobenius_returns.Goals as goal

pub returns : goal.returns
returns c = squarings_return
