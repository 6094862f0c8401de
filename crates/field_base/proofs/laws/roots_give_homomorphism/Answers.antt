-- The homomorphism, by induction on the level.
use Rattle.field_base.proofs.BasisIsomorphism.{roots_give_homomorphism}
use Rattle.field_base.proofs.laws.roots_give_homomorphism.Goals as goal

pub returns : goal.returns
returns c = roots_give_homomorphism
