-- n squarings are the power 2 ^ n in any ring.
use Rattle.field_base.proofs.PowerLemmas.{repeated_square-power}
use Rattle.field_base.proofs.laws.squarings_are_powers.Goals as goal

pub returns : goal.returns
returns c = repeated_square-power
