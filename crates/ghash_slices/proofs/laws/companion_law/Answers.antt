use Rattle.ghash_slices.proofs.SplitProducts.{companion_law}
use Rattle.ghash_slices.proofs.laws.companion_law.Goals as goal

pub returns : goal.returns
returns c = companion_law
