use Rattle.ghash_slices.proofs.SliceLemmas.{butterflies_restore}
use Rattle.ghash_slices.proofs.slices.butterflies_restore.Goals as goal

pub returns : goal.returns
returns c = butterflies_restore
