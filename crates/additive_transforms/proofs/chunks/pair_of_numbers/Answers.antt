use Rattle.additive_transforms.proofs.LevelProducts.{same_pair}
use Rattle.field_base.specs.Tower.{tower_mul}
use Rattle.std.proofs.Common.{sym}
use Rattle.additive_transforms.proofs.chunks.pair_of_numbers.Goals as goal

pub returns : goal.returns
returns g c s are fits =
    same_pair c.args.inverse (tower_mul 7) s _ _ _ _ _ _ _ _ c.vector_of_one.ensures c.vector_of_one-2.ensures (sym c.number_of_one.ensures)
    (sym c.number_of_one-2.ensures) (c.pair_of_vectors.ensures s are fits 4 g.met.M.Scales.few_law 0)
