use Rattle.field_base.specs.Tower.{tower_mul}
use Rattle.additive_transforms.proofs.PairLoops.{pair_back, pair_on}
use Rattle.additive_transforms.proofs.LevelProducts.{sum_in_level}
use Rattle.additive_transforms.proofs.products.WholeScalarMultiplies.pair.Goals as goal

pub returns-then-inverse : goal.returns-then-inverse
returns-then-inverse g c s is =
    let k = g.L.Level.LEVEL in
    pair_back (tower_mul k) s _ _ _ _ c.args.self.now.inverse c.if-inverse.true (sum_in_level k _ _ _ c.xor-high.ensures) (c.sum_of_multiple.ensures s is)

pub returns-else-inverse : goal.returns-else-inverse
returns-else-inverse g c s is =
    let k = g.L.Level.LEVEL in
    pair_on (tower_mul k) s _ _ _ _ c.args.self.now.inverse c.if-inverse.false (c.sum_of_multiple-low.ensures s is) (sum_in_level k _ _ _ c.xor.ensures)
