use Rattle.additive_transforms.specs.Rows.{level_of}
use Rattle.additive_transforms.proofs.LevelProducts.{pair_in_level}
use Rattle.additive_transforms.proofs.products.ChunkScalarMultiplies.pair.Goals as goal

pub returns : goal.returns
returns g c s is =
    pair_in_level c.args.self.now.inverse (level_of g.M.Scales.depth) g.L.Level.LEVEL g.R.Stored.bits s (g.R.Stored.number c.args.lo) (g.R.Stored.number c.args.hi)
    _ _ _ _ _ _ is.2 g.L.Level.few g.met.L.Level.room_law is.1 c.to_u128.ensures c.to_u128-2.ensures c.of_u128.ensures c.of_u128-2.ensures
    (c.pair_of_numbers-low.ensures s is.0 is.1)
