use Rattle.field_base.specs.Basis.{ghash_images}
use Rattle.field_base.specs.Remainder.{ghash_modulus}
use Rattle.word_tables.proofs.Isomorphisms.{isomorphic_128}
use Rattle.word_tower.proofs.Images.{product_by_images}
use Rattle.word_tower.proofs.levels.Bits128LevelU128.multiply.Goals as goal

pub returns : goal.returns
returns c =
    product_by_images 7 128 ghash_modulus ghash_images isomorphic_128.homomorphism c.args.x c.args.y c.to_polynomial_128.result
    c.to_polynomial_128-2.result c.multiply_mod_128.result _ c.to_polynomial_128.ensures c.to_polynomial_128-2.ensures
    c.multiply_mod_128.ensures c.to_tower_128.ensures.only
