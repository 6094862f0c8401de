use Rattle.field_base.specs.Basis.{poly64_images}
use Rattle.field_base.specs.Remainder.{poly64_modulus}
use Rattle.word_tables.proofs.Isomorphisms.{isomorphic_64}
use Rattle.word_tower.proofs.Images.{product_by_images}
use Rattle.word_tower.proofs.levels.Bits64LevelU64.multiply.Goals as goal

pub returns : goal.returns
returns c =
    product_by_images 6 64 poly64_modulus poly64_images isomorphic_64.homomorphism c.args.x c.args.y c.to_polynomial_64.result
    c.to_polynomial_64-2.result c.multiply_mod_64.result _ c.to_polynomial_64.ensures c.to_polynomial_64-2.ensures
    c.multiply_mod_64.ensures c.to_tower_64.ensures.only
