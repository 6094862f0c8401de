-- The Cantor vectors of the field of GHASH.
use Rattle.std.proofs.Common.{refl, arith}
use Rattle.field_base.specs.Basis.{basis_image, ghash_images}
use Rattle.field_base.specs.Orders.{AreCantorVectors}
use Rattle.field_base.specs.Remainder.{ghash_modulus}
use Rattle.field_base.proofs.RemainderRing.{ghash_ring}
use Rattle.field_base.proofs.TowerBasisLemmas.{basis-cantor}
use Rattle.word_tables.proofs.Isomorphisms.{isomorphic_128}
use Rattle.word_tables.specs.Cantor.{cantor_vector}
use Rattle.word_tables.proofs.LevelLaws.{level_cantor}
use Rattle.ghash_slices.specs.LowStages.{ghash_cantor_vector, ghash_product}

-- the images of the tower's Cantor vectors are Cantor vectors of the field
pub ghash_vectors : AreCantorVectors 128 ghash_product ghash_cantor_vector
ghash_vectors =
    basis-cantor 7 128 ghash_product (basis_image 128 ghash_modulus ghash_images) ghash_ring
    isomorphic_128.isomorphism cantor_vector (level_cantor 7 (omega arith)) refl
