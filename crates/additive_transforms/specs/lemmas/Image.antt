-- The polynomials modulo that of GHASH are a ring of 128 bits with Cantor vectors, in which images lie.
use Rattle.std.specs.Prelude.{ℕ, ◌^◌, ◌<◌}
use Rattle.field_base.specs.Orders.{AreCantorVectors}
use Rattle.field_base.specs.Ring.{IsRing}
use Rattle.field_base.proofs.RemainderRing.{ghash_ring}
use Rattle.ghash_slices.specs.LowStages.{ghash_cantor_vector, ghash_product}
use Rattle.ghash_slices.proofs.GhashVectors.{ghash_vectors}
use Rattle.additive_transforms.specs.Images.{tower_image}
use Rattle.word_tables.proofs.Isomorphisms.{isomorphic_128}

pub ghash_ring_laws : IsRing 128 1 ghash_product
ghash_ring_laws = ghash_ring

pub ghash_vector_laws : AreCantorVectors 128 ghash_product ghash_cantor_vector
ghash_vector_laws = ghash_vectors

pub image_fits : (a : ℕ) → tower_image a < 2 ^ 128
image_fits a = isomorphic_128.homomorphism.below a
