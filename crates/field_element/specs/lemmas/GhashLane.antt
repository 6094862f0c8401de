-- Four lanes that each hold the image of one element of the 128-bit level in the field of GHASH. These lemmas stand here since an
-- implementation of a trait cites them.
use Rattle.std.proofs.Common.{◌≡◌, ◌≢◌, ℕ, ◌^◌, ◌<◌, replicate, sym, ◌∙◌, ap}
use Rattle.std.specs.Prelude.{bit_xor}
use Rattle.field_base.specs.Chunks.{joined}
use Rattle.field_base.specs.Remainder.{ghash_modulus, mul_mod}
use Rattle.field_base.specs.Tower.{tower_mul}
use Rattle.field_element.specs.GhashLanes.{ghash_image, ghash_image_lanes}
use Rattle.packed_lanes.specs.lemmas.LaneList.{every_product, every_same, every_sum}
use Rattle.packed_lanes.specs.Lanes.{lane_product}
use Rattle.word_tables.proofs.Isomorphisms.{field_128, isomorphic_128}

-- an image is an element of the field
pub ghash_image-below : (a : ℕ) → ghash_image a < 2 ^ 128
ghash_image-below = isomorphic_128.homomorphism.below

-- the image of 1 is 1 in every lane
pub ghash_lanes-one : ghash_image_lanes 1 ≡ joined 128 (replicate 4 1)
ghash_lanes-one = ap (λ (x : ℕ). joined 128 (replicate 4 x)) isomorphic_128.homomorphism.one_image

-- the image of a sum is the sum of the images
pub ghash_lanes-sum : (a b : ℕ) → ghash_image_lanes (bit_xor a b) ≡ bit_xor (ghash_image_lanes a) (ghash_image_lanes b)
ghash_lanes-sum a b =
    ap (λ (x : ℕ). joined 128 (replicate 4 x)) (isomorphic_128.homomorphism.sum_image a b)
    ∙ every_sum 128 4 (ghash_image a) (ghash_image b) (ghash_image-below a) (ghash_image-below b)

-- the image of a product is the product of the images, lane by lane
pub ghash_lanes-product : (a b : ℕ) → ghash_image_lanes (tower_mul 7 a b)
    ≡ lane_product 128 (mul_mod 128 ghash_modulus) 4 (ghash_image_lanes a) (ghash_image_lanes b)
ghash_lanes-product a b =
    ap (λ (x : ℕ). joined 128 (replicate 4 x)) (isomorphic_128.homomorphism.product_image a b)
    ∙ every_product 128 1 (mul_mod 128 ghash_modulus) field_128.ring 4 (ghash_image a) (ghash_image b) (ghash_image-below a) (ghash_image-below b)

-- elements of one image are one
pub ghash_lanes-same : joined 128 (replicate 4 1) ≢ 0 → (a b : ℕ) → a < 2 ^ 128 → b < 2 ^ 128
    → ghash_image_lanes a ≡ ghash_image_lanes b → a ≡ b
ghash_lanes-same proper a b a_fits b_fits same =
    sym (isomorphic_128.isomorphism.inverse_of_image a a_fits)
    ∙ ap isomorphic_128.isomorphism.inverse
    (every_same 128 1 4 (ghash_image a) (ghash_image b) (ghash_image-below a) (ghash_image-below b) proper same)
    ∙ isomorphic_128.isomorphism.inverse_of_image b b_fits
