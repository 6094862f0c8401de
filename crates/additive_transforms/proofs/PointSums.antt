-- A point as a sum of vectors in a list.
use Rattle.std.proofs.Common.{◌≡◌, ℕ, ◌*◌, ◌<◌, List, length, ◌∙◌, ap}
use Rattle.std.specs.Prelude.{bit_xor, slice_index}
use Rattle.std.specs.Int.{bit_at}
use Rattle.field_base.specs.Basis.{sum_below}
use Rattle.field_base.specs.LinearMaps.{linear_image}
use Rattle.field_base.proofs.BasisSums.{sum_below-same}
use Rattle.ghash_slices.specs.Cantor.{point}
use Rattle.ghash_slices.specs.LowStages.{ghash_cantor_vector}

-- z, and the images of the set bits of p where image b is vector b
pub point_is : (z p : ℕ) (vectors : List ℕ) → length vectors ≡ 128
    → ((b : ℕ) → b < 128 → slice_index vectors b ≡ ghash_cantor_vector b)
    → bit_xor z (linear_image vectors p) ≡ point 128 ghash_cantor_vector z p
unfolding linear_image point
point_is z p vectors long are =
    ap (bit_xor z)
    (ap (sum_below (λ b. bit_at p b * slice_index vectors b)) long
    ∙ sum_below-same (λ b. bit_at p b * slice_index vectors b) (λ b. bit_at p b * ghash_cantor_vector b) 128
    (λ b below. ap (λ (v : ℕ). bit_at p b * v) (are b below)))
