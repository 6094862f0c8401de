-- What the four low stages of an additive transform leave in runs of sixteen places, with products of polynomials modulo
-- x^128 + x^7 + x^2 + x + 1.
use Rattle.std.specs.Prelude.{◌≡◌, ℕ, ◌+◌, ◌*◌, ◌<◌, List, length, slice_index}
use Rattle.field_base.specs.Basis.{basis_image, ghash_images}
use Rattle.field_base.specs.Remainder.{ghash_modulus, mul_mod}
use Rattle.ghash_slices.specs.Cantor.{AreCantorTwiddles, point, polynomial_value}
use Rattle.ghash_slices.specs.Stages.{factor, sum_of_factors}
use Rattle.word_tables.specs.Cantor.{cantor_vector}

-- the product
abbrev pub ghash_product : ℕ → ℕ → ℕ
ghash_product = mul_mod 128 ghash_modulus

-- Cantor vector i of the field: the image of that of the tower
abbrev pub ghash_cantor_vector : ℕ → ℕ
ghash_cantor_vector i = basis_image 128 ghash_modulus ghash_images (cantor_vector i)

-- the values from a place on
abbrev pub values_from : List ℕ → ℕ → ℕ → ℕ
values_from values start k = slice_index values (start + k)

-- the runs being numbered from `first_run` on, place p = 16 (first_run + run) + i holds the sum over k below 16 of value k of
-- the run as it was, times the product of the place's factors at the set bits of k
abbrev pub HoldSums : List ℕ → List ℕ → ℕ → List ℕ → List ℕ → Type 0
HoldSums shifts basis first_run old new =
    (run i : ℕ) → i < 16 → 16 * run + i < length old
    → slice_index new (16 * run + i)
    ≡ sum_of_factors ghash_product (λ j. factor shifts basis j (16 * (first_run + run) + i)) 4 (values_from old (16 * run))

-- place p holds the value at point p of the polynomial whose coefficients the run held: point p is z, and a Cantor vector for
-- each set bit of p
abbrev pub HoldValues : ℕ → ℕ → List ℕ → List ℕ → Type 0
HoldValues z first_run old new =
    (run i : ℕ) → i < 16 → 16 * run + i < length old
    → slice_index new (16 * run + i)
    ≡ polynomial_value ghash_product 4 (values_from old (16 * run)) (point 128 ghash_cantor_vector z (16 * (first_run + run) + i))

-- so the places do where the shifts and the basis are the twiddles for the points from some z on
abbrev pub HoldValuesAtCantorPoints : List ℕ → List ℕ → ℕ → List ℕ → List ℕ → Type 0
HoldValuesAtCantorPoints shifts basis first_run old new =
    (z : ℕ) → AreCantorTwiddles 128 ghash_product ghash_cantor_vector z 4 shifts basis → HoldValues z first_run old new
