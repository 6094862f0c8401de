-- The change of basis from the tower to a polynomial basis. A field of 2 ^ w elements is unique, so that level k of the
-- tower, whose elements have 2 ^ k bits, is the field of polynomials modulo an irreducible one of degree 2 ^ k (R. Lidl and
-- H. Niederreiter, Finite Fields, theorem 2.5). An isomorphism is given by the images of the roots that the tower adjoins.
use Rattle.std.specs.Prelude.{◌≡◌, ℕ, zero, suc, ◌*◌, ◌%◌, ◌^◌, ◌<◌, List, [], ◌∷◌, length, slice_index, bit_xor}
use Rattle.std.specs.Int.{bit_at}
use Rattle.field_base.specs.Powers.{power}
use Rattle.field_base.specs.Remainder.{HasDegree, mul_mod}
use Rattle.field_base.specs.Tower.{root, tower_mul}
use Rattle.field_base.specs.TowerBasis.{IsIsomorphism}

-- the sum of f 0, f 1, .., f (n - 1)
unfoldable pub sum_below : (ℕ → ℕ) → ℕ → ℕ
sum_below f zero = 0
sum_below f (suc n) = bit_xor (sum_below f n) (f n)

-- the product of f 0, f 1, .., f (n - 1) in a ring whose one is 1
unfoldable pub product_below : (ℕ → ℕ → ℕ) → (ℕ → ℕ) → ℕ → ℕ
product_below times f zero = 1
product_below times f (suc n) = times (product_below times f n) (f n)

-- the image of the element whose only set bit is j, which is the product of the roots of the levels m + 1 over the set
-- bits m of j: the product of the images of those roots. Entry m of `images` is the image of the root of level m + 1.
unfoldable pub bit_image : ℕ → ℕ → List ℕ → ℕ → ℕ
bit_image width modulus images j =
    product_below (mul_mod width modulus)
    (λ m. power 1 (mul_mod width modulus) (slice_index images m) (bit_at j m)) (length images)

-- the image of an element x of the level that has as many roots as `images`: the sum of the images of its set bits; of a
-- wider number it reads the bits of that level
unfoldable pub basis_image : ℕ → ℕ → List ℕ → ℕ → ℕ
basis_image width modulus images x =
    sum_below (λ j. bit_at x j * bit_image width modulus images j) (2 ^ length images)

-- each image X meets the equation of its root, X² + t X + 1 = 0, where t is the image before it, and 1 before the first
abbrev pub AreRoots : ℕ → ℕ → List ℕ → Type 0
AreRoots width modulus images =
    (m : ℕ) → m < length images
    → bit_xor
    (bit_xor (mul_mod width modulus (slice_index images m) (slice_index images m))
    (mul_mod width modulus (slice_index (1 ∷ images) m) (slice_index images m)))
    1
    ≡ 0

-- the map from level k to the polynomials modulo `modulus` carries 0, 1, sums and products to those of polynomials, and
-- each root to its image
pub record IsHomomorphism (k width modulus : ℕ) (images : List ℕ) : Type 0 where
  pub below : (a : ℕ) → basis_image width modulus images a < 2 ^ width
  pub zero_image : basis_image width modulus images 0 ≡ 0
  pub one_image : basis_image width modulus images 1 ≡ 1
  pub sum_image : (a b : ℕ) → basis_image width modulus images (bit_xor a b)
      ≡ bit_xor (basis_image width modulus images a) (basis_image width modulus images b)
  pub product_image : (a b : ℕ) → basis_image width modulus images (tower_mul k a b)
      ≡ mul_mod width modulus (basis_image width modulus images a) (basis_image width modulus images b)
  pub root_image : (m : ℕ) → m < k → basis_image width modulus images (root (suc m)) ≡ slice_index images m % 2 ^ width

-- and it is an isomorphism of fields
pub record IsChangeOfBasis (k width modulus : ℕ) (images : List ℕ) : Type 0 where
  pub homomorphism : IsHomomorphism k width modulus images
  pub isomorphism : IsIsomorphism k width (mul_mod width modulus) (basis_image width modulus images)

-- the images of the roots modulo any polynomial give a homomorphism where they meet the equations of the roots
abbrev pub RootsGiveHomomorphism : Type 0
RootsGiveHomomorphism = (width modulus : ℕ) (images : List ℕ) → 0 < width → HasDegree width modulus
    → AreRoots width modulus images → IsHomomorphism (length images) width modulus images

-- ---- the images of the roots in three fields

-- modulo x^8 + x^4 + x^3 + x + 1, each the least that meets its equation
abbrev pub aes_images : List ℕ
aes_images = 0xbc ∷ 0x0c ∷ 0x35 ∷ []

-- modulo x^64 + x^4 + x^3 + x + 1
abbrev pub poly64_images : List ℕ
poly64_images =
    0x19c9_369f_278a_dc03 ∷ 0xfc39_a481_a127_aa9d ∷ 0xae4a_b740_40e7_9118 ∷ 0xed58_cafe_f8f2_2bc9
    ∷ 0xea6b_20d9_15fd_bb77 ∷ 0x3f2a_7c50_1e89_8bcd ∷ []

-- modulo x^128 + x^7 + x^2 + x + 1
abbrev pub ghash_images : List ℕ
ghash_images =
    0x295a_c0b1_f473_1af9_676a_ac9f_a4b2_0b08 ∷ 0x7959_d70c_e1ee_6942_53b8_5b64_02b1_e849
    ∷ 0x6cfe_46e8_277b_2e9d_f167_7bc1_710c_5c54 ∷ 0xd748_3fda_e776_3b6f_f501_c92b_7a41_cc34
    ∷ 0x681c_6a8c_3679_2c02_92d6_dad7_72f9_2df5 ∷ 0x496c_b27f_a3eb_e728_9596_0776_ef42_f90b
    ∷ 0x9cfc_a256_33f9_993f_4e1f_5110_70b2_3e78 ∷ []
