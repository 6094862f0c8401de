-- What products by one scalar take in two lanes: words of the scalar and of its companion, or of sums of tabled products.
use Rattle.std.specs.Prelude.{◌≡◌, ℕ, ◌+◌, ◌*◌, ◌/◌, ◌%◌, ◌^◌, ◌<◌, List, [], ◌∷◌, bit_xor, slice_index}
use Rattle.field_base.specs.Remainder.{ghash_modulus, rem}
use Rattle.ghash_slices.specs.LowStages.{ghash_product}

-- the scalar times x^64
abbrev pub companion : ℕ → ℕ
companion scalar = ghash_product scalar (2 ^ 64)

-- a product by a scalar is taken word by word: the low word of a value times the scalar, and its high word times the companion
abbrev pub CompanionLaw : Type 0
CompanionLaw =
    (scalar low high : ℕ) → low < 2 ^ 64 → high < 2 ^ 64
    → ghash_product scalar (high * 2 ^ 64 + low) ≡ bit_xor (ghash_product scalar low) (ghash_product (companion scalar) high)

-- the low words of the scalar and of its companion
abbrev pub low_words_of : ℕ → List ℕ
low_words_of scalar = scalar % 2 ^ 64 ∷ companion scalar % 2 ^ 64 ∷ []

-- and the high words
abbrev pub high_words_of : ℕ → List ℕ
high_words_of scalar = scalar / 2 ^ 64 ∷ companion scalar / 2 ^ 64 ∷ []

-- the remainder of the number of three words in a lane, the lowest first
abbrev pub remainder_at : List ℕ → List ℕ → List ℕ → ℕ → ℕ
remainder_at w0 w1 w2 lane =
    rem 128 ghash_modulus (slice_index w2 lane * 2 ^ 128 + (slice_index w1 lane * 2 ^ 64 + slice_index w0 lane))

-- the two words of a number
abbrev pub two_words : ℕ → List ℕ
two_words x = x % 2 ^ 64 ∷ x / 2 ^ 64 ∷ []

-- the product of the scalar for place 16 i + d of its tables, that by d x^(4 i)
abbrev pub digit_product : ℕ → ℕ → ℕ
digit_product scalar p = ghash_product scalar (p % 16 * 2 ^ (4 * (p / 16)))
