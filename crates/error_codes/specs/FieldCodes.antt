-- Codes over any field of at most 2 ^ 16 elements. A word is a list of numbers, and a word of symbols one of numbers below 2 ^ width.
use Rattle.std.specs.Prelude.{◌≡◌, ℕ, ◌+◌, ◌^◌, ◌<◌, List, length, slice_index}
use Rattle.field_base.specs.Powers.{power}
use Rattle.error_codes.specs.Correcting.{code_value}
use Rattle.error_codes.specs.Filling.{falling_point}

-- the first n symbols of a word are elements
abbrev pub AreSymbols : ℕ → ℕ → List ℕ → Type 0
AreSymbols width n word = (i : ℕ) → i < n → slice_index word i < 2 ^ width

-- the coefficients of a monic polynomial with these roots, as many as its degree is, the highest first
pub record IsGenerator (times : ℕ → ℕ → ℕ) (root first checks : ℕ) (coefficients : List ℕ) : Type 0 where
  pub count : length coefficients ≡ checks + 1
  pub monic : slice_index coefficients 0 ≡ 1
  pub zeros : (m : ℕ) → m < checks
      → code_value times (checks + 1) (slice_index coefficients) (power 1 times root (first + m)) ≡ 0

-- the points of a word of n symbols
abbrev pub AreFallingPoints : (ℕ → ℕ → ℕ) → ℕ → ℕ → List ℕ → Type 0
AreFallingPoints times root n points = (i : ℕ) → i < n → slice_index points i ≡ falling_point times root n i
