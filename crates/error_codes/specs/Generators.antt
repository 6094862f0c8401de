-- Codes by a generator polynomial, as standards state them: a word is the list of the coefficients of a multiple of the
-- product of x + r^(b + j). Its syndromes are its values at these roots, and it is a word of the code by checks with
-- the points r^i and the scales r^(b i).
use Rattle.std.specs.Prelude.{◌≡◌, ◌≢◌, ℕ, ◌+◌, ◌^◌, ◌<◌, List, length, slice_index, bit_xor}
use Rattle.field_base.specs.Basis.{product_below}
use Rattle.field_base.specs.Field.{IsField}
use Rattle.field_base.specs.Powers.{power}
use Rattle.field_base.specs.PolynomialRoots.{AreDistinctBelow}
use Rattle.error_codes.specs.Checks.{AreScaled, syndrome}
use Rattle.error_codes.specs.Words.{at}

-- point i
abbrev pub power_point : (ℕ → ℕ → ℕ) → ℕ → ℕ → ℕ
power_point times r i = power 1 times r i

-- scale i
abbrev pub power_scale : (ℕ → ℕ → ℕ) → ℕ → ℕ → ℕ → ℕ
power_scale times r b i = power 1 times (power 1 times r b) i

-- the product of x + r^(b + j)
abbrev pub generator : (ℕ → ℕ → ℕ) → ℕ → ℕ → ℕ → ℕ → ℕ
generator times r b checks x = product_below times (λ j. bit_xor x (power 1 times r (b + j))) checks

-- a syndrome is the value at a root
abbrev pub SyndromesAreValues : Type 0
SyndromesAreValues =
    (width : ℕ) (times : ℕ → ℕ → ℕ) → 0 < width → IsField width times → (r b m : ℕ) (word : List ℕ)
    → syndrome times (length word) (power_point times r) (power_scale times r b) (slice_index word) m ≡ at times word
    (power 1 times r (b + m))

-- such points and scales are those of a code by checks
abbrev pub PowersAreScaled : Type 0
PowersAreScaled =
    (width : ℕ) (times : ℕ → ℕ → ℕ) → 0 < width → IsField width times → (r b n : ℕ) → r < 2 ^ width → r ≢ 0
    → AreDistinctBelow n (2 ^ width) (power_point times r)
    → AreScaled width n (power_point times r) (power_scale times r b)

-- a multiple of the generator polynomial by one of k coefficients
pub record IsMultiple (times : ℕ → ℕ → ℕ) (r b checks k : ℕ) (word : List ℕ) : Type 0 where
  pub quotient : List ℕ
  pub count : length quotient ≡ k
  pub product : (x : ℕ) → at times word x ≡ times (at times quotient x) (generator times r b checks x)

-- the multiples are the words whose syndromes are 0
abbrev pub MultiplesAreChecked : Type 0
MultiplesAreChecked =
    (width : ℕ) (times : ℕ → ℕ → ℕ) → 0 < width → IsField width times → (r b checks k : ℕ) (word : List ℕ)
    → length word ≡ k + checks → AreDistinctBelow checks (2 ^ width) (λ j. power 1 times r (b + j))
    → (IsMultiple times r b checks k word → (m : ℕ) → m < checks
    → syndrome times (length word) (power_point times r) (power_scale times r b) (slice_index word) m ≡ 0)
    × (((m : ℕ) → m < checks
    → syndrome times (length word) (power_point times r) (power_scale times r b) (slice_index word) m ≡ 0)
    → IsMultiple times r b checks k word)
