-- Euclid's algorithm finds a solution of the key equation (Y. Sugiyama, M. Kasahara, S. Hirasawa and T. Namekawa, A
-- method for solving key equation for decoding Goppa codes, 1975, in the form of S. Gao, A new algorithm for decoding
-- Reed-Solomon codes, 2003). Polynomials are the functions that lists of coefficients give.
use Rattle.std.specs.Prelude.{◌≡◌, ◌≢◌, ℕ, suc, ◌+◌, ◌%◌, ◌^◌, ◌<◌, ◌≤◌, List, length, slice_index, Bool, false, not}
use Rattle.std.specs.Prelude.{cond, bit_xor}
use Rattle.field_base.specs.Basis.{product_below}
use Rattle.field_base.specs.Field.{IsField}
use Rattle.field_slices.specs.Marks.{marked_below}
use Rattle.error_codes.specs.Words.{at, IsReceived, IsWithinErrors, SolvesKey}

-- f is a polynomial of k coefficients
pub record HasCount (times : ℕ → ℕ → ℕ) (k : ℕ) (f : ℕ → ℕ) : Type 0 where
  pub coefficients : List ℕ
  pub count : length coefficients ≡ k
  pub values : (x : ℕ) → f x ≡ at times coefficients x

-- f is a polynomial of degree d
pub record HasTop (width : ℕ) (times : ℕ → ℕ → ℕ) (d : ℕ) (f : ℕ → ℕ) : Type 0 where
  pub coefficients : List ℕ
  pub count : length coefficients ≡ suc d
  pub top : slice_index coefficients d % 2 ^ width ≢ 0
  pub values : (x : ℕ) → f x ≡ at times coefficients x

-- top = symbol · bottom at each point that is kept
abbrev pub MeetsWord : (ℕ → ℕ → ℕ) → ℕ → (ℕ → ℕ) → (ℕ → ℕ) → (ℕ → Bool) → (ℕ → ℕ) → (ℕ → ℕ) → Type 0
MeetsWord times n point word erased top bottom =
    (i : ℕ) → i < n → erased i ≡ false → top (point i) ≡ times (word i) (bottom (point i))

-- Between two divisions: a polynomial of degree d and a remainder of d coefficients, and the factors of the word that
-- give them, the second of degree b. Both degrees together are the number of places that are kept.
pub record IsBetween (width : ℕ) (times : ℕ → ℕ → ℕ) (kept n : ℕ) (point word : ℕ → ℕ) (erased : ℕ → Bool)
    (d b : ℕ) (before rest factor_before factor : ℕ → ℕ) : Type 0 where
  pub degrees : d + b ≡ kept
  pub before_degree : HasTop width times d before
  pub rest_count : HasCount times d rest
  pub factor_before_count : HasCount times b factor_before
  pub factor_degree : HasTop width times b factor
  pub before_meets : MeetsWord times n point word erased before factor_before
  pub rest_meets : MeetsWord times n point word erased rest factor

-- the product of x - point i over the places that are kept
abbrev pub kept_product : (ℕ → ℕ → ℕ) → (ℕ → ℕ) → (ℕ → Bool) → ℕ → ℕ → ℕ
kept_product times point erased n x = product_below times (λ i. cond (not (erased i)) (bit_xor x (point i)) 1) n

-- it starts with that product, and a polynomial that has the symbols of the word at these points
abbrev pub EuclidStarts : Type 0
EuclidStarts =
    (width : ℕ) (times : ℕ → ℕ → ℕ) → 0 < width → IsField width times
    → (n : ℕ) (point word : ℕ → ℕ) (erased : ℕ → Bool) → ((i : ℕ) → i < n → word i < 2 ^ width)
    → (through : ℕ → ℕ) → HasCount times (marked_below (λ i. not (erased i)) n) through
    → ((i : ℕ) → i < n → erased i ≡ false → through (point i) ≡ word i)
    → IsBetween width times (marked_below (λ i. not (erased i)) n) n point word erased
    (marked_below (λ i. not (erased i)) n) 0
    (kept_product times point erased n) through (λ x. 0) (λ x. 1)

-- a division leads on: before = quotient · rest + next, where next has fewer coefficients than rest
abbrev pub EuclidContinues : Type 0
EuclidContinues =
    (width : ℕ) (times : ℕ → ℕ → ℕ) → 0 < width → IsField width times
    → (kept n : ℕ) (point word : ℕ → ℕ) (erased : ℕ → Bool) (d b : ℕ) (before rest factor_before factor : ℕ → ℕ)
    → IsBetween width times kept n point word erased d b before rest factor_before factor
    → (lower more : ℕ) (quotient next : ℕ → ℕ) → more + lower ≡ d → 0 < more → HasTop width times lower rest
    → HasTop width times more quotient
    → HasCount times lower next → ((x : ℕ) → before x ≡ bit_xor (times (quotient x) (rest x)) (next x))
    → IsBetween width times kept n point word erased lower (more + b) rest next factor
    (λ x. bit_xor (factor_before x) (times (quotient x) (factor x)))

-- Where it stops, at the first remainder of m coefficients, it has a solution: of m and s + 1 coefficients, s + m =
-- kept. With k + t ≤ m and m + t ≤ kept every such solution decodes t errors.
abbrev pub EuclidStops : Type 0
EuclidStops =
    (width : ℕ) (times : ℕ → ℕ → ℕ) → 0 < width → IsField width times
    → (kept n : ℕ) (point word : ℕ → ℕ) (erased : ℕ → Bool) (d b : ℕ) (before rest factor_before factor : ℕ → ℕ)
    → IsBetween width times kept n point word erased d b before rest factor_before factor
    → (m s : ℕ) → m ≤ d → s + m ≡ kept → HasCount times m rest
    → (top bottom : List ℕ) × ((x : ℕ) → at times top x ≡ rest x) × ((x : ℕ) → at times bottom x ≡ factor x)
    × SolvesKey width times m s n point word erased top bottom

-- so that it decodes
abbrev pub EuclidDecodes : Type 0
EuclidDecodes =
    (width : ℕ) (times : ℕ → ℕ → ℕ) → 0 < width → IsField width times
    → (k n e t m : ℕ) (point word : ℕ → ℕ) (erased : ℕ → Bool) → IsReceived width n e point word erased
    → marked_below erased n ≡ e
    → k + t ≤ m → m + t + e ≤ n
    → (d b : ℕ) (before rest factor_before factor : ℕ → ℕ)
    → IsBetween width times
    (marked_below (λ i. not (erased i)) n) n point word erased d b before rest factor_before factor
    → m ≤ d → HasCount times m rest → (f : List ℕ) → IsWithinErrors times k n t point word erased f
    → ((x : ℕ) → rest x ≡ times (at times f x) (factor x))
    × ((i : ℕ) → i < n → erased i ≡ false → factor (point i) ≢ 0 → word i ≡ at times f (point i))
