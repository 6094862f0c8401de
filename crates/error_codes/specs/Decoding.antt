-- The laws of Reed-Solomon codes that correct errors (I. S. Reed and G. Solomon, Polynomial codes over certain finite
-- fields, 1960): what a decoder may do to find the polynomial, and that there is no other.
use Rattle.std.specs.Prelude.{◌≡◌, ◌≢◌, ◌⊎◌, ℕ, suc, ◌+◌, ◌*◌, ◌%◌, ◌^◌, ◌<◌, ◌≤◌, List, length, Bool, true, false}
use Rattle.std.specs.Prelude.{nat_eq, Option, Some, None, bit_xor, slice_index}
use Rattle.field_base.specs.Field.{IsField}
use Rattle.field_base.specs.PolynomialRoots.{AreDistinctBelow}
use Rattle.field_slices.specs.Marks.{marked_below}
use Rattle.error_codes.specs.Words.{at, is_wrong, IsReceived, IsWithinErrors, SolvesKey}

-- at most one polynomial of k coefficients is within t errors, where 2 t + e + k ≤ n
abbrev pub DecodingIsUnique : Type 0
DecodingIsUnique =
    (width : ℕ) (times : ℕ → ℕ → ℕ) → 0 < width → IsField width times
    → (k n e t : ℕ) (point word : ℕ → ℕ) (erased : ℕ → Bool) → IsReceived width n e point word erased
    → 2 * t + e + k ≤ n
    → (f g : List ℕ) → IsWithinErrors times k n t point word erased f → IsWithinErrors times k n t point word erased g
    → (x : ℕ) → at times f x ≡ at times g x

-- where one is, the key equation has a solution, of k + t and t + 1 coefficients or more
abbrev pub KeyHasSolution : Type 0
KeyHasSolution =
    (width : ℕ) (times : ℕ → ℕ → ℕ) → 0 < width → IsField width times
    → (k n e t m s : ℕ) (point word : ℕ → ℕ) (erased : ℕ → Bool) → IsReceived width n e point word erased
    → k + s ≤ m → t ≤ s → k + s + t + e ≤ n
    → (f : List ℕ) → IsWithinErrors times k n t point word erased f
    → (top bottom : List ℕ) × SolvesKey width times m s n point word erased top bottom

-- what a solution says of the polynomial f that is within t errors
pub record Decodes (times : ℕ → ℕ → ℕ) (k s n : ℕ) (point word : ℕ → ℕ)
    (erased : ℕ → Bool) (top bottom f : List ℕ) : Type 0 where
  -- top = f · bottom
  pub product : (x : ℕ) → at times top x ≡ times (at times f x) (at times bottom x)
  -- and f is the only quotient of k coefficients
  pub only_quotient : (g : List ℕ) → length g ≡ k
      → ((x : ℕ) → at times top x ≡ times (at times g x) (at times bottom x))
      → (x : ℕ) → at times g x ≡ at times f x
  -- bottom is 0 at each place that is wrong
  pub zero_where_wrong : (i : ℕ) → i < n → is_wrong point word erased (at times f) i ≡ true
      → at times bottom (point i) ≡ 0
  -- so that a symbol is right where bottom is not 0
  pub right_elsewhere : (i : ℕ) → i < n → erased i ≡ false → at times bottom (point i) ≢ 0
      → word i ≡ at times f (point i)
  -- and it is 0 at few places
  pub few_zeros : marked_below (λ i. nat_eq (at times bottom (point i)) 0) n ≤ s

-- every solution decodes, where m + t + e ≤ n and k + s + t + e ≤ n
abbrev pub SolutionsDecode : Type 0
SolutionsDecode =
    (width : ℕ) (times : ℕ → ℕ → ℕ) → 0 < width → IsField width times
    → (k n e t m s : ℕ) (point word : ℕ → ℕ) (erased : ℕ → Bool) → IsReceived width n e point word erased
    → m + t + e ≤ n → k + s + t + e ≤ n
    → (f : List ℕ) → IsWithinErrors times k n t point word erased f
    → (top bottom : List ℕ) → SolvesKey width times m s n point word erased top bottom
    → Decodes times k s n point word erased top bottom f

-- g has the symbols of the word at k different places that are not erased and where bottom is not 0
pub record IsRestored (times : ℕ → ℕ → ℕ) (k n : ℕ) (point word : ℕ → ℕ)
    (erased : ℕ → Bool) (bottom g : List ℕ) : Type 0 where
  pub count : length g ≡ k
  pub place : ℕ → ℕ
  pub places : AreDistinctBelow k n place
  pub kept : (j : ℕ) → j < k → erased (place j) ≡ false
  pub nonzero : (j : ℕ) → j < k → at times bottom (point (place j)) ≢ 0
  pub symbols : (j : ℕ) → j < k → at times g (point (place j)) ≡ word (place j)

-- What a decoder answers: the polynomial that it restored from places where bottom is not 0, if that one is within t
-- errors. There are k such places, and each polynomial within t errors has the same values.
abbrev pub RestoredIsOnly : Type 0
RestoredIsOnly =
    (width : ℕ) (times : ℕ → ℕ → ℕ) → 0 < width → IsField width times
    → (k n e t m s : ℕ) (point word : ℕ → ℕ) (erased : ℕ → Bool) → IsReceived width n e point word erased
    → m + t + e ≤ n → k + s + t + e ≤ n
    → (top bottom : List ℕ) → SolvesKey width times m s n point word erased top bottom
    → ((g : List ℕ) × IsRestored times k n point word erased bottom g)
    × ((g : List ℕ) → IsRestored times k n point word erased bottom g
    → (f : List ℕ) → IsWithinErrors times k n t point word erased f
    → ((x : ℕ) → at times f x ≡ at times g x) × IsWithinErrors times k n t point word erased g)

-- ---- decoders

-- an answer is right: a polynomial within t errors and the only one, or that there is none
abbrev pub IsRightAnswer : (ℕ → ℕ → ℕ) → ℕ → ℕ → ℕ → (ℕ → ℕ) → (ℕ → ℕ) → (ℕ → Bool) → Option (List ℕ) → Type 0
IsRightAnswer times k n t point word erased (Some g) =
    IsWithinErrors times k n t point word erased g
    × ((f : List ℕ) → IsWithinErrors times k n t point word erased f → (x : ℕ) → at times f x ≡ at times g x)
IsRightAnswer times k n t point word erased None = (f : List ℕ) → IsWithinErrors times k n t point word erased f → ⊥

-- a quotient of k coefficients
pub record IsQuotient (times : ℕ → ℕ → ℕ) (k : ℕ) (top bottom g : List ℕ) : Type 0 where
  pub count : length g ≡ k
  pub product : (x : ℕ) → at times top x ≡ times (at times g x) (at times bottom x)

-- Why a decoder answers None: the key equation has no solution, or it has one that has no quotient, or one whose
-- quotient, or what is restored where it is not 0, has more errors than t
abbrev pub Rejects : ℕ → (ℕ → ℕ → ℕ) → ℕ → ℕ → ℕ → ℕ → ℕ → (ℕ → ℕ) → (ℕ → ℕ) → (ℕ → Bool) → Type 0
Rejects width times k n t m s point word erased =
    ((top bottom : List ℕ) → SolvesKey width times m s n point word erased top bottom → ⊥)
    ⊎ ((top bottom : List ℕ) × SolvesKey width times m s n point word erased top bottom
    × (((g : List ℕ) → IsQuotient times k top bottom g → ⊥)
    ⊎ ((g : List ℕ) × (IsQuotient times k top bottom g ⊎ IsRestored times k n point word erased bottom g)
    × (t < marked_below (is_wrong point word erased (at times g)) n))))

-- A decoder that answers only polynomials within t errors, and None only for one of these reasons, is right, whatever
-- solution it finds and however it finds it.
abbrev pub DecodersAreRight : Type 0
DecodersAreRight =
    (width : ℕ) (times : ℕ → ℕ → ℕ) → 0 < width → IsField width times
    → (k n e t m s : ℕ) (point word : ℕ → ℕ) (erased : ℕ → Bool) → IsReceived width n e point word erased
    → k + s ≤ m → t ≤ s → m + t + e ≤ n
    → ((g : List ℕ) → IsWithinErrors times k n t point word erased g
    → IsRightAnswer times k n t point word erased (Some g))
    × (Rejects width times k n t m s point word erased → IsRightAnswer times k n t point word erased None)

-- Long division decides whether there is a quotient: where top = q · bottom + rest, the rest has fewer coefficients
-- than bottom, and there is a quotient g, q is g and the rest is 0.
abbrev pub DivisionsAreExact : Type 0
DivisionsAreExact =
    (width : ℕ) (times : ℕ → ℕ → ℕ) → 0 < width → IsField width times
    → (k d : ℕ) (top bottom q rest g : List ℕ) → k + d ≤ 2 ^ width
    → length bottom ≡ suc d → slice_index bottom d % 2 ^ width ≢ 0 → length q ≡ k → length rest ≡ d
    → ((x : ℕ) → at times top x ≡ bit_xor (times (at times q x) (at times bottom x)) (at times rest x))
    → IsQuotient times k top bottom g
    → ((x : ℕ) → at times q x ≡ at times g x) × ((x : ℕ) → at times rest x ≡ 0)
