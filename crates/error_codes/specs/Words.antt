-- Words of n symbols of a field, some of which are erased and some wrong, at n different points. A polynomial is the
-- list of its coefficients, the lowest first.
use Rattle.std.specs.Prelude.{◌≡◌, ◌≢◌, ℕ, ◌+◌, ◌%◌, ◌^◌, ◌<◌, ◌≤◌, List, length, slice_index, Bool, false, not, nat_eq}
use Rattle.std.specs.Prelude.{◌&&◌}
use Rattle.field_base.specs.Powers.{value_of}
use Rattle.field_base.specs.PolynomialRoots.{AreDistinctBelow}
use Rattle.field_slices.specs.Marks.{marked_below}

-- the value at x of the polynomial with these coefficients
abbrev pub at : (ℕ → ℕ → ℕ) → List ℕ → ℕ → ℕ
at times cs x = value_of 1 times (λ c. c) cs x

-- place i is not erased, and the word has another symbol there than f at point i
abbrev pub is_wrong : (ℕ → ℕ) → (ℕ → ℕ) → (ℕ → Bool) → (ℕ → ℕ) → ℕ → Bool
is_wrong point word erased f i = not (erased i) && not (nat_eq (word i) (f (point i)))

-- n symbols of the field at different points, at most e of them erased
pub record IsReceived (width n e : ℕ) (point word : ℕ → ℕ) (erased : ℕ → Bool) : Type 0 where
  pub points : AreDistinctBelow n (2 ^ width) point
  pub symbols : (i : ℕ) → i < n → word i < 2 ^ width
  pub few_erased : marked_below erased n ≤ e

-- the polynomial with these k coefficients has the symbols of the word as its values, but for the erased and at most t
-- others
pub record IsWithinErrors (times : ℕ → ℕ → ℕ) (k n t : ℕ) (point word : ℕ → ℕ)
    (erased : ℕ → Bool) (cs : List ℕ) : Type 0 where
  pub count : length cs ≡ k
  pub few_wrong : marked_below (is_wrong point word erased (at times cs)) n ≤ t

-- some coefficient is not 0
abbrev pub HasNonzero : ℕ → List ℕ → Type 0
HasNonzero width cs = (i : ℕ) × (i < length cs) × (slice_index cs i % 2 ^ width ≢ 0)

-- the key equation of E. R. Berlekamp and L. R. Welch (Error correction for algebraic block codes, 1986): top has m
-- coefficients and bottom s + 1, not all 0, and top = symbol · bottom at each point that is not erased
pub record SolvesKey (width : ℕ) (times : ℕ → ℕ → ℕ) (m s n : ℕ) (point word : ℕ → ℕ)
    (erased : ℕ → Bool) (top bottom : List ℕ) : Type 0 where
  pub top_count : length top ≡ m
  pub bottom_count : length bottom ≡ s + 1
  pub nonzero : HasNonzero width bottom
  pub at_points : (i : ℕ) → i < n → erased i ≡ false
      → at times top (point i) ≡ times (word i) (at times bottom (point i))
