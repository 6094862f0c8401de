-- Combinations of the rows of a matrix, and matrices whose rows span the same space.
use Rattle.std.proofs.Common.{◌≡◌, ◌≢◌, inl, inr, ℕ, zero, suc, ◌%◌, ◌^◌, ◌<◌, ◌≤◌, Bool, refl, sym, ◌∙◌, ap, ap₂, arith}
use Rattle.std.specs.Prelude.{bit_xor, nat_eq, if◌then◌else◌}
use Rattle.std.proofs.lemmas.Bool.Decides.{eqb_tells}
use native.Mathlib.Nat.{mod-eq_of_lt}
use lib.Bits.{xor_comm, xor_zero_r}
use Rattle.field_base.specs.Basis.{sum_below}
use Rattle.field_base.specs.Ring.{IsRing}
use Rattle.field_base.proofs.BasisSums.{sum_below-same}
use Rattle.field_base.proofs.RingLemmas.{sum_times, times-zero, zero-times, xor_exchange}
use Rattle.field_slices.specs.Matrices.{HaveSameRowSpace, IsRowCombination, identity_entry}

-- the sum of sums, term by term
pub sum_of_sums : (f g : ℕ → ℕ) (n : ℕ) → sum_below (λ j. bit_xor (f j) (g j)) n ≡ bit_xor (sum_below f n) (sum_below g n)
unfolding sum_below
sum_of_sums f g zero = refl
sum_of_sums f g (suc n) =
    ap (λ (s : ℕ). bit_xor s (bit_xor (f n) (g n))) (sum_of_sums f g n) ∙ xor_exchange (sum_below f n) (sum_below g n) (f n) (g n)

-- coefficients of which one alone is not 0
pub only : ℕ → ℕ → ℕ → ℕ
only k s i = if nat_eq i k then s else 0

pub only-same : (k s i : ℕ) → i ≡ k → only k s i ≡ s
unfolding only
only-same k s i same =
    elim (eqb_tells i k) [
      | inl is ↦ ap (λ (b : Bool). if b then s else 0) is.0
      | inr other ↦ absurd (other.1 same)
    ]

pub only-other : (k s i : ℕ) → i ≢ k → only k s i ≡ 0
unfolding only
only-other k s i different =
    elim (eqb_tells i k) [
      | inl is ↦ absurd (different is.1)
      | inr other ↦ ap (λ (b : Bool). if b then s else 0) other.0
    ]

-- so are those of a column of the identity matrix
pub identity-only : (k j : ℕ) → identity_entry k j ≡ only j 1 k
unfolding only
identity-only k j = refl

module _ (width : ℕ) (times : ℕ → ℕ → ℕ) (ring : IsRing width 1 times) where
  -- a sum with one coefficient, before its place and behind it
  pub only-before : (k s : ℕ) (f : ℕ → ℕ) (n : ℕ) → n ≤ k → sum_below (λ i. times (only k s i) (f i)) n ≡ 0
  unfolding sum_below
  only-before k s f zero before = refl
  only-before k s f (suc n) before =
      ap₂ bit_xor (only-before k s f n (omega (arith, before)))
      (ap (λ (x : ℕ). times x (f n)) (only-other k s n (λ e. absurd (omega (arith, e, before)))) ∙ zero-times width 1 times ring (f n))

  pub only-after : (k s : ℕ) (f : ℕ → ℕ) (n : ℕ) → k < n → sum_below (λ i. times (only k s i) (f i)) n ≡ times s (f k)
  unfolding sum_below
  only-after k s f zero below = absurd (omega (arith, below))
  only-after k s f (suc n) below =
      elim (eqb_tells n k) [
        | inl is ↦ ap₂ bit_xor (only-before k s f n (at_most is.1)) (ap₂ times (only-same k s n is.1) (ap f is.1))
            ∙ xor_comm 0 (times s (f k)) ∙ xor_zero_r (times s (f k))
        | inr other ↦ ap₂ bit_xor (only-after k s f n (less other.1))
            (ap (λ (x : ℕ). times x (f n)) (only-other k s n other.1) ∙ zero-times width 1 times ring (f n))
            ∙ xor_zero_r (times s (f k))
      ]
    where
      at_most : n ≡ k → n ≤ k
      at_most e = omega (arith, e)

      less : n ≢ k → k < n
      less different = omega (arith, different, below)

  -- the coefficient of the one row that is 1 in a column where the others are 0 is what the combination has there
  pub coefficient_at : (c E : ℕ → ℕ) (n j : ℕ) → j < n → ((k : ℕ) → k < n → E k ≡ only j 1 k)
      → sum_below (λ k. times (c k) (E k)) n ≡ c j % 2 ^ width
  coefficient_at c E n j inside is =
      sum_below-same (λ k. times (c k) (E k)) (λ k. times (only j 1 k) (c k)) n
      (λ k within. ap (times (c k)) (is k within) ∙ ring.comm (c k) (only j 1 k)) ∙ only-after j 1 c n inside ∙ ring.one (c j)

  -- a sum with coefficients c + s d
  pub sum_with : (c d f : ℕ → ℕ) (s n : ℕ) → sum_below (λ i. times (bit_xor (c i) (times s (d i))) (f i)) n
      ≡ bit_xor (sum_below (λ i. times (c i) (f i)) n) (times s (sum_below (λ i. times (d i) (f i)) n))
  unfolding sum_below
  sum_with c d f s zero = sym (ap (bit_xor 0) (times-zero width 1 times ring s))
  sum_with c d f s (suc n) =
      let first = sum_below (λ i. times (c i) (f i)) n in
      let second = sum_below (λ i. times (d i) (f i)) n in
      ap₂ bit_xor (sum_with c d f s n)
      (sum_times width 1 times ring (c n) (times s (d n)) (f n) ∙ ap (bit_xor (times (c n) (f n))) (ring.assoc s (d n) (f n)))
      ∙ xor_exchange first (times s second) (times (c n) (f n)) (times s (times (d n) (f n)))
      ∙ ap (bit_xor (bit_xor first (times (c n) (f n)))) (sym (ring.over_sum s second (times (d n) (f n))))

  module _ (rows columns : ℕ) where
    module _ (A : ℕ → ℕ → ℕ) where
      -- 0 is a combination, and so is v + s w
      combination_zero : IsRowCombination times rows columns A (λ j. 0)
      combination_zero = (only rows 0, λ j inside. sym (only-before rows 0 (λ i. A i j) rows (omega arith)))

      pub combination_with : (v w u : ℕ → ℕ) (s : ℕ) → IsRowCombination times rows columns A v → IsRowCombination times rows columns A w
          → ((j : ℕ) → j < columns → u j ≡ bit_xor (v j) (times s (w j))) → IsRowCombination times rows columns A u
      combination_with v w u s of_v of_w is = (
        λ i. bit_xor (of_v.0 i) (times s (of_w.0 i)),
        λ j inside.
            is j inside ∙ ap₂ bit_xor (of_v.1 j inside) (ap (times s) (of_w.1 j inside))
            ∙ sym (sum_with of_v.0 of_w.0 (λ i. A i j) s rows),
      )

      -- a multiple of a row
      pub combination_multiple : (k s : ℕ) (v : ℕ → ℕ) → k < rows → ((j : ℕ) → j < columns → v j ≡ times s (A k j))
          → IsRowCombination times rows columns A v
      combination_multiple k s v below is =
          (only k s, λ j inside. is j inside ∙ sym (only-after k s (λ i. A i j) rows below))

    -- what is a combination of combinations is one
    module _ (A B : ℕ → ℕ → ℕ) (each : (i : ℕ) → i < rows → IsRowCombination times rows columns A (B i)) where
      combination_partial : (c : ℕ → ℕ) (n : ℕ) → n ≤ rows
          → IsRowCombination times rows columns A (λ j. sum_below (λ i. times (c i) (B i j)) n)
      unfolding sum_below
      combination_partial c zero before = combination_zero A
      combination_partial c (suc n) before =
          combination_with A (λ j. sum_below (λ i. times (c i) (B i j)) n) (B n) (λ j. sum_below (λ i. times (c i) (B i j)) (suc n)) (c n)
          (combination_partial c n (omega (arith, before))) (each n (omega (arith, before))) (λ j inside. refl)

      pub combination_within : (v : ℕ → ℕ) → IsRowCombination times rows columns B v → IsRowCombination times rows columns A v
      combination_within v of_v =
          let whole = combination_partial of_v.0 rows (omega arith) in (whole.0, λ j inside. of_v.1 j inside ∙ whole.1 j inside)

    pub same_space : (A B : ℕ → ℕ → ℕ) → ((i : ℕ) → i < rows → IsRowCombination times rows columns A (B i))
        → ((i : ℕ) → i < rows → IsRowCombination times rows columns B (A i)) → HaveSameRowSpace times rows columns A B
    same_space A B there back = λ v. (combination_within B A back v, combination_within A B there v)

    pub space_same : (A : ℕ → ℕ → ℕ) → HaveSameRowSpace times rows columns A A
    space_same A = λ v. (λ x. x, λ x. x)

    pub space_then : (A B C : ℕ → ℕ → ℕ) → HaveSameRowSpace times rows columns A B → HaveSameRowSpace times rows columns B C
        → HaveSameRowSpace times rows columns A C
    space_then A B C first second = λ v. (λ x. (second v).0 ((first v).0 x), λ x. (first v).1 ((second v).1 x))

    -- ---- row operations

    module _ (A : ℕ → ℕ → ℕ) (A_fits : (i j : ℕ) → A i j < 2 ^ width) where
      -- a row of the matrix, and one with a multiple of another
      pub combination_row : (k : ℕ) (v : ℕ → ℕ) → k < rows → ((j : ℕ) → j < columns → v j ≡ A k j)
          → IsRowCombination times rows columns A v
      combination_row k v below is =
          combination_multiple A k 1 v below (λ j inside. is j inside ∙ sym (ring.one (A k j) ∙ mod-eq_of_lt (A_fits k j)))

      pub combination_rows : (k l s : ℕ) (v : ℕ → ℕ) → k < rows → l < rows
          → ((j : ℕ) → j < columns → v j ≡ bit_xor (A k j) (times s (A l j))) → IsRowCombination times rows columns A v
      combination_rows k l s v below other_below is =
          combination_with A (A k) (A l) v s (combination_row k (A k) below (λ j inside. refl))
          (combination_row l (A l) other_below (λ j inside. refl)) is
