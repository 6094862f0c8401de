-- A matrix has one reduced row echelon form: two whose rows span the same space are equal.
use Rattle.std.proofs.Common.{◌≡◌, ◌≢◌, ◌⊎◌, inl, inr, ℕ, zero, suc, ◌%◌, ◌^◌, ◌<◌, ◌≤◌, refl, sym, ◌∙◌, ap, arith}
use Rattle.std.proofs.lemmas.Bool.{cases_eq, cases_lt, cases_order}
use native.Mathlib.Nat.{mod-eq_of_lt}
use Rattle.field_base.specs.Basis.{sum_below}
use Rattle.field_base.specs.Ring.{IsRing}
use Rattle.field_base.proofs.BasisSums.{sum_below-same}
use Rattle.field_base.proofs.RingLemmas.{times-zero, zero-times, mod-times}
use Rattle.field_slices.specs.Matrices.{IsRowCombination, HaveSameRowSpace, IsReducedEchelon, ReducedEchelonIsUnique}
use Rattle.field_slices.proofs.RowSpaces.{only, only-same, only-other, only-before, only-after, coefficient_at, combination_row}

-- ---- columns of leading entries

-- a column is that of a leading entry, or of none
pub find-pivot : (p : ℕ → ℕ) (j n : ℕ) → ((k : ℕ) × (k < n) × (p k ≡ j)) ⊎ ((k : ℕ) → k < n → p k ≢ j)
find-pivot p j zero = inr (λ k below e. absurd (omega (arith, below)))
find-pivot p j (suc n) =
    elim (cases_eq (p n) j) [
      | inl own ↦ inl (n, omega arith, own)
      | inr other ↦ elim (find-pivot p j n) [
        | inl found ↦ inl (found.0, further found.0 found.1, found.2)
        | inr none ↦ inr (λ k below. still none other k below)
      ]
    ]
  where
    further : (k : ℕ) → k < n → k < suc n
    further k below = omega (arith, below)

    still : ((k : ℕ) → k < n → p k ≢ j) → (p n ≡ j → ⊥) → (k : ℕ) → k < suc n → p k ≢ j
    still none other k below =
        elim (cases_eq k n) [
          | inl same ↦ λ e. other (ap p (sym same) ∙ e)
          | inr differs ↦ none k (less k below differs)
        ]
      where
        less : (k : ℕ) → k < suc n → (k ≡ n → ⊥) → k < n
        less k below differs = omega (arith, below, differs)

-- two rising sequences of which each has what the other has are equal
module _ (r s : ℕ) (p q : ℕ → ℕ) (p_rises : (i k : ℕ) → i < k → k < r → p i < p k) (q_rises : (i k : ℕ) → i < k → k < s → q i < q k)
    (p_in : (i : ℕ) → i < r → (k : ℕ) × (k < s) × (q k ≡ p i)) where
  -- what is not among the earlier ones is not smaller
  rising-least : (i : ℕ) → i < r → i < s → ((k : ℕ) → k < i → p k ≡ q k) → q i ≤ p i
  rising-least i below other_below same =
      let found = p_in i below in
      elim (cases_order found.0 i) [
        | inl own ↦ let is = ap q own in let e = found.2 in omega (arith, is, e)
        | inr order ↦ elim order [
          | inl before ↦ absurd (clash found.0 before found.2)
          | inr behind ↦ let rise = q_rises i found.0 behind found.1 in let e = found.2 in omega (arith, rise, e)
        ]
      ]
    where
      clash : (k : ℕ) → k < i → q k ≡ p i → ⊥
      clash k before e = let rise = p_rises k i before below in let is = same k before in omega (arith, rise, is, e)

  -- and there are no more of them
  rising-count : ((k : ℕ) → k < s → k < r → p k ≡ q k) → r ≤ s
  rising-count same =
      elim (cases_lt s r) [
        | inl more ↦ absurd (clash more (p_in s more))
        | inr fits ↦ fits
      ]
    where
      clash : s < r → ((k : ℕ) × (k < s) × (q k ≡ p s)) → ⊥
      clash more found =
          let rise = p_rises found.0 s found.1 more in
          let is = same found.0 found.1 (omega (arith, found.1, more)) in
          let e = found.2 in
          omega (arith, rise, is, e)

module _ (r s : ℕ) (p q : ℕ → ℕ) (p_rises : (i k : ℕ) → i < k → k < r → p i < p k) (q_rises : (i k : ℕ) → i < k → k < s → q i < q k)
    (p_in : (i : ℕ) → i < r → (k : ℕ) × (k < s) × (q k ≡ p i)) (q_in : (i : ℕ) → i < s → (k : ℕ) × (k < r) × (p k ≡ q i)) where
  rising-before : (n k : ℕ) → k < n → k < r → k < s → p k ≡ q k
  rising-before zero k below _ _ = absurd (omega (arith, below))
  rising-before (suc n) k below in_p in_q =
      let earlier = λ (m : ℕ) (before : m < k). rising-before n m (omega (arith, before, below)) (omega (arith, before, in_p)) (omega (arith, before, in_q)) in
      let upper = rising-least r s p q p_rises q_rises p_in k in_p in_q earlier in
      let lower = rising-least s r q p q_rises p_rises q_in k in_q in_p (λ m before. sym (earlier m before)) in
      omega (arith, upper, lower)

  rising-same : (k : ℕ) → k < r → k < s → p k ≡ q k
  rising-same k in_p in_q = rising-before (suc k) k (omega arith) in_p in_q

  pub rising-counts : r ≡ s
  rising-counts =
      let most = rising-count r s p q p_rises q_rises p_in (λ k in_q in_p. rising-same k in_p in_q) in
      let least = rising-count s r q p q_rises p_rises q_in (λ k in_p in_q. sym (rising-same k in_p in_q)) in
      omega (arith, most, least)

-- ---- combinations of the rows of a reduced matrix

module _ {width : ℕ} {times : ℕ → ℕ → ℕ} (ring : IsRing width 1 times) (rows columns r : ℕ) (p : ℕ → ℕ) (A : ℕ → ℕ → ℕ)
    (A_reduced : IsReducedEchelon rows columns r p A) where
  -- row i has 1 in the column of its leading entry, and 0 in those of the others
  at-pivot : (i k : ℕ) → i < rows → k < r → A i (p k) ≡ only k 1 i
  at-pivot i k within below =
      elim (cases_eq i k) [
        | inl same ↦ ap (λ (m : ℕ). A m (p k)) same ∙ A_reduced.leading k below ∙ sym (only-same k 1 i same)
        | inr other ↦ A_reduced.alone k i below within other ∙ sym (only-other k 1 i other)
      ]

  module _ (v : ℕ → ℕ) (of_v : IsRowCombination times rows columns A v) where
    -- the coefficient of a row is what the combination has in the column of its leading entry
    coefficient : (k : ℕ) → k < r → v (p k) ≡ of_v.0 k % 2 ^ width
    coefficient k below =
        of_v.1 (p k) (A_reduced.pivots_fit k below)
        ∙ coefficient_at width times ring of_v.0 (λ i. A i (p k)) rows k (inside below) (λ i within. at-pivot i k within below)
      where
        inside : k < r → k < rows
        inside below = let few = A_reduced.rank_fits in omega (arith, few, below)

    expansion : (j : ℕ) → j < columns → v j ≡ sum_below (λ i. times (v (p i)) (A i j)) rows
    expansion j within =
        of_v.1 j within
        ∙ sum_below-same (λ i. times (of_v.0 i) (A i j)) (λ i. times (v (p i)) (A i j)) rows (λ i inside. term i inside (cases_lt i r))
      where
        term : (i : ℕ) → i < rows → (i < r) ⊎ (r ≤ i) → times (of_v.0 i) (A i j) ≡ times (v (p i)) (A i j)
        term i inside (inl below) =
            sym (mod-times width 1 times ring (of_v.0 i) (A i j)) ∙ ap (λ (x : ℕ). times x (A i j)) (sym (coefficient i below))
        term i inside (inr past) =
            ap (times (of_v.0 i)) (A_reduced.zero_rows i j past inside within) ∙ times-zero width 1 times ring (of_v.0 i)
            ∙ sym (ap (times (v (p i))) (A_reduced.zero_rows i j past inside within) ∙ times-zero width 1 times ring (v (p i)))

    -- the first entry of a combination that is not 0 stands in the column of a leading entry
    pub leads-at : (j : ℕ) → j < columns → v j ≢ 0 → ((m : ℕ) → m < j → v m ≡ 0) → (k : ℕ) × (k < r) × (p k ≡ j)
    leads-at j within nonzero zeros =
        elim (find-pivot p j r) [
          | inl found ↦ found
          | inr none ↦ absurd (nonzero (nothing none))
        ]
      where
        nothing : ((k : ℕ) → k < r → p k ≢ j) → v j ≡ 0
        nothing none =
            expansion j within
            ∙ sum_below-same (λ i. times (v (p i)) (A i j)) (λ i. times (only rows 1 i) 0) rows (λ i inside. term i inside (cases_lt i r))
            ∙ none-left
          where
            zero_term : (i : ℕ) → times (v (p i)) (A i j) ≡ 0 → times (v (p i)) (A i j) ≡ times (only rows 1 i) 0
            zero_term i e = e ∙ sym (times-zero width 1 times ring (only rows 1 i))

            term : (i : ℕ) → i < rows → (i < r) ⊎ (r ≤ i) → times (v (p i)) (A i j) ≡ times (only rows 1 i) 0
            term i inside (inr past) =
                zero_term i (ap (times (v (p i))) (A_reduced.zero_rows i j past inside within) ∙ times-zero width 1 times ring (v (p i)))
            term i inside (inl below) =
                elim (cases_order (p i) j) [
                  | inl own ↦ absurd (none i below own)
                  | inr order ↦ elim order [
                    | inl before ↦ zero_term i (ap (λ (x : ℕ). times x (A i j)) (zeros (p i) before) ∙ zero-times width 1 times ring (A i j))
                    | inr behind ↦ zero_term i (ap (times (v (p i))) (A_reduced.zeros_before i j below behind) ∙ times-zero width 1 times ring (v (p i)))
                  ]
                ]

            none-left : sum_below (λ i. times (only rows 1 i) 0) rows ≡ 0
            none-left = only-before width times ring rows 1 (λ i. 0) rows (omega arith)

-- ---- uniqueness

module _ {width : ℕ} {times : ℕ → ℕ → ℕ} (ring : IsRing width 1 times) (rows columns r s : ℕ) (p q : ℕ → ℕ) (A B : ℕ → ℕ → ℕ)
    (A_fits : (i j : ℕ) → A i j < 2 ^ width) (B_fits : (i j : ℕ) → B i j < 2 ^ width)
    (A_reduced : IsReducedEchelon rows columns r p A) (B_reduced : IsReducedEchelon rows columns s q B)
    (same : HaveSameRowSpace times rows columns A B) where
  -- each row of the second matrix is a combination of those of the first
  row_within : (i : ℕ) → i < rows → IsRowCombination times rows columns A (B i)
  row_within i inside = (same (B i)).1 (combination_row width times ring rows columns B B_fits i (B i) inside (λ j _. refl))

  -- and its leading entry stands in the column of one
  leading_within : (i : ℕ) → i < s → (k : ℕ) × (k < r) × (p k ≡ q i)
  leading_within i below =
      let few = B_reduced.rank_fits in
      let one = B_reduced.leading i below in
      leads-at ring rows columns r p A A_reduced (B i) (row_within i (omega (arith, few, below))) (q i)
      (B_reduced.pivots_fit i below) (λ e. absurd (omega (arith, e, one))) (λ m before. B_reduced.zeros_before i m below before)

  rows_agree : r ≡ s → ((k : ℕ) → k < r → k < s → p k ≡ q k) → (i j : ℕ) → i < rows → j < columns → A i j ≡ B i j
  rows_agree counts pivots i j inside within =
      elim (cases_lt i s) [
        | inl below ↦ sym (
            expansion ring rows columns r p A A_reduced (B i) (row_within i inside) j within
            ∙ sum_below-same (λ k. times (B i (p k)) (A k j)) (λ k. times (only i 1 k) (A k j)) rows (λ k k_inside. term k k_inside (cases_lt k r))
            ∙ only-after width times ring i 1 (λ k. A k j) rows inside ∙ ring.one (A i j) ∙ mod-eq_of_lt (A_fits i j))
        | inr past ↦ A_reduced.zero_rows i j (at_least past) inside within ∙ sym (B_reduced.zero_rows i j past inside within)
      ]
    where
      at_least : s ≤ i → r ≤ i
      at_least past = omega (arith, past, counts)

      term : (k : ℕ) → k < rows → (k < r) ⊎ (r ≤ k) → times (B i (p k)) (A k j) ≡ times (only i 1 k) (A k j)
      term k k_inside (inl below) = ap (λ (x : ℕ). times x (A k j)) (entry_at k below (omega (arith, below, counts)) (cases_eq k i))
        where
          entry_at : (k : ℕ) → k < r → k < s → (k ≡ i) ⊎ (k ≡ i → ⊥) → B i (p k) ≡ only i 1 k
          entry_at k below other_below (inl own) =
              ap (B i) (pivots k below other_below) ∙ ap (λ (m : ℕ). B m (q k)) (sym own) ∙ B_reduced.leading k other_below
              ∙ sym (only-same i 1 k own)
          entry_at k below other_below (inr other) =
              ap (B i) (pivots k below other_below) ∙ B_reduced.alone k i other_below inside (λ e. other (sym e))
              ∙ sym (only-other i 1 k other)
      term k k_inside (inr past) =
          ap (times (B i (p k))) (A_reduced.zero_rows k j past k_inside within) ∙ times-zero width 1 times ring (B i (p k))
          ∙ sym (ap (times (only i 1 k)) (A_reduced.zero_rows k j past k_inside within) ∙ times-zero width 1 times ring (only i 1 k))

pub echelon_is_unique : ReducedEchelonIsUnique
echelon_is_unique width times rows columns r s p q A B ring A_fits B_fits A_reduced B_reduced same =
    let q_in = leading_within ring rows columns r s p q A B A_fits B_fits A_reduced B_reduced same in
    let p_in = leading_within ring rows columns s r q p B A B_fits A_fits B_reduced A_reduced (λ v. ((same v).1, (same v).0)) in
    let counts = rising-counts r s p q A_reduced.pivots_rise B_reduced.pivots_rise p_in q_in in
    let pivots = rising-same r s p q A_reduced.pivots_rise B_reduced.pivots_rise p_in q_in in (
      counts,
      (λ i below. pivots i below (omega (arith, below, counts))),
      rows_agree ring rows columns r s p q A B A_fits B_fits A_reduced B_reduced same counts pivots,
    )
