-- The inverse of a matrix A, by reducing A beside the identity matrix.
use Rattle.std.proofs.Common.{◌≡◌, ◌≢◌, ◌⊎◌, inl, inr, ℕ, zero, suc, ◌+◌, ◌-◌, ◌*◌, ◌%◌, ◌^◌, ◌<◌, ◌≤◌, Bool, refl, sym, subst, ◌∙◌, ap, arith}
use Rattle.std.specs.Prelude.{if◌then◌else◌}
use Rattle.std.proofs.lemmas.Bool.{cases_eq, cases_lt, lt-ltb, le-ltb}
use Rattle.std.proofs.lemmas.Nat.{mul-add-lt}
use Rattle.field_base.specs.Basis.{sum_below}
use Rattle.field_base.specs.Ring.{IsRing}
use Rattle.field_base.proofs.BasisSums.{sum_below-same}
use Rattle.field_base.proofs.RingLemmas.{mod-times}
use Rattle.field_slices.specs.Matrices.{IsRowCombination, HaveSameRowSpace, IsReducedEchelon, IsMatrixProduct, AreInverseMatrices, product_entry, identity_entry, beside_identity}
use Rattle.field_slices.proofs.RowSpaces.{only, only-same, only-other, identity-only, coefficient_at, combination_row}
use Rattle.field_slices.proofs.EchelonUniqueness.{leads-at, rising-counts}

-- ---- the matrix beside the identity matrix

-- two times n entries in each of n rows are at least two times n
pub columns-fit : (n : ℕ) → n + n ≤ n * (n + n)
columns-fit zero = omega arith
columns-fit (suc n) =
    let last = mul-add-lt n (suc n + suc n) (suc n + n) (suc n) (omega arith) (omega arith) in
    omega (arith, last)

module _ (n : ℕ) (A : ℕ → ℕ → ℕ) (i j : ℕ) where
  pub beside-left : j < n → beside_identity n A i j ≡ A i j
  beside-left within = ap (λ (b : Bool). if b then A i j else identity_entry i (j - n)) (lt-ltb j n within)

  pub beside-right : n ≤ j → beside_identity n A i j ≡ identity_entry i (j - n)
  beside-right past = ap (λ (b : Bool). if b then A i j else identity_entry i (j - n)) (le-ltb j n past)

-- with nothing on its left it is the identity matrix
pub beside-none : (A : ℕ → ℕ → ℕ) (i j : ℕ) → beside_identity 0 A i j ≡ identity_entry i j
beside-none A i j = let own : j - 0 ≡ j = omega arith in beside-right 0 A i j (omega arith) ∙ ap (identity_entry i) own

-- it depends only on the left half
pub beside-same : (n : ℕ) (A B : ℕ → ℕ → ℕ) (i j : ℕ) → (j < n → A i j ≡ B i j) → beside_identity n A i j ≡ beside_identity n B i j
beside-same n A B i j same =
    elim (cases_lt j n) [
      | inl within ↦ beside-left n A i j within ∙ same within ∙ sym (beside-left n B i j within)
      | inr past ↦ beside-right n A i j past ∙ sym (beside-right n B i j past)
    ]

-- ---- all columns

-- rising columns move apart at least as their rows do
pub rising-apart : (r : ℕ) (p : ℕ → ℕ) → ((i k : ℕ) → i < k → k < r → p i < p k) → (k d : ℕ) → k + d < r → p k + d ≤ p (k + d)
rising-apart r p rises k zero within =
    let same : k + 0 ≡ k = omega arith in let is = ap p same in omega (arith, is)
rising-apart r p rises k (suc d) within =
    let so_far = rising-apart r p rises k d (omega (arith, within)) in
    let rise = rises (k + d) (k + suc d) (omega arith) within in
    omega (arith, so_far, rise)

-- as many rising columns as there are columns are all of these
pub rising-all : (n : ℕ) (p : ℕ → ℕ) → ((i k : ℕ) → i < k → k < n → p i < p k) → ((i : ℕ) → i < n → p i < n) → (k : ℕ) → k < n → p k ≡ k
rising-all n p rises fits k within =
    let rest : k + (n - 1 - k) ≡ n - 1 = omega (arith, within) in
    let above = rising-apart n p rises k (n - 1 - k) (omega (arith, within)) in
    let last = ap p rest in
    let last_fits = fits (n - 1) (omega (arith, within)) in
    let below = rising-apart n p rises 0 k (omega (arith, within)) in
    let start : 0 + k ≡ k = omega arith in
    let own = ap p start in
    omega (arith, above, last, last_fits, below, own, within)

module _ {width : ℕ} {times : ℕ → ℕ → ℕ} (ring : IsRing width 1 times) (n : ℕ) where
  -- of a combination of rows whose left or right halves are the identity matrix the coefficients are known
  passes : (c u F : ℕ → ℕ) → ((k : ℕ) → k < n → u k ≡ c k % 2 ^ width)
      → sum_below (λ k. times (c k) (F k)) n ≡ sum_below (λ k. times (u k) (F k)) n
  passes c u F are =
      sum_below-same (λ k. times (c k) (F k)) (λ k. times (u k) (F k)) n
      (λ k within. sym (mod-times width 1 times ring (c k) (F k)) ∙ ap (λ (x : ℕ). times x (F k)) (sym (are k within)))

  module _ (A M N : ℕ → ℕ → ℕ) (M_fits : (i j : ℕ) → M i j < 2 ^ width) (N_fits : (i j : ℕ) → N i j < 2 ^ width)
      (left : (i j : ℕ) → i < n → j < n → M i j ≡ A i j) (right : (i j : ℕ) → i < n → j < n → M i (n + j) ≡ identity_entry i j)
      (same : HaveSameRowSpace times n (n + n) M N) where
    -- the right half of what is left times A is the left half
    left_product : (i j : ℕ) → i < n → j < n → N i j ≡ product_entry times n (λ i k. N i (n + k)) A i j
    left_product i j inside within =
        let row = (same (N i)).1 (combination_row width times ring n (n + n) N N_fits i (N i) inside (λ j _. refl)) in
        row.1 j (omega (arith, within))
        ∙ sum_below-same (λ k. times (row.0 k) (M k j)) (λ k. times (row.0 k) (A k j)) n (λ k below. ap (times (row.0 k)) (left k j below within))
        ∙ passes row.0 (λ k. N i (n + k)) (λ k. A k j)
        (λ k below.
        row.1 (n + k) (omega (arith, below))
        ∙ coefficient_at width times ring row.0 (λ m. M m (n + k)) n k below (λ m m_below. right m k m_below below ∙ identity-only m k))

    module _ (pivot : ℕ → ℕ) (reduced : IsReducedEchelon n n n pivot N) where
      is_identity : (i j : ℕ) → i < n → j < n → N i j ≡ identity_entry i j
      is_identity i j inside within =
          ap (N i) (sym (rising-all n pivot reduced.pivots_rise reduced.pivots_fit j within)) ∙ entry_at (cases_eq i j) ∙ sym (identity-only i j)
        where
          entry_at : (i ≡ j) ⊎ (i ≡ j → ⊥) → N i (pivot j) ≡ only j 1 i
          entry_at (inl own) = ap (λ (m : ℕ). N m (pivot j)) own ∙ reduced.leading j within ∙ sym (only-same j 1 i own)
          entry_at (inr other) = reduced.alone j i within inside other ∙ sym (only-other j 1 i other)

      pub inverse_left : IsMatrixProduct times n n n (λ i k. N i (n + k)) A identity_entry
      inverse_left i j inside within = sym (is_identity i j inside within) ∙ left_product i j inside within

      pub inverse_right : IsMatrixProduct times n n n A (λ i k. N i (n + k)) identity_entry
      inverse_right i j inside within =
          let row = (same (M i)).0 (combination_row width times ring n (n + n) M M_fits i (M i) inside (λ j _. refl)) in
          sym (right i j inside within) ∙ row.1 (n + j) (omega (arith, within))
          ∙ passes row.0 (A i) (λ k. N k (n + j))
          (λ k below.
          sym (left i k inside below) ∙ row.1 k (omega (arith, below))
          ∙ coefficient_at width times ring row.0 (λ m. N m k) n k below (λ m m_below. is_identity m k m_below below ∙ identity-only m k))

    -- where a left inverse is, each column has a leading entry
    module _ (r : ℕ) (pivot : ℕ → ℕ) (reduced : IsReducedEchelon n n r pivot N) (B : ℕ → ℕ → ℕ)
        (inverts : IsMatrixProduct times n n n B A identity_entry) where
      leading_entry : (i : ℕ) → i < n → (k : ℕ) × (k < r) × (pivot k ≡ i)
      leading_entry i inside =
          let given : IsRowCombination times n (n + n) M (λ j. sum_below (λ k. times (B i k) (M k j)) n) = (B i, λ j _. refl) in
          let found = (same (λ j. sum_below (λ k. times (B i k) (M k j)) n)).0 given in
          leads-at ring n n r pivot N reduced (λ j. sum_below (λ k. times (B i k) (M k j)) n)
          (found.0, λ j within. found.1 j (omega (arith, within))) i inside
          (λ e. let one = sums i inside ∙ identity-only i i ∙ only-same i 1 i refl in absurd (omega (arith, one, e)))
          (λ m before. sums m (omega (arith, before, inside)) ∙ identity-only i m ∙ only-other m 1 i (λ e. absurd (omega (arith, e, before))))
        where
          sums : (j : ℕ) → j < n → sum_below (λ k. times (B i k) (M k j)) n ≡ identity_entry i j
          sums j within =
              sum_below-same (λ k. times (B i k) (M k j)) (λ k. times (B i k) (A k j)) n (λ k below. ap (times (B i k)) (left k j below within))
              ∙ sym (inverts i j inside within)

      pub inverse_rank : n ≡ r
      inverse_rank =
          rising-counts n r (λ i. i) pivot (λ i k order below. order) reduced.pivots_rise leading_entry
          (λ i below. (pivot i, reduced.pivots_fit i below, refl))

-- the same of a matrix that has the identity matrix beside it
module _ {width : ℕ} {times : ℕ → ℕ → ℕ} (ring : IsRing width 1 times) {n r : ℕ} {pivot : ℕ → ℕ} (A : ℕ → ℕ → ℕ) {M N : ℕ → ℕ → ℕ}
    (M_fits : (i j : ℕ) → M i j < 2 ^ width) (N_fits : (i j : ℕ) → N i j < 2 ^ width)
    (halves : (i j : ℕ) → i < n → j < n + n → M i j ≡ beside_identity n A i j)
    (reduced : IsReducedEchelon n n r pivot N) (same : HaveSameRowSpace times n (n + n) M N) where
  left_half : (i j : ℕ) → i < n → j < n → M i j ≡ A i j
  left_half i j inside within = halves i j inside (omega (arith, within)) ∙ beside-left n A i j within

  right_half : (i j : ℕ) → i < n → j < n → M i (n + j) ≡ identity_entry i j
  right_half i j inside within =
      let back : n + j - n ≡ j = omega arith in
      halves i (n + j) inside (omega (arith, within)) ∙ beside-right n A i (n + j) (omega arith) ∙ ap (identity_entry i) back

  pub inverse_found : r ≡ n → AreInverseMatrices times n A (λ i j. N i (n + j))
  inverse_found full =
      let whole = subst (λ (k : ℕ). IsReducedEchelon n n k pivot N) full reduced in (
        inverse_right ring n A M N M_fits N_fits left_half right_half same pivot whole,
        inverse_left ring n A M N M_fits N_fits left_half right_half same pivot whole,
      )

  pub inverse_missing : r ≢ n → (B : ℕ → ℕ → ℕ) → IsMatrixProduct times n n n B A identity_entry → ⊥
  inverse_missing short B inverts =
      short (sym (inverse_rank ring n A M N M_fits N_fits left_half right_half same r pivot reduced B inverts))
