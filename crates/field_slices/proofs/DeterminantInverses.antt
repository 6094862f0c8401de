-- A matrix has an inverse where its determinant is not 0: by Cramer's rule one from the right, which has one from the right itself.
use Rattle.std.proofs.Common.{◌≡◌, ◌≢◌, ◌⊎◌, inl, inr, ℕ, zero, suc, ◌^◌, ◌<◌, refl, sym, ◌∙◌, ap, arith}
use Rattle.std.specs.Prelude.{bit_xor}
use Rattle.std.proofs.lemmas.Bool.{cases_eq}
use Rattle.std.proofs.lemmas.Nat.{pow_below}
use Rattle.field_base.specs.Basis.{sum_below}
use Rattle.field_base.specs.Field.{HasInverses}
use Rattle.field_base.specs.Ring.{IsRing}
use Rattle.field_base.proofs.BasisSums.{sum_below-same, sum_below_times}
use Rattle.field_base.proofs.PowerLemmas.{one-times}
use Rattle.field_base.proofs.RingLemmas.{mod-times, times-zero, zero-times}
use Rattle.field_slices.specs.Determinants.{DeterminantTellsInverses, determinant_of}
use Rattle.field_slices.specs.Matrices.{AreInverseMatrices, IsMatrixProduct, identity_entry, product_entry}
use Rattle.field_slices.proofs.DeterminantRows.{as_row, determinant-equal, determinant-row_sum, row-other, row-own, with_row}
use Rattle.field_slices.proofs.LaplaceExpansion.{determinant-lt, determinant-same}
use Rattle.field_slices.proofs.DeterminantProducts.{determinant-identity, determinant-product, product-identity}
use Rattle.field_slices.proofs.LinearSystems.{sum_of_nothing}
use Rattle.field_slices.proofs.RowSpaces.{identity-only, only, only-after, only-other, only-same, sum_with}

module _ (width : ℕ) (times : ℕ → ℕ → ℕ) (ring : IsRing width 1 times) where
  -- a combination of rows times a column is the combination of their products with it
  pub combination-times : (c x : ℕ → ℕ) (R : ℕ → ℕ → ℕ) (n m : ℕ)
      → sum_below (λ k. times (sum_below (λ l. times (c l) (R l k)) m) (x k)) n
      ≡ sum_below (λ l. times (c l) (sum_below (λ k. times (R l k) (x k)) n)) m
  unfolding sum_below
  combination-times c x R n zero = sum_of_nothing ring x n
  combination-times c x R n (suc m) =
      sum_with width times ring (λ k. sum_below (λ l. times (c l) (R l k)) m) (R m) x (c m) n
      ∙ ap (λ (s : ℕ). bit_xor s (times (c m) (sum_below (λ k. times (R m k) (x k)) n))) (combination-times c x R n m)

  module _ (wide : 0 < width) (n : ℕ) (A : ℕ → ℕ → ℕ) (A_fits : (i j : ℕ) → A i j < 2 ^ width) where
    -- the determinant of A with row j of the identity matrix in the place of row i: entry (j, i) of the adjugate
    cofactor : ℕ → ℕ → ℕ
    cofactor j i = determinant_of times n (with_row i (identity_entry j) A)

    -- A times the adjugate: row k of A in the place of row i gives the determinant for k = i, and else 0
    adjugate-product : (k i : ℕ) → k < n → i < n
        → sum_below (λ j. times (A k j) (cofactor j i)) n ≡ times (identity_entry k i) (determinant_of times n A)
    unfolding cofactor
    adjugate-product k i k_inside i_inside =
        let sums = λ (c : ℕ). sum_below (λ j. times (A k j) (identity_entry j c)) n in
        sym (determinant-row_sum ring n i A (A k) identity_entry n i_inside)
        ∙ as_row ring n A (with_row i sums A) i (A k)
        (λ c inside. ap (λ (w : ℕ → ℕ). w c) (row-own i sums A) ∙ product-identity ring wide n A A_fits k c inside)
        (λ r c _ _ other. ap (λ (w : ℕ → ℕ). w c) (row-other i sums A r other))
        ∙ replaced (cases_eq k i)
      where
        replaced : (k ≡ i) ⊎ (k ≡ i → ⊥)
            → determinant_of times n (with_row i (A k) A) ≡ times (identity_entry k i) (determinant_of times n A)
        replaced (inl same) =
            let d = determinant_of times n A in
            sym (as_row ring n A A i (A k) (λ c _. ap (λ (r : ℕ). A r c) (sym same)) (λ r c _ _ _. refl))
            ∙ sym (one-times width 1 times ring d (determinant-lt ring wide n A))
            ∙ ap (λ (x : ℕ). times x d) (sym (identity-only k i ∙ only-same i 1 k same))
        replaced (inr other) =
            let d = determinant_of times n A in
            determinant-equal ring n k i (with_row i (A k) A) k_inside i_inside other
            (row-other i (A k) A k other ∙ sym (row-own i (A k) A))
            ∙ sym (ap (λ (x : ℕ). times x d) (identity-only k i ∙ only-other i 1 k other) ∙ zero-times width 1 times ring d)

    -- the adjugate divided by the determinant is an inverse from the right
    right-inverse : (e : ℕ) → times (determinant_of times n A) e ≡ 1
        → IsMatrixProduct times n n n A (λ j i. times e (cofactor j i)) identity_entry
    right-inverse e inverts k i k_inside i_inside =
        let d = determinant_of times n A in
        sym (sum_below-same (λ j. times (A k j) (times e (cofactor j i))) (λ j. times (times (A k j) (cofactor j i)) e) n
        (λ j _. ap (times (A k j)) (ring.comm e (cofactor j i)) ∙ sym (ring.assoc (A k j) (cofactor j i) e))
        ∙ sum_below_times width 1 times ring (λ j. times (A k j) (cofactor j i)) e n
        ∙ ap (λ (x : ℕ). times x e) (adjugate-product k i k_inside i_inside)
        ∙ ring.assoc (identity_entry k i) d e ∙ ap (times (identity_entry k i)) inverts
        ∙ one (cases_eq k i))
      where
        one : (k ≡ i) ⊎ (k ≡ i → ⊥) → times (identity_entry k i) 1 ≡ identity_entry k i
        one (inl same) =
            let is = identity-only k i ∙ only-same i 1 k same in
            ap (λ (x : ℕ). times x 1) is ∙ one-times width 1 times ring 1 (pow_below 0 width wide) ∙ sym is
        one (inr other) =
            let is = identity-only k i ∙ only-other i 1 k other in
            ap (λ (x : ℕ). times x 1) is ∙ zero-times width 1 times ring 1 ∙ sym is

module _ {width : ℕ} {times : ℕ → ℕ → ℕ} (ring : IsRing width 1 times) (wide : 0 < width) (inverses : HasInverses width times) (n : ℕ) where
  -- what has an inverse from one side has no determinant 0
  one-sided : (A B : ℕ → ℕ → ℕ) → ((i j : ℕ) → A i j < 2 ^ width) → IsMatrixProduct times n n n A B identity_entry
      → times (determinant_of times n A) (determinant_of times n B) ≡ 1
  one-sided A B A_fits is =
      sym (determinant-product ring wide inverses n A B A_fits)
      ∙ determinant-same times n (product_entry times n A B) identity_entry (λ i j below inside. sym (is i j below inside))
      ∙ determinant-identity ring wide n

  inverse-right : (A : ℕ → ℕ → ℕ) → ((i j : ℕ) → A i j < 2 ^ width) → determinant_of times n A ≢ 0
      → (R : ℕ → ℕ → ℕ) × ((i j : ℕ) → R i j < 2 ^ width) × IsMatrixProduct times n n n A R identity_entry
  inverse-right A A_fits nonzero =
      let e = inverses (determinant_of times n A) (determinant-lt ring wide n A) nonzero in (
        λ j i. times e.0 (cofactor width times ring wide n A A_fits j i),
        λ j i. ring.below e.0 (cofactor width times ring wide n A A_fits j i),
        right-inverse width times ring wide n A A_fits e.0 e.2,
      )

  -- an inverse R of A from the right has an inverse S from the right, which is A
  pub inverse-both : (A : ℕ → ℕ → ℕ) → ((i j : ℕ) → A i j < 2 ^ width) → determinant_of times n A ≢ 0
      → (B : ℕ → ℕ → ℕ) × AreInverseMatrices times n A B
  inverse-both A A_fits nonzero =
      let R = inverse-right A A_fits nonzero in
      let some : determinant_of times n R.0 ≢ 0 = λ e.
      differ (times (determinant_of times n A) (determinant_of times n R.0)) (one-sided A R.0 A_fits R.2)
      (ap (times (determinant_of times n A)) e ∙ times-zero width 1 times ring (determinant_of times n A)) in
      let S = inverse-right R.0 R.1 some in (
        R.0,
        (
          R.2,
          λ i j below inside. S.2 i j below inside
              ∙ sum_below-same (λ k. times (R.0 i k) (S.0 k j)) (λ k. times (R.0 i k) (A k j)) n
              (λ k within. ap (times (R.0 i k)) (same R.0 S.0 R.2 S.1 S.2 k j within inside)),
        ),
      )
    where
      differ : (x : ℕ) → x ≡ 1 → x ≡ 0 → ⊥
      differ x one none = absurd (omega (arith, one, none))

      same : (R S : ℕ → ℕ → ℕ) → IsMatrixProduct times n n n A R identity_entry → ((i j : ℕ) → S i j < 2 ^ width)
          → IsMatrixProduct times n n n R S identity_entry → (i j : ℕ) → i < n → j < n → S i j ≡ A i j
      same R S first S_fits second i j below inside =
          sym (identity-product i j below)
          ∙ sum_below-same (λ k. times (identity_entry i k) (S k j)) (λ k. times (product_entry times n A R i k) (S k j)) n
          (λ k within. ap (λ (x : ℕ). times x (S k j)) (first i k below within))
          ∙ combination-times width times ring (A i) (λ k. S k j) R n n
          ∙ sum_below-same (λ l. times (A i l) (product_entry times n R S l j)) (λ l. times (A i l) (identity_entry l j)) n
          (λ l within. ap (times (A i l)) (sym (second l j within inside)))
          ∙ product-identity ring wide n A A_fits i j inside
        where
          identity-product : (i j : ℕ) → i < n → sum_below (λ k. times (identity_entry i k) (S k j)) n ≡ S i j
          identity-product i j within =
              sum_below-same (λ k. times (identity_entry i k) (S k j)) (λ k. times (only i 1 k) (S k j)) n
              (λ k _. ap (λ (x : ℕ). times x (S k j)) (turned k (cases_eq i k)))
              ∙ only-after width times ring i 1 (λ k. S k j) n within
              ∙ one-times width 1 times ring (S i j) (S_fits i j)
            where
              turned : (k : ℕ) → (i ≡ k) ⊎ (i ≡ k → ⊥) → identity_entry i k ≡ only i 1 k
              turned k (inl own) = identity-only i k ∙ only-same k 1 i own ∙ sym (only-same i 1 k (sym own))
              turned k (inr other) = identity-only i k ∙ only-other k 1 i other ∙ sym (only-other i 1 k (λ e. other (sym e)))

  -- where the determinant is 0 no matrix is an inverse from the left
  pub no-left_inverse : (A B : ℕ → ℕ → ℕ) → determinant_of times n A ≡ 0 → IsMatrixProduct times n n n B A identity_entry → ⊥
  no-left_inverse A B none is =
      let low = λ (i j : ℕ). times 1 (B i j) in
      let e = sym (one-sided low A (λ i j. ring.below 1 (B i j))
      (λ i j below inside. is i j below inside
      ∙ sum_below-same (λ k. times (B i k) (A k j)) (λ k. times (low i k) (A k j)) n
      (λ k _. sym (ap (λ (x : ℕ). times x (A k j)) (ring.one (B i k)) ∙ mod-times width 1 times ring (B i k) (A k j)))))
      ∙ ap (times (determinant_of times n low)) none ∙ times-zero width 1 times ring (determinant_of times n low) in
      absurd (omega (arith, e))

pub determinant_tells_inverses : DeterminantTellsInverses
determinant_tells_inverses width times n A wide field A_fits = (
  inverse-both field.ring wide field.inverses n A A_fits,
  λ none B is. no-left_inverse field.ring wide field.inverses n A B none is,
)
