-- Polynomials that shares are near to: the shares that are not wrong lie on them, and where shares that are not marked lie
-- on polynomials, few marks make these near.
use Rattle.std.proofs.Common.{◌≡◌, ◌⊎◌, ℕ, ◌+◌, ◌*◌, ◌<◌, ◌≤◌, inl, inr, List, [], Bool, true, false, length, sym, ◌∙◌, ap, refl, arith}
use Rattle.std.specs.Prelude.{nat_eq, not, slice_index}
use Rattle.std.proofs.lemmas.Bool.{cases_lt}
use Rattle.std.proofs.lemmas.Bool.Decides.{eqb_tells}
use Rattle.field_base.specs.Powers.{value_of}
use Rattle.field_slices.specs.Marks.{marked_below}
use Rattle.error_codes.proofs.Marks.{fewer-marks}
use Rattle.reed_solomon.specs.ByteFields.{byte_times}
use Rattle.error_codes.specs.Sharing.{share_at}
use Rattle.error_codes.specs.Wrong.{AreNearPolynomials, IsThroughUnmarked, LieUnmarked, is_wrong_byte, is_wrong_share}
use Rattle.reed_solomon.specs.declared.byte_field.ByteField.{ByteField}
use Rattle.error_codes.proofs.Located.{each-unmarked, nothing-marked, some-marked}

equal-is : (a b : ℕ) → not (nat_eq a b) ≡ false → b ≡ a
equal-is a b is = elim (eqb_tells a b) [
  | inl same ↦ sym same.1
  | inr other ↦ let differs : not (nat_eq a b) ≡ true = ap not other.0 in absurd (cc)
]

is-equal : (a b : ℕ) → b ≡ a → not (nat_eq a b) ≡ false
is-equal a b same = elim (eqb_tells a b) [
  | inl is ↦ ap not is.0
  | inr other ↦ absurd (other.1 (sym same))
]

module _ (field : ByteField) (k : ℕ) (indexes : List ℕ) (size : ℕ) (shares : List ℕ) where
  -- the shares that are not marked lie on polynomials for which the marked are wrong
  pub near-unmarked : (polynomials : ℕ → List ℕ) (marked : ℕ → Bool) → AreNearPolynomials field k indexes size shares polynomials
      → ((i : ℕ) → i < length indexes → marked i ≡ is_wrong_share field indexes size shares polynomials i) → (j : ℕ) → j < size
      → IsThroughUnmarked field k (length indexes) (slice_index indexes) (share_at size shares j) marked (polynomials j)
  near-unmarked polynomials marked near are j inside = record {
    coefficient_count = near.coefficient_count j inside;
    at_points = λ i below free.
        equal-is (share_at size shares j i) (value_of 1 (byte_times field) (λ c. c) (polynomials j) (slice_index indexes i))
        (each-unmarked (is_wrong_byte field indexes size shares polynomials i) size (sym (are i below) ∙ free) j inside);
  }

  -- the wrong shares of a column are among all
  pub few-wrong : (polynomials : ℕ → List ℕ) → AreNearPolynomials field k indexes size shares polynomials → (j : ℕ) → j < size
      → 2 * marked_below (λ i. is_wrong_byte field indexes size shares polynomials i j) (length indexes) + k ≤ length indexes
  few-wrong polynomials near j inside =
      let fewer = fewer-marks (λ i. is_wrong_byte field indexes size shares polynomials i j) (is_wrong_share field indexes size shares polynomials)
      (length indexes) (λ i below is. some-marked (is_wrong_byte field indexes size shares polynomials i) size j inside is) in
      let few = near.few_wrong in omega (arith, fewer, few)

  module _ (marked : ℕ → Bool) (lie : LieUnmarked field k indexes size shares marked)
      (few : 2 * marked_below marked (length indexes) + k ≤ length indexes) where
    chosen : (j : ℕ) → (j < size) ⊎ (size ≤ j) → List ℕ
    chosen j (inl inside) = (lie j inside).0
    chosen j (inr past) = []

    polynomials : ℕ → List ℕ
    polynomials j = chosen j (cases_lt j size)

    through : (j : ℕ) → j < size
        → IsThroughUnmarked field k (length indexes) (slice_index indexes) (share_at size shares j) marked (polynomials j)
    unfolding polynomials chosen
    through j inside = at (cases_lt j size)
      where
        at : (side : (j < size) ⊎ (size ≤ j))
            → IsThroughUnmarked field k (length indexes) (slice_index indexes) (share_at size shares j) marked (chosen j side)
        at (inl before) = (lie j before).1
        at (inr past) = absurd (omega (arith, inside, past))

    right : (i : ℕ) → i < length indexes → marked i ≡ false → is_wrong_share field indexes size shares polynomials i ≡ false
    right i below free =
        let fewer = fewer-marks (is_wrong_byte field indexes size shares polynomials i) (λ j. false) size
        (λ j inside is.
        let same = is-equal (share_at size shares j i) (value_of 1 (byte_times field) (λ c. c) (polynomials j) (slice_index indexes i))
        ((through j inside).at_points i below free) in
        absurd (cc)) in
        let nothing = nothing-marked size in
        is-equal (marked_below (is_wrong_byte field indexes size shares polynomials i) size) 0 (omega (arith, fewer, nothing))

    -- polynomials that few shares miss
    pub are-near : (found : ℕ → List ℕ) × AreNearPolynomials field k indexes size shares found
    are-near = (
      polynomials,
      record {
        coefficient_count = λ j inside. (through j inside).coefficient_count;
        few_wrong =
            let fewer = fewer-marks (is_wrong_share field indexes size shares polynomials) marked (length indexes)
            (λ i below is. pick i below is (marked i) refl) in
            omega (arith, fewer, few);
      },
    )
      where
        pick : (i : ℕ) → i < length indexes → is_wrong_share field indexes size shares polynomials i ≡ true
            → (b : Bool) → marked i ≡ b → marked i ≡ true
        pick i below is true mark = mark
        pick i below is false mark = let free = right i below mark in absurd (cc)
