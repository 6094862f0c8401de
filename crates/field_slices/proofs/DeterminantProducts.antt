-- The determinant of a product of matrices: adding multiples of one row of A to others keeps that of A B, and leads to a triangular matrix.
use Rattle.std.proofs.Common.{◌≡◌, ◌≢◌, ◌⊎◌, inl, inr, ℕ, zero, suc, ◌^◌, ◌<◌, ◌≤◌, Bool, refl, sym, ◌∙◌, ap, ap₂, arith}
use Rattle.std.specs.Prelude.{bit_xor, if◌then◌else◌, nat_lt}
use Rattle.std.proofs.lemmas.Bool.{cases_eq, cases_lt, lt-ltb, le-ltb}
use Rattle.std.proofs.lemmas.Nat.{pow_below, xor_lt}
use native.Mathlib.Nat.{mod-eq_of_lt}
use lib.Bits.{xor_self, xor_zero_r, xor_zero_l}
use Rattle.field_base.specs.Basis.{product_below, sum_below}
use Rattle.field_base.specs.Field.{HasInverses}
use Rattle.field_base.specs.Ring.{IsRing}
use Rattle.field_base.proofs.BasisSums.{sum_below-same}
use Rattle.field_base.proofs.PowerLemmas.{one-times, times-one}
use Rattle.field_base.proofs.RingLemmas.{times_left_comm, times-zero, zero-times}
use Rattle.field_slices.specs.Determinants.{DeterminantsMultiply, determinant_of}
use Rattle.field_slices.specs.Matrices.{identity_entry, product_entry}
use Rattle.field_slices.proofs.DeterminantRows.{as_row, determinant-equal, determinant-multiples, determinant-row_sum, row-other, row-own, with_row}
use Rattle.field_slices.proofs.LaplaceExpansion.{determinant-corner, determinant-lt, determinant-same}
use Rattle.field_slices.proofs.MatrixRows.{mixed, mixed-before, mixed-more, mixed-past}
use Rattle.field_slices.proofs.RowSpaces.{coefficient_at, identity-only, only, only-other, only-same, sum_with}

-- ---- multiples of one row

-- multiples of row a, by the factors t i, added to the rows
abbrev multiples_added : (ℕ → ℕ → ℕ) → ℕ → (ℕ → ℕ) → (ℕ → ℕ → ℕ) → ℕ → ℕ → ℕ
multiples_added times a t A i j = bit_xor (A i j) (times (t i) (A a j))

-- U, in n rows and columns, is 0 below the diagonal in the first k, and U B has the determinant of A B for each B
record IsSteppedTo (width : ℕ) (times : ℕ → ℕ → ℕ) (n k : ℕ) (A U : ℕ → ℕ → ℕ) : Type 0 where
  fits : (i j : ℕ) → U i j < 2 ^ width
  zeros : (i j : ℕ) → i < n → j < i → j < k → U i j ≡ 0
  keeps : (B : ℕ → ℕ → ℕ) → determinant_of times n (product_entry times n U B) ≡ determinant_of times n (product_entry times n A B)

-- a place from k on where something is not 0, or none
find-nonzero : (x : ℕ → ℕ) (k n : ℕ) → ((r : ℕ) × (k ≤ r) × (r < n) × (x r ≢ 0)) ⊎ ((i : ℕ) → k ≤ i → i < n → x i ≡ 0)
find-nonzero x k zero = inr (λ i past below. absurd (omega (arith, below)))
find-nonzero x k (suc n) =
    elim (find-nonzero x k n) [
      | inl found ↦ inl (found.0, found.1, further found.0 found.2, found.3)
      | inr none ↦ last none (cases_eq (x n) 0) (cases_lt n k)
    ]
  where
    further : (r : ℕ) → r < n → r < suc n
    further r below = omega (arith, below)

    last : ((i : ℕ) → k ≤ i → i < n → x i ≡ 0) → (x n ≡ 0) ⊎ (x n ≡ 0 → ⊥) → (n < k) ⊎ (k ≤ n)
        → ((r : ℕ) × (k ≤ r) × (r < suc n) × (x r ≢ 0)) ⊎ ((i : ℕ) → k ≤ i → i < suc n → x i ≡ 0)
    last none (inl zero_there) _ = inr (λ i past below. each none zero_there i past below (cases_eq i n))
      where
        each : ((i : ℕ) → k ≤ i → i < n → x i ≡ 0) → x n ≡ 0 → (i : ℕ) → k ≤ i → i < suc n → (i ≡ n) ⊎ (i ≡ n → ⊥) → x i ≡ 0
        each none zero_there i past below (inl own) = ap x own ∙ zero_there
        each none zero_there i past below (inr other) = none i past (omega (arith, below, other))
    last none (inr nonzero) (inl before) = inr (λ i past below. absurd (omega (arith, before, past, below)))
    last none (inr nonzero) (inr past) = inl (n, past, omega arith, nonzero)

module _ {width : ℕ} {times : ℕ → ℕ → ℕ} (ring : IsRing width 1 times) (n : ℕ) where
  -- they keep the determinant of a product where row a itself stays
  multiples-keep : (a : ℕ) (t : ℕ → ℕ) (A B : ℕ → ℕ → ℕ) → a < n → t a ≡ 0
      → determinant_of times n (product_entry times n (multiples_added times a t A) B) ≡ determinant_of times n (product_entry times n A B)
  multiples-keep a t A B inside none =
      determinant-multiples ring n a t (product_entry times n A B) (product_entry times n (multiples_added times a t A) B) inside
      (λ j _. sums a j
      ∙ ap (bit_xor (product_entry times n A B a j))
      (ap (λ (s : ℕ). times s (product_entry times n A B a j)) none ∙ zero-times width 1 times ring (product_entry times n A B a j))
      ∙ xor_zero_r (product_entry times n A B a j))
      (λ i j _ _ _. sums i j)
    where
      sums : (i j : ℕ) → product_entry times n (multiples_added times a t A) B i j
          ≡ bit_xor (product_entry times n A B i j) (times (t i) (product_entry times n A B a j))
      sums i j = sum_with width times ring (A i) (A a) (λ k. B k j) (t i) n

  module _ (A : ℕ → ℕ → ℕ) where
    added-stepped : (k a : ℕ) (t : ℕ → ℕ) (U : ℕ → ℕ → ℕ) → a < n → k ≤ a → t a ≡ 0 → IsSteppedTo width times n k A U
        → IsSteppedTo width times n k A (multiples_added times a t U)
    added-stepped k a t U inside past none so_far = record {
      fits = λ i j. xor_lt width (U i j) (times (t i) (U a j)) (so_far.fits i j) (ring.below (t i) (U a j));
      zeros = λ i j within below before.
          ap₂ (λ (x y : ℕ). bit_xor x (times (t i) y)) (so_far.zeros i j within below before)
          (so_far.zeros a j inside (omega (arith, past, before)) before)
          ∙ ap (bit_xor 0) (times-zero width 1 times ring (t i));
      keeps = λ B. multiples-keep a t U B inside none ∙ so_far.keeps B;
    }

    -- the entry of the diagonal is not 0 after a row that is not 0 there was added, where it was
    bring : (k r : ℕ) (U : ℕ → ℕ → ℕ) → k ≤ r → r < n → U r k ≢ 0 → IsSteppedTo width times n k A U
        → (V : ℕ → ℕ → ℕ) × IsSteppedTo width times n k A V × (V k k ≢ 0)
    bring k r U past inside nonzero so_far =
        elim (cases_eq (U k k) 0) [
          | inl none ↦ brought none
          | inr some ↦ (U, so_far, some)
        ]
      where
        brought : U k k ≡ 0 → (V : ℕ → ℕ → ℕ) × IsSteppedTo width times n k A V × (V k k ≢ 0)
        brought none = (
          multiples_added times r (only k 1) U,
          added-stepped k r (only k 1) U inside past
              (only-other k 1 r (λ e. nonzero (ap (λ (i : ℕ). U i k) e ∙ none))) so_far,
          λ e. nonzero (sym is ∙ e),
        )
          where
            is : multiples_added times r (only k 1) U k k ≡ U r k
            is =
                ap₂ (λ (x s : ℕ). bit_xor x (times s (U r k))) none (only-same k 1 k refl) ∙ xor_zero_l (times 1 (U r k))
                ∙ one-times width 1 times ring (U r k) (so_far.fits r k)

    -- and what is below it is 0 after multiples of its row were added
    module _ (k q : ℕ) (U : ℕ → ℕ → ℕ) (inside : k < n) (inverts : times (U k k) q ≡ 1) (so_far : IsSteppedTo width times n k A U) where
      factor : ℕ → ℕ
      factor i = if nat_lt k i then times (U i k) q else 0

      factor-own : factor k ≡ 0
      unfolding factor
      factor-own = ap (λ (b : Bool). if b then times (U k k) q else 0) (le-ltb k k (omega arith))

      factor-below : (i : ℕ) → k < i → factor i ≡ times (U i k) q
      unfolding factor
      factor-below i below = ap (λ (b : Bool). if b then times (U i k) q else 0) (lt-ltb k i below)

      factor-clears : (i : ℕ) → k < i → multiples_added times k factor U i k ≡ 0
      factor-clears i below =
          ap (bit_xor (U i k))
          (ap (λ (s : ℕ). times s (U k k)) (factor-below i below) ∙ ring.assoc (U i k) q (U k k)
          ∙ ap (times (U i k)) (ring.comm q (U k k) ∙ inverts) ∙ times-one width 1 times ring (U i k) (so_far.fits i k))
          ∙ xor_self (U i k)

      clear : (V : ℕ → ℕ → ℕ) × IsSteppedTo width times n (suc k) A V
      clear =
          let kept = added-stepped k k factor U inside (omega arith) factor-own so_far in (
            multiples_added times k factor U,
            record {
              fits = kept.fits;
              zeros = λ i j within below before. each kept i j within below before (cases_eq j k);
              keeps = kept.keeps;
            },
          )
        where
          each : IsSteppedTo width times n k A (multiples_added times k factor U) → (i j : ℕ) → i < n → j < i → j < suc k
              → (j ≡ k) ⊎ (j ≡ k → ⊥) → multiples_added times k factor U i j ≡ 0
          each kept i j within below before (inl last) =
              ap (multiples_added times k factor U i) last ∙ factor-clears i (omega (arith, last, below))
          each kept i j within below before (inr other) = kept.zeros i j within below (omega (arith, before, other))

    -- a column more
    column : HasInverses width times → (k : ℕ) (U : ℕ → ℕ → ℕ) → k < n → IsSteppedTo width times n k A U
        → (V : ℕ → ℕ → ℕ) × IsSteppedTo width times n (suc k) A V
    column inverses k U inside so_far =
        elim (find-nonzero (λ i. U i k) k n) [
          | inl found ↦
              let V = bring k found.0 U found.1 found.2 found.3 so_far in
              let inverse = inverses (V.0 k k) (V.1.fits k k) V.2 in
              clear k inverse.0 V.0 inside inverse.2 V.1
          | inr none ↦ (
            U,
            record {
              fits = so_far.fits;
              zeros = λ i j within below before. skipped none i j within below before (cases_eq j k);
              keeps = so_far.keeps;
            },
          )
        ]
      where
        skipped : ((i : ℕ) → k ≤ i → i < n → U i k ≡ 0) → (i j : ℕ) → i < n → j < i → j < suc k → (j ≡ k) ⊎ (j ≡ k → ⊥) → U i j ≡ 0
        skipped none i j within below before (inl last) = ap (U i) last ∙ none i (omega (arith, last, below)) within
        skipped none i j within below before (inr other) = so_far.zeros i j within below (omega (arith, before, other))

    triangular : HasInverses width times → ((i j : ℕ) → A i j < 2 ^ width) → (k : ℕ) → k ≤ n
        → (U : ℕ → ℕ → ℕ) × IsSteppedTo width times n k A U
    triangular inverses A_fits zero within =
        (A, record { fits = A_fits; zeros = λ i j _ _ before. absurd (omega (arith, before)); keeps = λ B. refl })
    triangular inverses A_fits (suc k) within =
        let so_far = triangular inverses A_fits k (omega (arith, within)) in
        column inverses k so_far.0 (omega (arith, within)) so_far.1

-- ---- combinations of rows

-- only one term
sum-one : (f : ℕ → ℕ) (b n : ℕ) → b < n → ((i : ℕ) → i < n → i ≢ b → f i ≡ 0) → sum_below f n ≡ f b
unfolding sum_below
sum-one f b zero inside zeros = absurd (omega (arith, inside))
sum-one f b (suc n) inside zeros =
    elim (cases_eq n b) [
      | inl own ↦ ap₂ bit_xor (nothing own n (omega arith)) (ap f own) ∙ xor_zero_l (f b)
      | inr other ↦ ap₂ bit_xor (sum-one f b n (less other) (λ i below. zeros i (omega (arith, below)))) (zeros n (omega arith) other)
          ∙ xor_zero_r (f b)
    ]
  where
    less : (n ≡ b → ⊥) → b < n
    less other = omega (arith, inside, other)

    nothing : n ≡ b → (m : ℕ) → m ≤ n → sum_below f m ≡ 0
    nothing own zero within = refl
    nothing own (suc m) within =
        ap₂ bit_xor (nothing own m (omega (arith, within))) (zeros m (omega (arith, within)) (λ e. absurd (omega (arith, e, own, within))))

module _ {width : ℕ} {times : ℕ → ℕ → ℕ} (ring : IsRing width 1 times) (n : ℕ) where
  -- a row that becomes a combination of all has the factor of its own coefficient
  determinant-combination : (b : ℕ) (A : ℕ → ℕ → ℕ) (x : ℕ → ℕ) → b < n
      → determinant_of times n (with_row b (λ j. sum_below (λ k. times (x k) (A k j)) n) A) ≡ times (x b) (determinant_of times n A)
  determinant-combination b A x inside =
      determinant-row_sum ring n b A x A n inside
      ∙ sum-one (λ k. times (x k) (determinant_of times n (with_row b (A k) A))) b n inside
      (λ k below other. ap (times (x k))
      (determinant-equal ring n k b (with_row b (A k) A) below inside other
      (row-other b (A k) A k other ∙ sym (row-own b (A k) A)))
      ∙ times-zero width 1 times ring (x k))
      ∙ ap (times (x b))
      (sym (as_row ring n A A b (A b) (λ j _. refl) (λ i j _ _ _. refl)))

  -- the product of a matrix that is 0 below the diagonal with another: its rows take the places of those of the other from the first on
  module _ (wide : 0 < width) (U B : ℕ → ℕ → ℕ) (zeros : (i j : ℕ) → i < n → j < i → U i j ≡ 0) where
    triangle-rows : (k : ℕ) → k ≤ n
        → determinant_of times n (mixed k (product_entry times n U B) B)
        ≡ times (product_below times (λ i. U i i) k) (determinant_of times n B)
    unfolding product_below
    triangle-rows zero within =
        determinant-same times n (mixed 0 (product_entry times n U B) B) B
        (λ i j _ _. ap (λ (w : ℕ → ℕ). w j) (mixed-past 0 (product_entry times n U B) B i (omega arith)))
        ∙ sym (one-times width 1 times ring (determinant_of times n B) (determinant-lt ring wide n B))
    triangle-rows (suc k) within =
        let C = product_entry times n U B in
        let before = product_below times (λ i. U i i) k in
        let d = determinant_of times n B in
        as_row ring n (mixed k C B) (mixed (suc k) C B) k (λ j. sum_below (λ i. times (U k i) (mixed k C B i j)) n)
        (λ j _. ap (λ (w : ℕ → ℕ). w j) (mixed-before (suc k) C B k (omega arith))
        ∙ sum_below-same (λ i. times (U k i) (B i j)) (λ i. times (U k i) (mixed k C B i j)) n (λ i below. same i j (cases_lt i k)))
        (λ i j _ _ other. mixed-more k C B i j other)
        ∙ determinant-combination k (mixed k C B) (U k) (omega (arith, within))
        ∙ ap (times (U k k)) (triangle-rows k (omega (arith, within)))
        ∙ times_left_comm width 1 times ring (U k k) before d ∙ sym (ring.assoc before (U k k) d)
      where
        same : (i j : ℕ) → (i < k) ⊎ (k ≤ i) → times (U k i) (B i j) ≡ times (U k i) (mixed k (product_entry times n U B) B i j)
        same i j (inl early) =
            let none = zeros k i (omega (arith, within)) early in
            ap (λ (x : ℕ). times x (B i j)) none ∙ zero-times width 1 times ring (B i j)
            ∙ sym (ap (λ (x : ℕ). times x (mixed k (product_entry times n U B) B i j)) none
            ∙ zero-times width 1 times ring (mixed k (product_entry times n U B) B i j))
        same i j (inr late) =
            ap (times (U k i)) (ap (λ (w : ℕ → ℕ). w j) (sym (mixed-past k (product_entry times n U B) B i late)))

    triangle-product : determinant_of times n (product_entry times n U B)
        ≡ times (product_below times (λ i. U i i) n) (determinant_of times n B)
    triangle-product =
        determinant-same times n (product_entry times n U B) (mixed n (product_entry times n U B) B)
        (λ i j below _. ap (λ (w : ℕ → ℕ). w j) (sym (mixed-before n (product_entry times n U B) B i below)))
        ∙ triangle-rows n (omega arith)

-- ---- the identity matrix

-- without its first row and column it is the identity matrix
identity-corner : (i j : ℕ) → identity_entry (suc i) (suc j) ≡ identity_entry i j
identity-corner i j =
    elim (cases_eq i j) [
      | inl same ↦ identity-only (suc i) (suc j) ∙ only-same (suc j) 1 (suc i) (ap suc same) ∙ sym (only-same j 1 i same)
          ∙ sym (identity-only i j)
      | inr other ↦ identity-only (suc i) (suc j) ∙ only-other (suc j) 1 (suc i) (λ e. other (omega (arith, e)))
          ∙ sym (only-other j 1 i other) ∙ sym (identity-only i j)
    ]

module _ {width : ℕ} {times : ℕ → ℕ → ℕ} (ring : IsRing width 1 times) (wide : 0 < width) where
  -- its determinant is 1
  pub determinant-identity : (n : ℕ) → determinant_of times n identity_entry ≡ 1
  unfolding determinant_of
  determinant-identity zero = refl
  determinant-identity (suc n) =
      determinant-corner ring n identity_entry
      (λ i _. identity-only (suc i) 0 ∙ only-other 0 1 (suc i) (λ e. absurd (omega (arith, e))))
      ∙ ap₂ times (identity-only 0 0 ∙ only-same 0 1 0 refl)
      (determinant-same times n (λ i j. identity_entry (suc i) (suc j)) identity_entry (λ i j _ _. identity-corner i j)
      ∙ determinant-identity n)
      ∙ one-times width 1 times ring 1 (pow_below 0 width wide)

  -- a matrix times it is itself
  pub product-identity : (n : ℕ) (A : ℕ → ℕ → ℕ) → ((i j : ℕ) → A i j < 2 ^ width) → (i j : ℕ) → j < n
      → product_entry times n A identity_entry i j ≡ A i j
  product-identity n A A_fits i j within =
      coefficient_at width times ring (A i) (λ k. identity_entry k j) n j within (λ k _. identity-only k j) ∙ mod-eq_of_lt (A_fits i j)

  -- ---- the theorem

  -- a product fits
  product_below-lt : (f : ℕ → ℕ) (n : ℕ) → product_below times f n < 2 ^ width
  unfolding product_below
  product_below-lt f zero = pow_below 0 width wide
  product_below-lt f (suc n) = ring.below (product_below times f n) (f n)

  pub determinant-product : HasInverses width times → (n : ℕ) (A B : ℕ → ℕ → ℕ) → ((i j : ℕ) → A i j < 2 ^ width)
      → determinant_of times n (product_entry times n A B) ≡ times (determinant_of times n A) (determinant_of times n B)
  determinant-product inverses n A B A_fits =
      let U = triangular ring n A inverses A_fits n (omega arith) in
      let diagonal = product_below times (λ i. U.0 i i) n in
      let zeros = λ (i j : ℕ) (within : i < n) (below : j < i). U.1.zeros i j within below (omega (arith, within, below)) in
      let own : determinant_of times n A ≡ diagonal =
      determinant-same times n A (product_entry times n A identity_entry) (λ i j _ within. sym (product-identity n A A_fits i j within))
      ∙ sym (U.1.keeps identity_entry) ∙ triangle-product ring n wide U.0 identity_entry zeros
      ∙ ap (times diagonal) (determinant-identity n) ∙ times-one width 1 times ring diagonal (product_below-lt (λ i. U.0 i i) n) in
      sym (U.1.keeps B) ∙ triangle-product ring n wide U.0 B zeros
      ∙ ap (λ (x : ℕ). times x (determinant_of times n B)) (sym own)

pub determinants_multiply : DeterminantsMultiply
determinants_multiply width times n A B C wide field A_fits is =
    determinant-same times n C (product_entry times n A B) (λ i j below inside. is i j below inside)
    ∙ determinant-product field.ring wide field.inverses n A B A_fits
