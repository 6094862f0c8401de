-- The determinant through elimination: what a pivot divides it by, and what is left where there is none.
use Rattle.std.proofs.Common.{◌≡◌, ◌≢◌, ◌⊎◌, inl, inr, ℕ, suc, ◌+◌, ◌-◌, ◌^◌, ◌<◌, ◌≤◌, List, sym, ◌∙◌, ap, ap₂, arith}
use Rattle.std.specs.Prelude.{bit_xor}
use Rattle.std.proofs.lemmas.Bool.{cases_eq}
use lib.Bits.{xor_self}
use Rattle.field_base.specs.Ring.{IsRing}
use Rattle.field_base.proofs.PowerLemmas.{one-times, times-one}
use Rattle.field_base.proofs.RingLemmas.{times-zero}
use Rattle.field_slices.specs.Determinants.{corner_entry, determinant_of}
use Rattle.field_slices.specs.Matrices.{IsRowWritten, cleared_entry, joined_entry}
use Rattle.field_slices.proofs.DeterminantRows.{determinant-added, determinant-multiples, determinant-scaled}
use Rattle.field_slices.proofs.LaplaceExpansion.{determinant-corner, determinant-lt, determinant-same, determinant-zero_column}
use Rattle.field_slices.proofs.Elimination.{cleared-other, cleared-own, joined-other, joined-same}

-- ---- a pivot

-- The row and column `step` of m + 1 that are left: `brought` has row `row` added to row `step`, where it is another; `scaled` has row `step`
-- times `inverse`; and `cleared` has multiples of row `step` added to those below it.
module _ {V : Type 0} {read : List V → ℕ → ℕ → ℕ} {width : ℕ} {times : ℕ → ℕ → ℕ} (ring : IsRing width 1 times) (wide : 0 < width)
    (fits : (values : List V) (i j : ℕ) → read values i j < 2 ^ width) {size step row : ℕ} (m : ℕ) (left : size ≡ step + suc m) (from : step ≤ row)
    (row_inside : row < size) {old brought : List V}
    (brings : IsRowWritten read size step (joined_entry step row (read old)) old brought) where
  brought-determinant : determinant_of times (suc m) (corner_entry step (read brought))
      ≡ determinant_of times (suc m) (corner_entry step (read old))
  brought-determinant =
      elim (cases_eq row step) [
        | inl own ↦ determinant-same times (suc m) (corner_entry step (read brought)) (corner_entry step (read old))
            (λ i j below inside. entry i j inside (cases_eq i 0) own)
        | inr other ↦ determinant-added ring (suc m) (corner_entry step (read old))
            (corner_entry step (read brought)) (row - step) 0 1 (omega (arith, left, from, row_inside)) (omega arith)
            (λ e. other (omega (arith, e, from)))
            (λ j inside. sum other j inside)
            (λ i j below inside apart. brings.others (step + i) (step + j) (λ e. apart (omega (arith, e))) (omega (arith, left, inside)))
      ]
    where
      entry : (i j : ℕ) → j < suc m → (i ≡ 0) ⊎ (i ≡ 0 → ⊥) → row ≡ step
          → corner_entry step (read brought) i j ≡ corner_entry step (read old) i j
      entry i j inside (inl first) own =
          let place : step + i ≡ step = omega (arith, first) in
          ap (λ (k : ℕ). read brought k (step + j)) place ∙ brings.entries (step + j) (omega (arith, left, inside))
          ∙ joined-same step row (read old) (step + j) own
          ∙ ap (λ (k : ℕ). read old k (step + j)) (sym place)
      entry i j inside (inr later) own =
          brings.others (step + i) (step + j) (λ e. later (omega (arith, e))) (omega (arith, left, inside))

      sum : row ≢ step → (j : ℕ) → j < suc m
          → corner_entry step (read brought) 0 j
          ≡ bit_xor (corner_entry step (read old) 0 j)
          (times 1 (corner_entry step (read old) (row - step) j))
      sum other j inside =
          let A = read old in
          let none : step + 0 ≡ step = omega arith in
          let back : step + (row - step) ≡ row = omega (arith, from) in
          ap (λ (k : ℕ). read brought k (step + j)) none ∙ brings.entries (step + j) (omega (arith, left, inside))
          ∙ joined-other step row A (step + j) other
          ∙ ap₂ (λ (k l : ℕ). bit_xor (A k (step + j)) (A l (step + j))) (sym none) (sym back)
          ∙ ap (bit_xor (A (step + 0) (step + j)))
          (sym (one-times width 1 times ring (A (step + (row - step)) (step + j))
          (fits old (step + (row - step)) (step + j))))

  module _ {inverse : ℕ} (inverts : times (read brought step step) inverse ≡ 1) {scaled cleared : List V}
      (scales : IsRowWritten read size step (λ j. times inverse (read brought step j)) brought scaled)
      (clears : (i j : ℕ) → step ≤ i → i < size → j < size
      → read cleared i j ≡ cleared_entry times step step (read scaled) i j) where
    scaled-determinant : times (read brought step step)
        (determinant_of times (suc m) (corner_entry step (read scaled)))
        ≡ determinant_of times (suc m) (corner_entry step (read brought))
    scaled-determinant =
        let pivot = read brought step step in
        let d = determinant_of times (suc m) (corner_entry step (read brought)) in
        let none : step + 0 ≡ step = omega arith in
        ap (times pivot)
        (determinant-scaled ring (suc m) (corner_entry step (read brought))
        (corner_entry step (read scaled)) 0 inverse (omega arith)
        (λ j inside.
        ap (λ (k : ℕ). read scaled k (step + j)) none ∙ scales.entries (step + j) (omega (arith, left, inside))
        ∙ ap (λ (k : ℕ). times inverse (read brought k (step + j))) (sym none))
        (λ i j below inside apart. scales.others (step + i) (step + j) (λ e. apart (omega (arith, e))) (omega (arith, left, inside))))
        ∙ sym (ring.assoc pivot inverse d) ∙ ap (λ (x : ℕ). times x d) inverts
        ∙ one-times width 1 times ring d (determinant-lt ring wide (suc m) (corner_entry step (read brought)))

    -- the pivot is 1
    scaled-one : read scaled step step ≡ 1
    scaled-one =
        scales.entries step (omega (arith, left)) ∙ ring.comm inverse (read brought step step) ∙ inverts

    cleared-own_row : (j : ℕ) → j < suc m
        → corner_entry step (read cleared) 0 j ≡ corner_entry step (read scaled) 0 j
    cleared-own_row j inside =
        clears (step + 0) (step + j) (omega arith) (omega (arith, left)) (omega (arith, left, inside))
        ∙ cleared-own times step step (read scaled) (step + 0) (step + j) (omega arith)

    cleared-other_row : (i j : ℕ) → i < suc m → j < suc m → i ≢ 0
        → corner_entry step (read cleared) i j
        ≡ bit_xor (corner_entry step (read scaled) i j)
        (times (corner_entry step (read scaled) i 0) (corner_entry step (read scaled) 0 j))
    cleared-other_row i j below inside later =
        let A = read scaled in
        let none : step + 0 ≡ step = omega arith in
        clears (step + i) (step + j) (omega arith) (omega (arith, left, below)) (omega (arith, left, inside))
        ∙ cleared-other times step step A (step + i) (step + j) (λ e. later (omega (arith, e)))
        ∙ ap (λ (k : ℕ). bit_xor (A (step + i) (step + j)) (times (A (step + i) k) (A k (step + j)))) (sym none)

    cleared-zero : (i : ℕ) → i < m → corner_entry step (read cleared) (suc i) 0 ≡ 0
    cleared-zero i below =
        let A = corner_entry step (read scaled) in
        let none : step + 0 ≡ step = omega arith in
        cleared-other_row (suc i) 0 (omega (arith, below)) (omega arith) (λ e. absurd (omega (arith, e)))
        ∙ ap (bit_xor (A (suc i) 0))
        (ap (times (A (suc i) 0)) (ap (λ (k : ℕ). read scaled k k) none ∙ scaled-one)
        ∙ times-one width 1 times ring (A (suc i) 0) (fits scaled (step + suc i) (step + 0)))
        ∙ xor_self (A (suc i) 0)

    -- the determinant of what is left is the pivot times that of what is left then
    pub pivot-taken : determinant_of times (suc m) (corner_entry step (read old))
        ≡ times (read brought step step)
        (determinant_of times m (corner_entry (step + 1) (read cleared)))
    pivot-taken =
        let pivot = read brought step step in
        let C = corner_entry step (read cleared) in
        let rest = determinant_of times m (λ i j. C (suc i) (suc j)) in
        let none : step + 0 ≡ step = omega arith in
        sym brought-determinant ∙ sym scaled-determinant
        ∙ ap (times pivot)
        (sym (determinant-multiples ring (suc m) 0 (λ i. corner_entry step (read scaled) i 0)
        (corner_entry step (read scaled)) C (omega arith) cleared-own_row cleared-other_row)
        ∙ determinant-corner ring m C cleared-zero
        ∙ ap (λ (x : ℕ). times x rest)
        (cleared-own_row 0 (omega arith) ∙ ap (λ (k : ℕ). read scaled k k) none ∙ scaled-one)
        ∙ one-times width 1 times ring rest (determinant-lt ring wide m (λ i j. C (suc i) (suc j)))
        ∙ determinant-same times m (λ i j. C (suc i) (suc j)) (corner_entry (step + 1) (read cleared))
        (λ i j _ _. ap₂ (read cleared) (shifted i) (shifted j)))
      where
        shifted : (i : ℕ) → step + suc i ≡ step + 1 + i
        shifted i = omega arith

-- a column of zeros has none
pub pivot-none : {width : ℕ} {times : ℕ → ℕ → ℕ} → IsRing width 1 times → {size step : ℕ} (now : ℕ → ℕ → ℕ) → step < size
    → ((i : ℕ) → step ≤ i → i < size → now i step ≡ 0) → determinant_of times (size - step) (corner_entry step now) ≡ 0
pivot-none {times = times} ring {size} {step} now within zeros =
    let left : size - step ≡ suc (size - (step + 1)) = omega (arith, within) in
    let none : step + 0 ≡ step = omega arith in
    ap (λ (n : ℕ). determinant_of times n (corner_entry step now)) left
    ∙ determinant-zero_column ring (size - (step + 1)) (corner_entry step now)
    (λ i below. ap (now (step + i)) none ∙ zeros (step + i) (omega arith) (omega (arith, below, left)))

-- ---- the steps

module _ {width : ℕ} {times : ℕ → ℕ → ℕ} (ring : IsRing width 1 times) (size : ℕ) where
  -- at first all is left
  pub steps-start : 0 < width → (A : ℕ → ℕ → ℕ) {product : ℕ} → product ≡ 1
      → determinant_of times size A ≡ times product (determinant_of times (size - 0) (corner_entry 0 A))
  steps-start wide A {product} is =
      let d = determinant_of times size (corner_entry 0 A) in
      let all : size - 0 ≡ size = omega arith in
      determinant-same times size A (corner_entry 0 A) (λ i j _ _. ap₂ A (own i) (own j))
      ∙ sym (one-times width 1 times ring d (determinant-lt ring wide size (corner_entry 0 A)))
      ∙ ap₂ (λ (x n : ℕ). times x (determinant_of times n (corner_entry 0 A))) (sym is) (sym all)
    where
      own : (i : ℕ) → i ≡ 0 + i
      own i = omega arith

  module _ (now : ℕ → ℕ → ℕ) (step : ℕ) {product d : ℕ}
      (so_far : d ≡ times product (determinant_of times (size - step) (corner_entry step now))) where
    -- without one the determinant is 0
    pub steps-none : determinant_of times (size - step) (corner_entry step now) ≡ 0 → d ≡ 0
    steps-none none = so_far ∙ ap (times product) none ∙ times-zero width 1 times ring product

    -- at last the product is left
    pub steps-end : size ≤ step → product < 2 ^ width → d ≡ product
    unfolding determinant_of
    steps-end past fits =
        let nothing : size - step ≡ 0 = omega (arith, past) in
        so_far ∙ ap (λ (n : ℕ). times product (determinant_of times n (corner_entry step now))) nothing
        ∙ times-one width 1 times ring product fits
