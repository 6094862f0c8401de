-- The determinant and row operations: it is 0 where two rows are equal, so that multiples of one added to others change nothing.
use Rattle.std.proofs.Common.{◌≡◌, ◌≢◌, ◌⊎◌, inl, inr, ℕ, zero, suc, ◌+◌, ◌-◌, ◌<◌, ◌≤◌, Bool, refl, sym, ◌∙◌, ap, ap₂, arith}
use Rattle.std.specs.Prelude.{bit_xor, if◌then◌else◌, ◌==◌}
use Rattle.std.proofs.lemmas.Bool.{cases_eq, cases_lt, eq-eqb, ne_eqb}
use lib.Bits.{xor_self, xor_zero_r, xor_zero_l}
use Rattle.field_base.specs.Basis.{sum_below}
use Rattle.field_base.specs.Ring.{IsRing}
use Rattle.field_base.proofs.RingLemmas.{xor_cancel, times-zero}
use Rattle.field_slices.specs.Determinants.{determinant_of}
use Rattle.field_slices.proofs.MatrixRows.{mixed, mixed-before, mixed-past, mixed-more}
use Rattle.field_slices.proofs.LaplaceExpansion.{AgreeBut, combined, determinant-linear, determinant-one, determinant-pair, determinant-same}

-- ---- equal rows

-- the rows q and q + 1 replaced
abbrev with_rows : ℕ → (ℕ → ℕ) → (ℕ → ℕ) → (ℕ → ℕ → ℕ) → ℕ → ℕ → ℕ
with_rows q x y A i = if i == q then x else if i == suc q then y else A i

module _ (q : ℕ) (x y : ℕ → ℕ) (A : ℕ → ℕ → ℕ) where
  rows-first : with_rows q x y A q ≡ x
  rows-first = ap (λ (b : Bool). if b then x else if q == suc q then y else A q) (eq-eqb q q refl)

  rows-second : with_rows q x y A (suc q) ≡ y
  rows-second =
      ap (λ (b : Bool). if b then x else if suc q == suc q then y else A (suc q)) (ne_eqb (suc q) q (λ e. absurd (omega (arith, e))))
      ∙ ap (λ (b : Bool). if b then y else A (suc q)) (eq-eqb (suc q) (suc q) refl)

  rows-other : (i : ℕ) → i ≢ q → i ≢ suc q → with_rows q x y A i ≡ A i
  rows-other i other other_next =
      ap (λ (b : Bool). if b then x else if i == suc q then y else A i) (ne_eqb i q other)
      ∙ ap (λ (b : Bool). if b then y else A i) (ne_eqb i (suc q) other_next)

  -- elsewhere than in its place a replaced row makes no difference
  agree-first : (w : ℕ → ℕ) → AgreeBut q (with_rows q w y A) (with_rows q x y A)
  agree-first w i other =
      ap (λ (b : Bool). if b then w else if i == suc q then y else A i) (ne_eqb i q other)
      ∙ sym (ap (λ (b : Bool). if b then x else if i == suc q then y else A i) (ne_eqb i q other))

  agree-second : (w : ℕ → ℕ) → AgreeBut (suc q) (with_rows q x w A) (with_rows q x y A)
  agree-second w i other =
      ap (λ (b : Bool). if i == q then x else if b then w else A i) (ne_eqb i (suc q) other)
      ∙ sym (ap (λ (b : Bool). if i == q then x else if b then y else A i) (ne_eqb i (suc q) other))

-- a row replaced
abbrev pub with_row : ℕ → (ℕ → ℕ) → (ℕ → ℕ → ℕ) → ℕ → ℕ → ℕ
with_row b x A i = if i == b then x else A i

module _ (b : ℕ) (x : ℕ → ℕ) (A : ℕ → ℕ → ℕ) where
  pub row-own : with_row b x A b ≡ x
  row-own = ap (λ (t : Bool). if t then x else A b) (eq-eqb b b refl)

  pub row-other : (i : ℕ) → i ≢ b → with_row b x A i ≡ A i
  row-other i other = ap (λ (t : Bool). if t then x else A i) (ne_eqb i b other)

module _ {width : ℕ} {times : ℕ → ℕ → ℕ} (ring : IsRing width 1 times) where
  -- With u and v in two rows that follow each other, those with u + v in both give 0, which is the sum of those with u and u, u and v, v and
  -- u, and v and v.
  module _ (n q : ℕ) (inside : suc q < n) (A : ℕ → ℕ → ℕ) where
    with_both : (ℕ → ℕ) → (ℕ → ℕ) → ℕ
    with_both x y = determinant_of times n (with_rows q x y A)

    both-same : (x : ℕ → ℕ) → with_both x x ≡ 0
    unfolding with_both
    both-same x =
        determinant-pair ring n q (with_rows q x x A) inside (rows-first q x x A ∙ sym (rows-second q x x A))

    both-first : (u v y : ℕ → ℕ) → with_both (combined times 1 u v) y ≡ bit_xor (with_both u y) (times 1 (with_both v y))
    unfolding with_both
    both-first u v y =
        determinant-linear ring n q 1 (with_rows q u y A) (with_rows q v y A) (with_rows q (combined times 1 u v) y A)
        (omega (arith, inside)) (agree-first q (combined times 1 u v) y A u) (agree-first q (combined times 1 u v) y A v)
        (rows-first q (combined times 1 u v) y A ∙ sym (ap₂ (combined times 1) (rows-first q u y A) (rows-first q v y A)))

    both-second : (x u v : ℕ → ℕ) → with_both x (combined times 1 u v) ≡ bit_xor (with_both x u) (times 1 (with_both x v))
    unfolding with_both
    both-second x u v =
        determinant-linear ring n (suc q) 1 (with_rows q x u A) (with_rows q x v A) (with_rows q x (combined times 1 u v) A)
        inside (agree-second q x (combined times 1 u v) A u) (agree-second q x (combined times 1 u v) A v)
        (rows-second q x (combined times 1 u v) A ∙ sym (ap₂ (combined times 1) (rows-second q x u A) (rows-second q x v A)))

    both-turned : (u v : ℕ → ℕ) → with_both v u ≡ 0 → times 1 (with_both u v) ≡ 0
    both-turned u v turned =
        let w = combined times 1 u v in
        let none = times-zero width 1 times ring 1 in
        sym (xor_zero_l (times 1 (with_both u v)))
        ∙ sym (ap₂ (λ (x y : ℕ). bit_xor (bit_xor x (times 1 (with_both u v))) y) (both-same u)
        (ap (times 1) (ap₂ (λ (x y : ℕ). bit_xor x (times 1 y)) turned (both-same v) ∙ ap (bit_xor 0) none) ∙ none)
        ∙ xor_zero_r (bit_xor 0 (times 1 (with_both u v))))
        ∙ sym (both-first u v w ∙ ap₂ (λ (x y : ℕ). bit_xor x (times 1 y)) (both-second u u v) (both-second v u v))
        ∙ both-same w

    both-are : with_both (A q) (A (suc q)) ≡ determinant_of times n A
    unfolding with_both
    both-are =
        determinant-same times n (with_rows q (A q) (A (suc q)) A) A
        (λ i j _ _. ap (λ (w : ℕ → ℕ). w j) (own i (cases_eq i q) (cases_eq i (suc q))))
      where
        own : (i : ℕ) → (i ≡ q) ⊎ (i ≡ q → ⊥) → (i ≡ suc q) ⊎ (i ≡ suc q → ⊥) → with_rows q (A q) (A (suc q)) A i ≡ A i
        own i (inl same) _ = ap (with_rows q (A q) (A (suc q)) A) same ∙ rows-first q (A q) (A (suc q)) A ∙ ap A (sym same)
        own i (inr other) (inl same) =
            ap (with_rows q (A q) (A (suc q)) A) same ∙ rows-second q (A q) (A (suc q)) A ∙ ap A (sym same)
        own i (inr other) (inr other_next) = rows-other q (A q) (A (suc q)) A i other other_next

  -- it is 0 where two rows are equal that are d + 1 places apart
  determinant-apart : (n d a : ℕ) (A : ℕ → ℕ → ℕ) → suc (a + d) < n → A a ≡ A (suc (a + d)) → determinant_of times n A ≡ 0
  unfolding with_both
  determinant-apart n zero a A inside same =
      let none : a + 0 ≡ a = omega arith in
      determinant-pair ring n a A (omega (arith, inside)) (same ∙ ap (λ (k : ℕ). A (suc k)) none)
  determinant-apart n (suc d) a A inside same =
      let q = suc (a + d) in
      let next : suc (a + suc d) ≡ suc q = omega arith in
      let within : suc q < n = omega (arith, inside) in
      let turned = determinant-apart n d a (with_rows q (A (suc q)) (A q) A) (omega (arith, inside))
      (rows-other q (A (suc q)) (A q) A a (λ e. absurd (omega (arith, e))) (λ e. absurd (omega (arith, e)))
      ∙ same ∙ ap A next ∙ sym (rows-first q (A (suc q)) (A q) A)) in
      sym (determinant-one ring n A (omega (arith, inside))) ∙ ap (times 1) (sym (both-are n q within A))
      ∙ both-turned n q within A (A q) (A (suc q)) turned

  -- it is 0 where two rows are equal
  pub determinant-equal : (n a b : ℕ) (A : ℕ → ℕ → ℕ) → a < n → b < n → a ≢ b → A a ≡ A b → determinant_of times n A ≡ 0
  determinant-equal n a b A a_inside b_inside differ same =
      elim (cases_lt a b) [
        | inl before ↦ ordered a b a_inside b_inside before same
        | inr past ↦ ordered b a b_inside a_inside (omega (arith, past, differ)) (sym same)
      ]
    where
      ordered : (k l : ℕ) → k < n → l < n → k < l → A k ≡ A l → determinant_of times n A ≡ 0
      ordered k l k_inside l_inside before equal =
          let place : suc (k + (l - k - 1)) ≡ l = omega (arith, before) in
          determinant-apart n (l - k - 1) k A (omega (arith, place, l_inside)) (equal ∙ ap A (sym place))

  -- a row of zeros
  pub determinant-zero_row : (n b : ℕ) (A : ℕ → ℕ → ℕ) → b < n → determinant_of times n (with_row b (λ j. 0) A) ≡ 0
  determinant-zero_row n b A inside =
      let Z = with_row b (λ j. 0) A in
      let d = determinant_of times n Z in
      let e : d ≡ bit_xor d (times 1 d) =
      determinant-same times n Z (with_row b (combined times 1 (λ j. 0) (λ j. 0)) A) (λ i j _ _. entry i j (cases_eq i b))
      ∙ determinant-linear ring n b 1 Z Z (with_row b (combined times 1 (λ j. 0) (λ j. 0)) A) inside
      (λ i other. row-other b (λ j. 0) A i other ∙ sym (row-other b (combined times 1 (λ j. 0) (λ j. 0)) A i other))
      (λ i other. row-other b (λ j. 0) A i other ∙ sym (row-other b (combined times 1 (λ j. 0) (λ j. 0)) A i other))
      (row-own b (combined times 1 (λ j. 0) (λ j. 0)) A
      ∙ sym (ap₂ (combined times 1) (row-own b (λ j. 0) A) (row-own b (λ j. 0) A))) in
      sym (determinant-one ring n Z (omega (arith, inside))) ∙ sym (xor_cancel d (times 1 d)) ∙ ap (bit_xor d) (sym e) ∙ xor_self d
    where
      entry : (i j : ℕ) → (i ≡ b) ⊎ (i ≡ b → ⊥)
          → with_row b (λ j. 0) A i j ≡ with_row b (combined times 1 (λ j. 0) (λ j. 0)) A i j
      entry i j (inl same) =
          ap (λ (k : ℕ). with_row b (λ j. 0) A k j) same ∙ ap (λ (w : ℕ → ℕ). w j) (row-own b (λ j. 0) A)
          ∙ sym (xor_zero_l 0) ∙ ap (bit_xor 0) (sym (times-zero width 1 times ring 1))
          ∙ sym (ap (λ (w : ℕ → ℕ). w j) (row-own b (combined times 1 (λ j. 0) (λ j. 0)) A))
          ∙ ap (λ (k : ℕ). with_row b (combined times 1 (λ j. 0) (λ j. 0)) A k j) (sym same)
      entry i j (inr other) =
          ap (λ (w : ℕ → ℕ). w j)
          (row-other b (λ j. 0) A i other ∙ sym (row-other b (combined times 1 (λ j. 0) (λ j. 0)) A i other))

  -- with a sum of multiples of vectors in a row it is the sum of the multiples of those with the vectors there
  pub determinant-row_sum : (n b : ℕ) (A : ℕ → ℕ → ℕ) (x : ℕ → ℕ) (Y : ℕ → ℕ → ℕ) (m : ℕ) → b < n
      → determinant_of times n (with_row b (λ j. sum_below (λ k. times (x k) (Y k j)) m) A)
      ≡ sum_below (λ k. times (x k) (determinant_of times n (with_row b (Y k) A))) m
  unfolding sum_below
  determinant-row_sum n b A x Y zero inside = determinant-zero_row n b A inside
  determinant-row_sum n b A x Y (suc m) inside =
      let before = λ (j : ℕ). sum_below (λ k. times (x k) (Y k j)) m in
      let after = λ (j : ℕ). sum_below (λ k. times (x k) (Y k j)) (suc m) in
      determinant-linear ring n b (x m) (with_row b before A) (with_row b (Y m) A) (with_row b after A) inside
      (λ i other. row-other b before A i other ∙ sym (row-other b after A i other))
      (λ i other. row-other b (Y m) A i other ∙ sym (row-other b after A i other))
      (row-own b after A ∙ sym (ap₂ (combined times (x m)) (row-own b before A) (row-own b (Y m) A)))
      ∙ ap (λ (d : ℕ). bit_xor d (times (x m) (determinant_of times n (with_row b (Y m) A))))
      (determinant-row_sum n b A x Y m inside)

-- ---- row operations, by entries

module _ {width : ℕ} {times : ℕ → ℕ → ℕ} (ring : IsRing width 1 times) (n : ℕ) (A C : ℕ → ℕ → ℕ) where
  -- where the entries of one row are those of a vector, and the others are kept
  pub as_row : (b : ℕ) (x : ℕ → ℕ) → ((j : ℕ) → j < n → C b j ≡ x j) → ((i j : ℕ) → i < n → j < n → i ≢ b → C i j ≡ A i j)
      → determinant_of times n C ≡ determinant_of times n (with_row b x A)
  as_row b x own others =
      determinant-same times n C (with_row b x A) (λ i j below inside. entry i j below inside (cases_eq i b))
    where
      entry : (i j : ℕ) → i < n → j < n → (i ≡ b) ⊎ (i ≡ b → ⊥) → C i j ≡ with_row b x A i j
      entry i j below inside (inl same) =
          ap (λ (k : ℕ). C k j) same ∙ own j inside ∙ sym (ap (λ (w : ℕ → ℕ). w j) (row-own b x A))
          ∙ ap (λ (k : ℕ). with_row b x A k j) (sym same)
      entry i j below inside (inr other) = others i j below inside other ∙ sym (ap (λ (w : ℕ → ℕ). w j) (row-other b x A i other))

  -- a multiple of another row added to a row changes nothing
  pub determinant-added : (a b s : ℕ) → a < n → b < n → a ≢ b
      → ((j : ℕ) → j < n → C b j ≡ bit_xor (A b j) (times s (A a j))) → ((i j : ℕ) → i < n → j < n → i ≢ b → C i j ≡ A i j)
      → determinant_of times n C ≡ determinant_of times n A
  determinant-added a b s a_inside b_inside differ own others =
      let x = combined times s (A b) (A a) in
      let B = with_row b (A a) A in
      as_row b x own others
      ∙ determinant-linear ring n b s A B (with_row b x A) b_inside
      (λ i other. sym (row-other b x A i other)) (λ i other. row-other b (A a) A i other ∙ sym (row-other b x A i other))
      (row-own b x A ∙ ap (combined times s (A b)) (sym (row-own b (A a) A)))
      ∙ ap (λ (d : ℕ). bit_xor (determinant_of times n A) (times s d))
      (determinant-equal ring n a b B a_inside b_inside differ (row-other b (A a) A a differ ∙ sym (row-own b (A a) A)))
      ∙ ap (bit_xor (determinant_of times n A)) (times-zero width 1 times ring s) ∙ xor_zero_r (determinant_of times n A)

  -- a row times s makes it s times as much
  pub determinant-scaled : (b s : ℕ) → b < n → ((j : ℕ) → j < n → C b j ≡ times s (A b j))
      → ((i j : ℕ) → i < n → j < n → i ≢ b → C i j ≡ A i j) → determinant_of times n C ≡ times s (determinant_of times n A)
  determinant-scaled b s inside own others =
      let x = combined times s (λ j. 0) (A b) in
      let Z = with_row b (λ j. 0) A in
      as_row b x (λ j within. own j within ∙ sym (xor_zero_l (times s (A b j)))) others
      ∙ determinant-linear ring n b s Z A (with_row b x A) inside
      (λ i other. row-other b (λ j. 0) A i other ∙ sym (row-other b x A i other)) (λ i other. sym (row-other b x A i other))
      (row-own b x A ∙ ap (λ (w : ℕ → ℕ). combined times s w (A b)) (sym (row-own b (λ j. 0) A)))
      ∙ ap (λ (d : ℕ). bit_xor d (times s (determinant_of times n A))) (determinant-zero_row ring n b A inside)
      ∙ xor_zero_l (times s (determinant_of times n A))

-- ---- multiples of one row added to the others

module _ {width : ℕ} {times : ℕ → ℕ → ℕ} (ring : IsRing width 1 times) (n a : ℕ) (t : ℕ → ℕ) (A C : ℕ → ℕ → ℕ) (a_inside : a < n)
    (own : (j : ℕ) → j < n → C a j ≡ A a j)
    (others : (i j : ℕ) → i < n → j < n → i ≢ a → C i j ≡ bit_xor (A i j) (times (t i) (A a j))) where
  -- one row after the other
  multiples-more : (k : ℕ) → k ≤ n → determinant_of times n (mixed k C A) ≡ determinant_of times n A
  multiples-more zero within =
      determinant-same times n (mixed 0 C A) A (λ i j _ _. ap (λ (w : ℕ → ℕ). w j) (mixed-past 0 C A i (omega arith)))
  multiples-more (suc k) within =
      elim (cases_eq k a) [
        | inl same ↦ determinant-same times n (mixed (suc k) C A) (mixed k C A) (λ i j below inside. entry same i j inside (cases_eq i k))
        | inr other ↦ determinant-added ring n (mixed k C A) (mixed (suc k) C A) a k (t k) a_inside (omega (arith, within))
            (λ e. other (sym e)) (λ j inside. sum other j inside) (λ i j _ _ apart. mixed-more k C A i j apart)
      ]
      ∙ multiples-more k (omega (arith, within))
    where
      entry : k ≡ a → (i j : ℕ) → j < n → (i ≡ k) ⊎ (i ≡ k → ⊥) → mixed (suc k) C A i j ≡ mixed k C A i j
      entry same i j inside (inl last) =
          ap (λ (w : ℕ → ℕ). w j) (mixed-before (suc k) C A i (omega (arith, last))) ∙ ap (λ (r : ℕ). C r j) (last ∙ same) ∙ own j inside
          ∙ ap (λ (r : ℕ). A r j) (sym (last ∙ same)) ∙ ap (λ (w : ℕ → ℕ). w j) (sym (mixed-past k C A i (omega (arith, last))))
      entry same i j inside (inr apart) = mixed-more k C A i j apart

      stays : (j : ℕ) → j < n → A a j ≡ mixed k C A a j
      stays j inside =
          elim (cases_lt a k) [
            | inl before ↦ sym (own j inside) ∙ ap (λ (w : ℕ → ℕ). w j) (sym (mixed-before k C A a before))
            | inr past ↦ ap (λ (w : ℕ → ℕ). w j) (sym (mixed-past k C A a past))
          ]

      sum : (k ≡ a → ⊥) → (j : ℕ) → j < n → mixed (suc k) C A k j ≡ bit_xor (mixed k C A k j) (times (t k) (mixed k C A a j))
      sum other j inside =
          ap (λ (w : ℕ → ℕ). w j) (mixed-before (suc k) C A k (omega arith)) ∙ others k j (omega (arith, within)) inside other
          ∙ ap₂ (λ (x y : ℕ). bit_xor x (times (t k) y)) (ap (λ (w : ℕ → ℕ). w j) (sym (mixed-past k C A k (omega arith)))) (stays j inside)

  pub determinant-multiples : determinant_of times n C ≡ determinant_of times n A
  determinant-multiples =
      determinant-same times n C (mixed n C A)
      (λ i j below _. ap (λ (w : ℕ → ℕ). w j) (sym (mixed-before n C A i below)))
      ∙ multiples-more n (omega arith)
