-- The determinant by its expansion: it is linear in each row, 0 where two rows that follow each other are equal, and of a first column with
-- one entry that product.
use Rattle.std.proofs.Common.{◌≡◌, ◌≢◌, ◌⊎◌, inl, inr, ℕ, zero, suc, ◌-◌, ◌^◌, ◌<◌, ◌≤◌, Bool, refl, sym, subst, ◌∙◌, ap, ap₂, arith}
use Rattle.std.specs.Prelude.{bit_xor, if◌then◌else◌}
use Rattle.std.proofs.lemmas.Bool.{cases_eq, cases_lt, lt-ltb, le-ltb}
use Rattle.std.proofs.lemmas.Nat.{pow_below, pow_pos, xor_lt}
use lib.Bits.{xor_comm, xor_self, xor_zero_r, xor_zero_l}
use Rattle.field_base.specs.Basis.{sum_below}
use Rattle.field_base.specs.Ring.{IsRing}
use Rattle.field_base.proofs.BasisSums.{sum_below-same, sum_below-zeros}
use Rattle.field_base.proofs.PowerLemmas.{one-times}
use Rattle.field_base.proofs.RingLemmas.{sum_times, times_left_comm, times-zero, zero-times, xor_exchange}
use Rattle.field_slices.specs.Determinants.{determinant_of, minor_entry, place_without}

-- ---- places

-- where a place is left out, those before it stay, and the others move up
without-before : (i r : ℕ) → r < i → place_without i r ≡ r
without-before i r before = ap (λ (b : Bool). if b then r else suc r) (lt-ltb r i before)

without-past : (i r : ℕ) → i ≤ r → place_without i r ≡ suc r
without-past i r past = ap (λ (b : Bool). if b then r else suc r) (le-ltb r i past)

without-lt : (n i r : ℕ) → r < n → place_without i r < suc n
without-lt n i r below =
    elim (cases_lt r i) [
      | inl before ↦ let is = without-before i r before in omega (arith, is, below)
      | inr past ↦ let is = without-past i r past in omega (arith, is, below)
    ]

-- the place left out is none of them
without-own : (i r : ℕ) → place_without i r ≢ i
without-own i r e =
    elim (cases_lt r i) [
      | inl before ↦ let is = without-before i r before in absurd (omega (arith, is, before, e))
      | inr past ↦ let is = without-past i r past in absurd (omega (arith, is, past, e))
    ]

-- where another place b is after place i was left out
record IsPlaceOf (n i b place : ℕ) : Type 0 where
  within : place < n
  stands : place_without i place ≡ b
  others : (r : ℕ) → r ≢ place → place_without i r ≢ b

place-before : (n i b : ℕ) → i < suc n → b < i → IsPlaceOf n i b b
place-before n i b inside before = record {
  within = omega (arith, inside, before);
  stands = without-before i b before;
  others = λ r other e.
      elim (cases_lt r i) [
        | inl early ↦ let is = without-before i r early in other (sym is ∙ e)
        | inr past ↦ let is = without-past i r past in absurd (omega (arith, is, past, e, before))
      ];
}

place-past : (n i b : ℕ) → b < suc n → i < b → IsPlaceOf n i b (b - 1)
place-past n i b inside past = record {
  within = omega (arith, inside, past);
  stands = let is = without-past i (b - 1) (omega (arith, past)) in omega (arith, is, past);
  others = λ r other e.
      elim (cases_lt r i) [
        | inl early ↦ let is = without-before i r early in absurd (omega (arith, is, past, e, early))
        | inr late ↦ let is = without-past i r late in absurd (other (omega (arith, is, e)))
      ];
}

find-place : (n i b : ℕ) → i < suc n → b < suc n → i ≢ b → (place : ℕ) × IsPlaceOf n i b place
find-place n i b i_inside inside other =
    elim (cases_lt b i) [
      | inl before ↦ (b, place-before n i b i_inside before)
      | inr past ↦ (b - 1, place-past n i b inside (less past))
    ]
  where
    less : i ≤ b → i < b
    less past = omega (arith, past, other)

-- two places that follow each other still do where neither was left out
find-pair : (n i b : ℕ) → i < suc n → suc b < suc n → i ≢ b → i ≢ suc b
    → (place : ℕ) × (suc place < n) × (place_without i place ≡ b) × (place_without i (suc place) ≡ suc b)
find-pair n i b i_inside inside other other_next =
    elim (cases_lt b i) [
      | inl before ↦ early (omega (arith, before, other_next))
      | inr past ↦ late (omega (arith, past, other))
    ]
  where
    early : suc b < i → (place : ℕ) × (suc place < n) × (place_without i place ≡ b) × (place_without i (suc place) ≡ suc b)
    early before =
        (b, omega (arith, before, i_inside), without-before i b (omega (arith, before)), without-before i (suc b) before)

    late : i < b → (place : ℕ) × (suc place < n) × (place_without i place ≡ b) × (place_without i (suc place) ≡ suc b)
    late past =
        let first = without-past i (b - 1) (omega (arith, past)) in
        let second = without-past i (suc (b - 1)) (omega (arith, past)) in
        (b - 1, omega (arith, past, inside), omega (arith, first, past), omega (arith, second, past))

-- ---- sums

-- two equal terms, and else zeros
sum-pair : (f : ℕ → ℕ) (n b : ℕ) → suc b < n → f b ≡ f (suc b) → ((i : ℕ) → i < n → i ≢ b → i ≢ suc b → f i ≡ 0)
    → sum_below f n ≡ 0
unfolding sum_below
sum-pair f zero b inside same zeros = absurd (omega (arith, inside))
sum-pair f (suc n) b inside same zeros =
    elim (cases_eq n (suc b)) [
      | inl last ↦ ap₂ bit_xor
          (ap (sum_below f) last
          ∙ ap (λ (x : ℕ). bit_xor x (f b)) (sum_below-zeros f b (λ i below. zeros i (omega (arith, below, last))
          (λ e. absurd (omega (arith, e, below))) (λ e. absurd (omega (arith, e, below)))))
          ∙ xor_comm 0 (f b) ∙ xor_zero_r (f b) ∙ same) (ap f last)
          ∙ xor_self (f (suc b))
      | inr other ↦ ap₂ bit_xor
          (sum-pair f n b (further other) same (λ i below. zeros i (omega (arith, below))))
          (zeros n (omega arith) (λ e. absurd (omega (arith, e, inside))) other)
    ]
  where
    further : (n ≡ suc b → ⊥) → suc b < n
    further other = omega (arith, inside, other)

-- only the first term
sum-first : (f : ℕ → ℕ) (n : ℕ) → ((i : ℕ) → i < n → f (suc i) ≡ 0) → sum_below f (suc n) ≡ f 0
unfolding sum_below
sum-first f zero zeros = xor_zero_l (f 0)
sum-first f (suc n) zeros =
    ap₂ bit_xor (sum-first f n (λ i below. zeros i (omega (arith, below)))) (zeros n (omega arith)) ∙ xor_zero_r (f 0)

-- a sum of numbers that fit does
pub sum-lt : (width : ℕ) (f : ℕ → ℕ) (n : ℕ) → ((i : ℕ) → f i < 2 ^ width) → sum_below f n < 2 ^ width
unfolding sum_below
sum-lt width f zero fits = pow_pos width
sum-lt width f (suc n) fits = xor_lt width (sum_below f n) (f n) (sum-lt width f n fits) (fits n)

-- ---- the expansion

-- a term of Laplace's expansion
abbrev term : (ℕ → ℕ → ℕ) → ℕ → (ℕ → ℕ → ℕ) → ℕ → ℕ
term times n A i = times (A i 0) (determinant_of times n (minor_entry i A))

-- a row without its first entry, and one with a multiple of another
abbrev tail_of : (ℕ → ℕ) → ℕ → ℕ
tail_of x j = x (suc j)

abbrev pub combined : (ℕ → ℕ → ℕ) → ℕ → (ℕ → ℕ) → (ℕ → ℕ) → ℕ → ℕ
combined times s x y j = bit_xor (x j) (times s (y j))

-- the rows other than row b are the same
abbrev pub AgreeBut : ℕ → (ℕ → ℕ → ℕ) → (ℕ → ℕ → ℕ) → Type 0
AgreeBut b A B = (i : ℕ) → i ≢ b → A i ≡ B i

-- it depends on the entries in its rows and columns alone
pub determinant-same : (times : ℕ → ℕ → ℕ) (n : ℕ) (A B : ℕ → ℕ → ℕ) → ((i j : ℕ) → i < n → j < n → A i j ≡ B i j)
    → determinant_of times n A ≡ determinant_of times n B
unfolding determinant_of
determinant-same times zero A B same = refl
determinant-same times (suc n) A B same =
    sum_below-same (term times n A) (term times n B) (suc n)
    (λ i below. ap₂ times (same i 0 below (omega arith))
    (determinant-same times n (minor_entry i A) (minor_entry i B)
    (λ r c inside within. same (place_without i r) (suc c) (without-lt n i r inside) (omega (arith, within)))))

-- without the row that differs two matrices are the same
minor-same : (times : ℕ → ℕ → ℕ) (n b : ℕ) (A B : ℕ → ℕ → ℕ) → AgreeBut b A B
    → determinant_of times n (minor_entry b A) ≡ determinant_of times n (minor_entry b B)
minor-same times n b A B same =
    determinant-same times n (minor_entry b A) (minor_entry b B)
    (λ r c inside within. ap (λ (row : ℕ → ℕ). row (suc c)) (same (place_without b r) (without-own b r)))

module _ {width : ℕ} {times : ℕ → ℕ → ℕ} (ring : IsRing width 1 times) where
  -- a sum of terms of which each has a multiple
  sum-scaled : (f g : ℕ → ℕ) (s n : ℕ)
      → sum_below (λ i. bit_xor (f i) (times s (g i))) n ≡ bit_xor (sum_below f n) (times s (sum_below g n))
  unfolding sum_below
  sum-scaled f g s zero = sym (ap (bit_xor 0) (times-zero width 1 times ring s))
  sum-scaled f g s (suc n) =
      ap (λ (x : ℕ). bit_xor x (bit_xor (f n) (times s (g n)))) (sum-scaled f g s n)
      ∙ xor_exchange (sum_below f n) (times s (sum_below g n)) (f n) (times s (g n))
      ∙ ap (bit_xor (bit_xor (sum_below f n) (f n))) (sym (ring.over_sum s (sum_below g n) (g n)))

  -- the determinant of n rows is linear in each
  abbrev pub IsLinear : ℕ → Type 0
  IsLinear n =
      (b s : ℕ) (A B C : ℕ → ℕ → ℕ) → b < n → AgreeBut b A C → AgreeBut b B C → C b ≡ combined times s (A b) (B b)
      → determinant_of times n C ≡ bit_xor (determinant_of times n A) (times s (determinant_of times n B))

  linear-more : (n : ℕ) → IsLinear n → IsLinear (suc n)
  unfolding determinant_of
  linear-more n linear b s A B C inside agree_A agree_B row =
      sum_below-same (term times n C) (λ i. bit_xor (term times n A i) (times s (term times n B i))) (suc n)
      (λ i below. each i below (cases_eq i b))
      ∙ sum-scaled (term times n A) (term times n B) s (suc n)
    where
      own : term times n C b ≡ bit_xor (term times n A b) (times s (term times n B b))
      own =
          let minor = determinant_of times n (minor_entry b C) in
          ap (λ (r : ℕ → ℕ). times (r 0) minor) row
          ∙ sum_times width 1 times ring (A b 0) (times s (B b 0)) minor
          ∙ ap (bit_xor (times (A b 0) minor)) (ring.assoc s (B b 0) minor)
          ∙ ap₂ (λ (x y : ℕ). bit_xor (times (A b 0) x) (times s (times (B b 0) y)))
          (sym (minor-same times n b A C agree_A)) (sym (minor-same times n b B C agree_B))

      other : (i : ℕ) → i ≢ b → (place : ℕ) × IsPlaceOf n i b place
          → term times n C i ≡ bit_xor (term times n A i) (times s (term times n B i))
      other i differs (q, place) =
          let first = determinant_of times n (minor_entry i A) in
          let second = determinant_of times n (minor_entry i B) in
          ap (times (C i 0))
          (linear q s (minor_entry i A) (minor_entry i B) (minor_entry i C) place.within
          (λ r apart. ap tail_of (agree_A (place_without i r) (place.others r apart)))
          (λ r apart. ap tail_of (agree_B (place_without i r) (place.others r apart)))
          (ap (λ (k : ℕ). tail_of (C k)) place.stands ∙ ap tail_of row
          ∙ sym (ap (λ (k : ℕ). combined times s (tail_of (A k)) (tail_of (B k))) place.stands)))
          ∙ ring.over_sum (C i 0) first (times s second)
          ∙ ap₂ bit_xor (ap (λ (w : ℕ → ℕ). times (w 0) first) (sym (agree_A i differs)))
          (times_left_comm width 1 times ring (C i 0) s second
          ∙ ap (λ (w : ℕ → ℕ). times s (times (w 0) second)) (sym (agree_B i differs)))

      each : (i : ℕ) → i < suc n → (i ≡ b) ⊎ (i ≡ b → ⊥)
          → term times n C i ≡ bit_xor (term times n A i) (times s (term times n B i))
      each i below (inl same) =
          subst (λ (k : ℕ). term times n C k ≡ bit_xor (term times n A k) (times s (term times n B k))) (sym same) own
      each i below (inr differs) = other i differs (find-place n i b below inside differs)

  -- the determinant is linear in each row (Hoffman and Kunze, section 5.2)
  pub determinant-linear : (n : ℕ) → IsLinear n
  determinant-linear zero = λ b s A B C inside agree_A agree_B row. absurd (omega (arith, inside))
  determinant-linear (suc n) = linear-more n (determinant-linear n)

  -- and 0 where two rows that follow each other are equal
  abbrev pub VanishesAtPairs : ℕ → Type 0
  VanishesAtPairs n = (b : ℕ) (A : ℕ → ℕ → ℕ) → suc b < n → A b ≡ A (suc b) → determinant_of times n A ≡ 0

  pair-more : (n : ℕ) → VanishesAtPairs n → VanishesAtPairs (suc n)
  unfolding determinant_of
  pair-more n vanishes b A inside same =
      sum-pair (term times n A) (suc n) b inside
      (ap₂ times (ap (λ (w : ℕ → ℕ). w 0) same)
      (determinant-same times n (minor_entry b A) (minor_entry (suc b) A)
      (λ r c _ _. ap (λ (w : ℕ → ℕ). w (suc c)) (rows r (cases_eq r b)))))
      (λ i below apart apart_next. nothing i (find-pair n i b below inside apart apart_next))
    where
      rows : (r : ℕ) → (r ≡ b) ⊎ (r ≡ b → ⊥) → A (place_without b r) ≡ A (place_without (suc b) r)
      rows r (inl own) =
          ap A (without-past b r (omega (arith, own))) ∙ ap (λ (k : ℕ). A (suc k)) own ∙ sym same ∙ ap A (sym own)
          ∙ ap A (sym (without-before (suc b) r (omega (arith, own))))
      rows r (inr other) =
          elim (cases_lt r b) [
            | inl before ↦ ap A (without-before b r before) ∙ ap A (sym (without-before (suc b) r (omega (arith, before))))
            | inr past ↦ ap A (without-past b r past) ∙ ap A (sym (without-past (suc b) r (omega (arith, past, other))))
          ]

      nothing : (i : ℕ) → (place : ℕ) × (suc place < n) × (place_without i place ≡ b) × (place_without i (suc place) ≡ suc b)
          → term times n A i ≡ 0
      nothing i (q, within, first, second) =
          ap (times (A i 0))
          (vanishes q (minor_entry i A) within
          (ap (λ (k : ℕ). tail_of (A k)) first ∙ ap tail_of same
          ∙ sym (ap (λ (k : ℕ). tail_of (A k)) second)))
          ∙ times-zero width 1 times ring (A i 0)

  pub determinant-pair : (n : ℕ) → VanishesAtPairs n
  determinant-pair zero = λ b A inside same. absurd (omega (arith, inside))
  determinant-pair (suc n) = pair-more n (determinant-pair n)

  -- it fits
  pub determinant-lt : 0 < width → (n : ℕ) (A : ℕ → ℕ → ℕ) → determinant_of times n A < 2 ^ width
  unfolding determinant_of
  determinant-lt wide zero A = pow_below 0 width wide
  determinant-lt wide (suc n) A =
      sum-lt width (term times n A) (suc n) (λ i. ring.below (A i 0) (determinant_of times n (minor_entry i A)))

  -- of at least one row, whatever the width is
  pub determinant-one : (n : ℕ) (A : ℕ → ℕ → ℕ) → 0 < n → times 1 (determinant_of times n A) ≡ determinant_of times n A
  unfolding determinant_of
  determinant-one zero A some = absurd (omega (arith, some))
  determinant-one (suc n) A some =
      one-times width 1 times ring (sum_below (term times n A) (suc n))
      (sum-lt width (term times n A) (suc n) (λ i. ring.below (A i 0) (determinant_of times n (minor_entry i A))))

-- ---- the first column

module _ {width : ℕ} {times : ℕ → ℕ → ℕ} (ring : IsRing width 1 times) (n : ℕ) (A : ℕ → ℕ → ℕ) where
  -- a column of zeros
  pub determinant-zero_column : ((i : ℕ) → i < suc n → A i 0 ≡ 0) → determinant_of times (suc n) A ≡ 0
  unfolding determinant_of
  determinant-zero_column zeros =
      sum_below-zeros (term times n A) (suc n)
      (λ i below. let minor = determinant_of times n (minor_entry i A) in
      ap (λ (x : ℕ). times x minor) (zeros i below) ∙ zero-times width 1 times ring minor)

  -- below its first entry
  pub determinant-corner : ((i : ℕ) → i < n → A (suc i) 0 ≡ 0)
      → determinant_of times (suc n) A ≡ times (A 0 0) (determinant_of times n (λ i j. A (suc i) (suc j)))
  unfolding determinant_of
  determinant-corner zeros =
      sum-first (term times n A) n
      (λ i below. let minor = determinant_of times n (minor_entry (suc i) A) in
      ap (λ (x : ℕ). times x minor) (zeros i below) ∙ zero-times width 1 times ring minor)
      ∙ ap (times (A 0 0))
      (determinant-same times n (minor_entry 0 A) (λ i j. A (suc i) (suc j))
      (λ i j _ _. ap (λ (k : ℕ). A k (suc j)) (without-past 0 i (omega arith))))
