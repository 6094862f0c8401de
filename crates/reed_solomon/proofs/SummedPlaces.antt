-- Words at one place of all shards: read and written in a strip, summed over the known places, and restored.
use Rattle.std.proofs.Common.{◌≡◌, ◌≢◌, ◌⊎◌, inl, inr, ℕ, ◌+◌, ◌-◌, ◌*◌, ◌%◌, ◌^◌, ◌<◌, ◌≤◌, Bool, true, false, not, List, length, get_or, refl, sym, ◌∙◌, ap, subst, arith}
use Rattle.std.specs.Prelude.{bit_xor, slice_index}
use Rattle.std.proofs.lemmas.Bool.{cases_Bool, cases_lt, true≢false}
use Rattle.std.proofs.lemmas.Bool.Decides.{nat_tests}
use Rattle.std.proofs.lemmas.List.{get_or_past}
use Rattle.std.proofs.lemmas.Nat.{pow_pos}
use Rattle.std.proofs.Math.Nat.{mul-le-mul_right}
use native.Mathlib.Nat.{mod-eq_of_lt}
use lib.Bits.{xor_zero_r}
use Rattle.field_base.specs.Tower.{tower_mul}
use Rattle.field_base.proofs.Polynomials.{polynomial-lt}
use Rattle.field_base.proofs.RingLemmas.{times-zero}
use Rattle.field_base.proofs.TowerRing.{tower_ring}
use Rattle.ghash_slices.specs.Cantor.{point, polynomial_value}
use Rattle.additive_transforms.specs.Words.{level_element}
use Rattle.additive_transforms.proofs.BasisPolynomials.{value-polynomial}
use Rattle.word_tables.specs.Cantor.{cantor_vector}
use Rattle.reed_solomon.specs.Columns.{ArePutWords, IsOutside}
use Rattle.reed_solomon.specs.Direct.{AreAddedProducts, AreKnownWeights, ArePutAtPlace, AreRestoredPlaces, IsRestoredPlace, IsSummedPlace, known_sum, known_term}
use Rattle.reed_solomon.specs.Located.{own_locator}
use Rattle.reed_solomon.specs.Locators.{lost_count}
use Rattle.reed_solomon.specs.Restoring.{AreRestoredColumns, IsAtHand, is_lost, word_at}
use Rattle.reed_solomon.specs.declared.strips.Strip.{Strip}
use Rattle.reed_solomon.proofs.ColumnPlaces.{apart}
use Rattle.reed_solomon.proofs.KnownSums.{known_sum_is, term-known, term-lost, terms-same}
use Rattle.reed_solomon.proofs.LostCounts.{lost-data, lost-parity}
use Rattle.reed_solomon.proofs.RestoredColumns.{known_words}
use Rattle.reed_solomon.proofs.StripWords.{word_at-behind, word_at-first, word_at-padding, word_at-past}

-- ---- words at a place

module _ {W : Type 0} (zero : W) (k n m size : ℕ) where
  -- they are the same where those of the place's shard are
  word_at-same : (q c : ℕ) (shards parity others others_parity : List W)
      → (q < k → get_or shards (q * size + c) zero ≡ get_or others (q * size + c) zero)
      → (2 ^ n ≤ q → get_or parity ((q - 2 ^ n) * size + c) zero ≡ get_or others_parity ((q - 2 ^ n) * size + c) zero)
      → word_at zero k n m size c shards parity q ≡ word_at zero k n m size c others others_parity q
  word_at-same q c shards parity others others_parity of_data of_parity =
      elim (cases_lt q k) [
        | inl lower ↦
            word_at-first zero k n m size c shards parity q lower ∙ of_data lower ∙ sym (word_at-first zero k n m size c others others_parity q lower)
        | inr past ↦ elim (cases_lt q (2 ^ n)) [
          | inl below ↦
              word_at-padding zero k n m size c shards parity q past below
              ∙ sym (word_at-padding zero k n m size c others others_parity q past below)
          | inr late ↦ elim (cases_lt q (2 ^ n + m)) [
            | inl within ↦
                word_at-behind zero k n m size c shards parity q past late within ∙ of_parity late
                ∙ sym (word_at-behind zero k n m size c others others_parity q past late within)
            | inr far ↦
                word_at-past zero k n m size c shards parity q past late far
                ∙ sym (word_at-past zero k n m size c others others_parity q past late far)
          ]
        ]
      ]

  module _ (start width p : ℕ) (row shards parity now : List W) (fits : start + width ≤ size) where
    side-at : (q i j c : ℕ) → (q ≢ p) ⊎ (IsOutside start width c) → (q ≢ p → i ≢ j) → (IsOutside start width c) ⊎ (i ≢ j)
    side-at q i j c (inl other) differ = inr (differ other)
    side-at q i j c (inr outside) differ = inl outside

    row-first : (c : ℕ) → get_or row (0 + c) zero ≡ get_or row c zero
    row-first c = let same : 0 + c ≡ c = omega arith in ap (λ (s : ℕ). get_or row s zero) same

    -- a row that is written to a shard of data
    pub put_data : p < k → ArePutWords zero (p * size + start) width (λ c. get_or row (0 + c) zero) shards now
        → ArePutAtPlace zero k n m size start width p row shards parity now parity
    put_data lower put =
        record {
          written = λ c below.
              let place : p * size + (start + c) ≡ p * size + start + c = omega arith in
              word_at-first zero k n m size (start + c) now parity p lower
              ∙ ap (λ (s : ℕ). get_or now s zero) place ∙ put.written c below ∙ row-first c;
          kept = λ q c c_below side.
              word_at-same q c now parity shards parity
              (λ of_data. put.kept (q * size + c) (apart size start width p q c c_below fits (side-at q q p c side (λ other. other))))
              (λ late. refl);
        }

    -- and to one of parity
    pub put_parity : k ≤ p → 2 ^ n ≤ p → p < 2 ^ n + m → k ≤ 2 ^ n
        → ArePutWords zero ((p - 2 ^ n) * size + start) width (λ c. get_or row (0 + c) zero) parity now
        → ArePutAtPlace zero k n m size start width p row shards parity shards now
    put_parity past late within padded put =
        record {
          written = λ c below.
              let place : (p - 2 ^ n) * size + (start + c) ≡ (p - 2 ^ n) * size + start + c = omega arith in
              word_at-behind zero k n m size (start + c) shards now p past late within
              ∙ ap (λ (s : ℕ). get_or now s zero) place ∙ put.written c below ∙ row-first c;
          kept = λ q c c_below side.
              word_at-same q c shards now shards parity
              (λ of_data. refl)
              (λ behind. put.kept ((q - 2 ^ n) * size + c) (apart size start width (p - 2 ^ n) (q - 2 ^ n) c c_below fits
              (side-at q (q - 2 ^ n) (p - 2 ^ n) c side (λ other same. other (omega (arith, same, behind, late))))));
        }

-- ---- what one place adds

module _ {W : Type 0} (number : W → ℕ) (zero : W) (nothing : number zero ≡ 0) (level k n m size start width q weight : ℕ) (lost : ℕ → Bool)
    (shards parity old now : List W) where
  abbrev term : ℕ → ℕ
  term c = known_term (tower_mul level) lost (λ p. weight) (λ p. number (word_at zero k n m size (start + c) shards parity p)) q

  -- of a lost one nothing
  pub adds_nothing : lost q ≡ true → (c : ℕ) → number (get_or old c zero) ≡ bit_xor (number (get_or old c zero)) (term c)
  adds_nothing absent c =
      sym (ap (bit_xor (number (get_or old c zero)))
      (term-lost (tower_mul level) lost (λ p. weight) (λ p. number (word_at zero k n m size (start + c) shards parity p)) q absent)
      ∙ xor_zero_r (number (get_or old c zero)))

  adds : lost q ≡ false → (c : ℕ) (w : W) → word_at zero k n m size (start + c) shards parity q ≡ w
      → bit_xor (number (get_or old c zero)) (term c) ≡ bit_xor (number (get_or old c zero)) (tower_mul level weight (number w))
  adds here c w is =
      ap (bit_xor (number (get_or old c zero)))
      (term-known (tower_mul level) lost (λ p. weight) (λ p. number (word_at zero k n m size (start + c) shards parity p)) q here
      ∙ ap (λ (v : W). tower_mul level weight (number v)) is)

  -- nor of the padding
  pub adds_padding : lost q ≡ false → k ≤ q → q < 2 ^ n → (c : ℕ) → number (get_or old c zero) ≡ bit_xor (number (get_or old c zero)) (term c)
  adds_padding here past below c =
      sym (adds here c zero (word_at-padding zero k n m size (start + c) shards parity q past below)
      ∙ ap (λ (v : ℕ). bit_xor (number (get_or old c zero)) (tower_mul level weight v)) nothing
      ∙ ap (bit_xor (number (get_or old c zero))) (times-zero (2 ^ level) 1 (tower_mul level) (tower_ring level) weight)
      ∙ xor_zero_r (number (get_or old c zero)))

  -- and else the products of a shard of data
  pub adds_data : lost q ≡ false → q < k → AreAddedProducts number zero level weight (q * size + start) width shards old now
      → (c : ℕ) → c < width → number (get_or now c zero) ≡ bit_xor (number (get_or old c zero)) (term c)
  adds_data here lower put c inside =
      let place : q * size + (start + c) ≡ q * size + start + c = omega arith in
      put.added c inside
      ∙ sym (adds here c (get_or shards (q * size + start + c) zero)
      (word_at-first zero k n m size (start + c) shards parity q lower ∙ ap (λ (s : ℕ). get_or shards s zero) place))

  -- or of one of parity
  pub adds_parity : lost q ≡ false → k ≤ q → 2 ^ n ≤ q → q < 2 ^ n + m
      → AreAddedProducts number zero level weight ((q - 2 ^ n) * size + start) width parity old now
      → (c : ℕ) → c < width → number (get_or now c zero) ≡ bit_xor (number (get_or old c zero)) (term c)
  adds_parity here past late within put c inside =
      let place : (q - 2 ^ n) * size + (start + c) ≡ (q - 2 ^ n) * size + start + c = omega arith in
      put.added c inside
      ∙ sym (adds here c (get_or parity ((q - 2 ^ n) * size + start + c) zero)
      (word_at-behind zero k n m size (start + c) shards parity q past late within ∙ ap (λ (s : ℕ). get_or parity s zero) place))

-- ---- strips of one place

module _ {W : Type 0} (number : W → ℕ) (zero : W) (level k n m size r p : ℕ) (lost : ℕ → Bool) (weights : List W) (absent : lost p ≡ true)
    (old old_parity : List W) where
  -- a known place is another one
  known-other : (q : ℕ) → lost q ≡ false → q ≢ p
  known-other q here same = true≢false (sym absent ∙ ap lost (sym same) ∙ here)

  -- one more strip
  pub summed_more : (start width : ℕ) (row mid mid_parity now now_parity : List W) → start + width ≤ size
      → IsSummedPlace number zero level k n m size r p lost weights start old old_parity mid mid_parity
      → ((c : ℕ) → c < width → number (get_or row c zero)
      ≡ known_sum number zero level lost weights (word_at zero k n m size (start + c) mid mid_parity) (2 ^ r))
      → ArePutAtPlace zero k n m size start width p row mid mid_parity now now_parity
      → IsSummedPlace number zero level k n m size r p lost weights (start + width) old old_parity now now_parity
  summed_more start width row mid mid_parity now now_parity fits before sums put =
      record {
        summed = λ c below.
            elim (cases_lt c start) [
              | inl early ↦
                  ap number (put.kept p c (omega (arith, early, fits)) (inr (inl early))) ∙ before.summed c early
              | inr late ↦
                  let place : start + (c - start) ≡ c = omega (arith, late) in
                  subst (λ (s : ℕ). number (word_at zero k n m size s now now_parity p)
                  ≡ known_sum number zero level lost weights (word_at zero k n m size s old old_parity) (2 ^ r)) place
                  (own (c - start) (omega (arith, late, below)))
            ];
        kept = λ q c c_below side. put.kept q c c_below (outer q c side) ∙ before.kept q c c_below (inner q c side);
      }
    where
      outer : (q c : ℕ) → (q ≢ p) ⊎ (start + width ≤ c) → (q ≢ p) ⊎ (IsOutside start width c)
      outer q c (inl other) = inl other
      outer q c (inr past) = inr (inr past)

      inner : (q c : ℕ) → (q ≢ p) ⊎ (start + width ≤ c) → (q ≢ p) ⊎ (start ≤ c)
      inner q c (inl other) = inl other
      inner q c (inr past) = inr (omega (arith, past))

      own : (c : ℕ) → c < width → number (word_at zero k n m size (start + c) now now_parity p)
          ≡ known_sum number zero level lost weights (word_at zero k n m size (start + c) old old_parity) (2 ^ r)
      own c below =
          ap number (put.written c below) ∙ sums c below
          ∙ terms-same (tower_mul level) lost (λ q. number (get_or weights q zero))
          (λ q. number (word_at zero k n m size (start + c) mid mid_parity q))
          (λ q. number (word_at zero k n m size (start + c) old old_parity q)) (2 ^ r)
          (λ q here. ap number (before.kept q (start + c) (omega (arith, below, fits)) (inl (known-other q here))))

  -- the sums restore the place
  pub place_restored : (factor : ℕ) → level ≤ 7 → r ≤ 2 ^ level → lost_count lost (2 ^ r) + 2 ^ n ≤ 2 ^ r → p < 2 ^ r
      → AreKnownWeights number zero level r lost p factor (2 ^ r) weights
      → tower_mul level (own_locator level r lost p) factor ≡ 1
      → (now now_parity : List W) → IsSummedPlace number zero level k n m size r p lost weights size old old_parity now now_parity
      → IsRestoredPlace (level_element number level) zero level k n m size lost p old old_parity now now_parity
  place_restored factor low room enough within weights_are inverse now now_parity summed =
      record {
        restored = λ c c_below is coefficients known.
            let f_is = value-polynomial (2 ^ level) (tower_mul level) (pow_pos level) (tower_ring level) n coefficients in
            ap (λ (v : ℕ). v % 2 ^ 2 ^ level)
            (summed.summed c c_below
            ∙ known_sum_is level n r low room lost enough (polynomial_value (tower_mul level) n coefficients) f_is p within absent factor
            (λ q. number (get_or weights q zero)) (λ q. number (word_at zero k n m size c old old_parity q)) inverse weights_are known)
            ∙ mod-eq_of_lt (polynomial-lt (2 ^ level) (tower_mul level) (tower_ring level) (2 ^ n)
            (polynomial_value (tower_mul level) n coefficients) f_is (point (2 ^ level) cantor_vector 0 p));
        kept = λ q c c_below side. summed.kept q c c_below (inl (other q side));
      }
    where
      other : (q : ℕ) → (lost q ≡ false) ⊎ (q ≢ p) → q ≢ p
      other q (inl here) = known-other q here
      other q (inr differs) = differs

-- one more strip, which begins behind the columns so far
pub next_summed : {W : Type 0} (number : W → ℕ) (zero : W) (level k n m size r p : ℕ) (lost : ℕ → Bool) (weights : List W) → lost p ≡ true
    → (old old_parity : List W) (start : ℕ) (strip : Strip) (row mid mid_parity now now_parity : List W) → strip.size ≡ size → strip.start ≡ start
    → IsSummedPlace number zero level k n m size r p lost weights start old old_parity mid mid_parity
    → ((c : ℕ) → c < strip.width → number (get_or row c zero)
    ≡ known_sum number zero level lost weights (word_at zero k n m strip.size (strip.start + c) mid mid_parity) (2 ^ r))
    → ArePutAtPlace zero k n m strip.size strip.start strip.width p row mid mid_parity now now_parity
    → (start + strip.width ≤ size) × IsSummedPlace number zero level k n m size r p lost weights (start + strip.width) old old_parity now now_parity
next_summed number zero level k n m size r p lost weights absent old old_parity start strip row mid mid_parity now now_parity size_is start_is
    before sums put =
    subst (λ (s : ℕ). (start + strip.width ≤ s)
    × IsSummedPlace number zero level k n m s r p lost weights (start + strip.width) old old_parity now now_parity) size_is
    (subst (λ (b : ℕ). (b + strip.width ≤ strip.size)
    × IsSummedPlace number zero level k n m strip.size r p lost weights (b + strip.width) old old_parity now now_parity) start_is (
      strip.inside,
      summed_more number zero level k n m strip.size r p lost weights absent old old_parity strip.start strip.width row mid mid_parity now now_parity
          strip.inside
          (subst (λ (s : ℕ). IsSummedPlace number zero level k n m s r p lost weights strip.start old old_parity mid mid_parity) (sym size_is)
          (subst (λ (b : ℕ). IsSummedPlace number zero level k n m size r p lost weights b old old_parity mid mid_parity) (sym start_is) before))
          sums put,
    ))

-- a lost place below those behind the parity is that of a shard
pub lost_in_shard : (k n m : ℕ) (present : List Bool) (p : ℕ) → p < 2 ^ n + m → is_lost k n m present p ≡ true
    → (p < k) ⊎ ((2 ^ n ≤ p) × (p < 2 ^ n + m))
lost_in_shard k n m present p below absent =
    elim (cases_lt p k) [
      | inl lower ↦ inl lower
      | inr past ↦ elim (cases_lt p (2 ^ n)) [
        | inl padding ↦ absurd (true≢false (sym absent ∙ known past padding))
        | inr late ↦ inr (late, below)
      ]
    ]
  where
    known : k ≤ p → p < 2 ^ n → is_lost k n m present p ≡ false
    known past padding = grind (arith, nat_tests)

-- which is one of parity where it is none of data
pub in_parity_place : (k first m p : ℕ) → k ≤ p → (p < k) ⊎ ((first ≤ p) × (p < first + m)) → (first ≤ p) × (p < first + m)
in_parity_place k first m p past (inl below) = absurd (omega (arith, past, below))
in_parity_place k first m p past (inr place) = place

-- a known place behind the data's points is that of a shard of parity
pub known_in_parity : (k n m : ℕ) (present : List Bool) (q : ℕ) → k ≤ q → 2 ^ n ≤ q → is_lost k n m present q ≡ false → q < 2 ^ n + m
known_in_parity k n m present q past late here =
    elim (cases_lt q (2 ^ n + m)) [
      | inl below ↦ below
      | inr far ↦ absurd (true≢false (sym (absent far) ∙ here))
    ]
  where
    absent : 2 ^ n + m ≤ q → is_lost k n m present q ≡ true
    absent far = grind (arith, nat_tests)

-- ---- place after place

-- a place that is passed
pub place_passed : {W : Type 0} (element : W → ℕ) (zero : W) (level k n m size : ℕ) (lost : ℕ → Bool) (p : ℕ) (shards parity : List W)
    → lost p ≡ false → IsRestoredPlace element zero level k n m size lost p shards parity shards parity
place_passed element zero level k n m size lost p shards parity here =
    record { restored = λ c c_below absent. absurd (true≢false (sym absent ∙ here)); kept = λ q c c_below side. refl }

module _ {W : Type 0} (element : W → ℕ) (zero : W) (level k n m size : ℕ) (lost : ℕ → Bool) (p : ℕ)
    (old old_parity mid mid_parity now now_parity : List W) where
  -- one more
  pub places_more : AreRestoredPlaces element zero level k n m size lost p old old_parity mid mid_parity
      → IsRestoredPlace element zero level k n m size lost p mid mid_parity now now_parity
      → AreRestoredPlaces element zero level k n m size lost (p + 1) old old_parity now now_parity
  places_more before step =
      record {
        restored = λ q c below c_below absent coefficients known.
            elim (cases_lt q p) [
              | inl early ↦
                  ap element (step.kept q c c_below (inr (λ same. absurd (omega (arith, early, same)))))
                  ∙ before.restored q c early c_below absent coefficients known
              | inr late ↦
                  let same : p ≡ q = omega (arith, below, late) in
                  subst (λ (s : ℕ). element (word_at zero k n m size c now now_parity s)
                  ≡ polynomial_value (tower_mul level) n coefficients (point (2 ^ level) cantor_vector 0 s)) same
                  (step.restored c c_below (ap lost same ∙ absent) coefficients
                  (λ j here. ap element (before.kept j c c_below (inl here)) ∙ known j here))
            ];
        kept = λ q c c_below side. step.kept q c c_below (next q side) ∙ before.kept q c c_below (earlier q side);
      }
    where
      next : (q : ℕ) → (lost q ≡ false) ⊎ (p + 1 ≤ q) → (lost q ≡ false) ⊎ (q ≢ p)
      next q (inl here) = inl here
      next q (inr past) = inr (λ same. absurd (omega (arith, past, same)))

      earlier : (q : ℕ) → (lost q ≡ false) ⊎ (p + 1 ≤ q) → (lost q ≡ false) ⊎ (p ≤ q)
      earlier q (inl here) = inl here
      earlier q (inr past) = inr (omega (arith, past))

-- ---- all places

module _ {W : Type 0} (number : W → ℕ) (zero : W) (nothing : number zero ≡ 0) (level k n m size : ℕ) (present : List Bool)
    (shards parity now now_parity : List W) (padded : k ≤ 2 ^ n) (whole : length shards ≡ k * size) (parity_whole : length parity ≡ m * size)
    (long : length now ≡ length shards) (parity_long : length now_parity ≡ length parity)
    (done : AreRestoredPlaces (level_element number level) zero level k n m size (is_lost k n m present) (2 ^ n + m) shards parity now now_parity) where
  abbrev element : W → ℕ
  element = level_element number level

  -- the shards at hand are as they were
  data-kept : (i c : ℕ) → i < k → c < size → IsAtHand present i → get_or now (i * size + c) zero ≡ get_or shards (i * size + c) zero
  data-kept i c below c_below here =
      sym (word_at-first zero k n m size c now now_parity i below)
      ∙ done.kept i c c_below (inl (lost-data k n m present padded i below ∙ ap not here))
      ∙ word_at-first zero k n m size c shards parity i below

  in_parity : (some others : List W) (t c : ℕ) → t < m
      → word_at zero k n m size c some others (2 ^ n + t) ≡ get_or others (t * size + c) zero
  in_parity some others t c below =
      let place : 2 ^ n + t - 2 ^ n ≡ t = omega arith in
      word_at-behind zero k n m size c some others (2 ^ n + t) (omega (arith, padded)) (omega arith) (omega (arith, below))
      ∙ ap (λ (s : ℕ). get_or others (s * size + c) zero) place

  parity-kept : (t c : ℕ) → t < m → c < size → IsAtHand present (k + t)
      → get_or now_parity (t * size + c) zero ≡ get_or parity (t * size + c) zero
  parity-kept t c below c_below here =
      sym (in_parity now now_parity t c below)
      ∙ done.kept (2 ^ n + t) c c_below (inl (lost-parity k n m present padded t below ∙ ap not here))
      ∙ in_parity shards parity t c below

  -- what is past the end is as it was
  past-end : (count i c : ℕ) (some others : List W) → length others ≡ count * size → length some ≡ length others → count ≤ i
      → get_or some (i * size + c) zero ≡ get_or others (i * size + c) zero
  past-end count i c some others of_size same past =
      let more : count * size ≤ i * size = mul-le-mul_right size past in
      get_or_past some (i * size + c) zero (omega (arith, more, of_size, same)) ∙ sym (get_or_past others (i * size + c) zero (omega (arith, more, of_size)))

  -- so all columns are restored
  pub columns_restored : AreRestoredColumns element zero level n k m size present size shards parity now now_parity
  columns_restored =
      record {
        restored = λ column below symbol word_parity word data_known parity_known. (
          (λ i i_below. elim (cases_Bool (get_or present i false)) [
            | inl here ↦ ap element (data-kept i column i_below below here) ∙ data_known i i_below here
            | inr absent ↦
                ap element (sym (word_at-first zero k n m size column now now_parity i i_below))
                ∙ done.restored i column (omega (arith, i_below, padded)) below (lost-data k n m present padded i i_below ∙ ap not absent)
                (slice_index word.coefficients)
                (known_words number zero nothing level k n m size column present shards parity symbol word_parity word data_known parity_known padded)
                ∙ sym (word.of_data.values i i_below)
          ]),
          λ t t_below. elim (cases_Bool (get_or present (k + t) false)) [
            | inl here ↦ ap element (parity-kept t column t_below below here) ∙ parity_known t t_below here
            | inr absent ↦
                ap element (sym (in_parity now now_parity t column t_below))
                ∙ done.restored (2 ^ n + t) column (omega (arith, t_below)) below (lost-parity k n m present padded t t_below ∙ ap not absent)
                (slice_index word.coefficients)
                (known_words number zero nothing level k n m size column present shards parity symbol word_parity word data_known parity_known padded)
                ∙ sym (word.of_parity t t_below)
          ],
        );
        kept = λ i c c_below side. elim (cases_lt i k) [
          | inl below ↦ data-kept i c below c_below (at_hand i c c_below side)
          | inr past ↦ past-end k i c now shards whole long past
        ];
        parity_kept = λ t c c_below side. elim (cases_lt t m) [
          | inl below ↦ parity-kept t c below c_below (at_hand (k + t) c c_below side)
          | inr past ↦ past-end m t c now_parity parity parity_whole parity_long past
        ];
      }
    where
      at_hand : (i c : ℕ) → c < size → (size ≤ c) ⊎ (IsAtHand present i) → IsAtHand present i
      at_hand i c c_below (inl past) = absurd (omega (arith, c_below, past))
      at_hand i c c_below (inr here) = here
