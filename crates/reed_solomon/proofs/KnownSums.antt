-- Lost symbols as sums of multiples of the known ones, and the words in which they are summed.
use Rattle.std.proofs.Common.{◌≡◌, ◌≢◌, inl, inr, ℕ, zero, suc, ◌+◌, ◌%◌, ◌^◌, ◌<◌, ◌≤◌, Bool, true, false, List, if◌then◌else◌, length, get_or, set, lit<, refl, sym, ◌∙◌, ap, ap₂, subst, arith}
use Rattle.std.specs.Prelude.{bit_xor}
use Rattle.std.proofs.Math.Nat.{pow-le-pow_right}
use Rattle.std.proofs.lemmas.Bool.{cases_Bool, cases_eq, cases_lt, true≢false}
use Rattle.std.proofs.lemmas.List.{get_or-set_other, get_or-set_same}
use Rattle.std.proofs.lemmas.Nat.{pow_pos, xor_lt}
use native.Mathlib.Numerals.{add-one}
use lib.Bits.{xor_self, xor_zero_l, xor_zero_r}
use Rattle.field_base.specs.Basis.{sum_below}
use Rattle.field_base.specs.Field.{IsField}
use Rattle.field_base.specs.Ring.{IsRing}
use Rattle.field_base.specs.Tower.{tower_mul}
use Rattle.field_base.proofs.BasisSums.{sum_below-same, sum_below-zeros}
use Rattle.field_base.proofs.RingLemmas.{times-mod, times-zero, xor_nothing, zero-times}
use Rattle.field_base.proofs.TowerLaws.{tower_field}
use Rattle.field_base.proofs.TowerRing.{tower_ring}
use Rattle.field_base.proofs.Polynomials.{IsPolynomial, polynomial-lt}
use Rattle.ghash_slices.specs.Cantor.{point, polynomial_value}
use Rattle.ghash_slices.proofs.CantorValues.{points_are_distinct, sum_below-image}
use Rattle.ghash_slices.proofs.StageSums.{sum_below-xor}
use Rattle.additive_transforms.specs.lemmas.LevelVector.{level_vectors}
use Rattle.additive_transforms.proofs.BlockPoints.{point-lt}
use Rattle.word_tables.specs.Cantor.{cantor_vector}
use Rattle.word_tables.proofs.LevelLaws.{level_cantor}
use Rattle.reed_solomon.specs.Direct.{AreKnownWeights, known_term}
use Rattle.reed_solomon.specs.Locators.{locator, lost_count, others_lost}
use Rattle.reed_solomon.specs.Restoring.{IsFactor, is_lost}
use Rattle.reed_solomon.proofs.Decoding.{at-lt, others_divide, others_polynomial, product_is, quotient_is}
use Rattle.reed_solomon.proofs.DerivedValues.{quotient, quotient_at_root}
use Rattle.reed_solomon.proofs.LocatorFacts.{locator-root, locator-without, others-apart}
use Rattle.reed_solomon.proofs.PointTotals.{interpolates, quotient-total}

-- ---- sums

-- a sum has one more term
pub sum_more : (f : ℕ → ℕ) (n : ℕ) → sum_below f (n + 1) ≡ bit_xor (sum_below f n) (f n)
unfolding sum_below
sum_more f n = ap (sum_below f) (add-one n) ∙ refl

-- a sum of which one term is not 0
sum_at : (f : ℕ → ℕ) (n i : ℕ) → i < n → ((j : ℕ) → j < n → j ≢ i → f j ≡ 0) → sum_below f n ≡ f i
unfolding sum_below
sum_at f zero i within others = absurd (omega (arith, within))
sum_at f (suc n) i within others =
    elim (cases_eq n i) [
      | inl same ↦
          ap (λ (z : ℕ). bit_xor z (f n)) (sum_below-zeros f n (λ j below. others j (omega (arith, below)) (λ e. absurd (omega (arith, below, e, same)))))
          ∙ xor_zero_l (f n) ∙ ap f same
      | inr other ↦
          ap₂ bit_xor (sum_at f n i (apart n i within other) (λ j below. others j (omega (arith, below)))) (others n (omega arith) other)
          ∙ xor_zero_r (f i)
    ]
  where
    apart : (n i : ℕ) → i < suc n → (n ≡ i → ⊥) → i < n
    apart n i within different = omega (arith, within, different)

-- ---- terms

module _ (times : ℕ → ℕ → ℕ) (lost : ℕ → Bool) (weight word : ℕ → ℕ) (q : ℕ) where
  chosen : Bool → ℕ
  chosen b = if b then 0 else times (weight q) (word q)

  pub term-lost : lost q ≡ true → known_term times lost weight word q ≡ 0
  unfolding chosen
  term-lost is = ap chosen is

  pub term-known : lost q ≡ false → known_term times lost weight word q ≡ times (weight q) (word q)
  unfolding chosen
  term-known is = ap chosen is

-- only the words of known places count
pub terms-same : (times : ℕ → ℕ → ℕ) (lost : ℕ → Bool) (weight word other : ℕ → ℕ) (n : ℕ) → ((q : ℕ) → lost q ≡ false → word q ≡ other q)
    → sum_below (known_term times lost weight word) n ≡ sum_below (known_term times lost weight other) n
terms-same times lost weight word other n same =
    sum_below-same (known_term times lost weight word) (known_term times lost weight other) n
    (λ q below. elim (cases_Bool (lost q)) [
      | inl absent ↦ term-lost times lost weight word q absent ∙ sym (term-lost times lost weight other q absent)
      | inr here ↦
          term-known times lost weight word q here ∙ ap (times (weight q)) (same q here) ∙ sym (term-known times lost weight other q here)
    ])

module _ (level n r : ℕ) (low : level ≤ 7) (room : r ≤ 2 ^ level) (lost : ℕ → Bool) (enough : lost_count lost (2 ^ r) + 2 ^ n ≤ 2 ^ r) where
  abbrev times : ℕ → ℕ → ℕ
  times = tower_mul level

  abbrev at : ℕ → ℕ
  at p = point (2 ^ level) cantor_vector 0 p

  abbrev e : ℕ → ℕ
  e = locator times at lost (2 ^ r)

  abbrev other : ℕ → ℕ → ℕ
  other p = locator times at (others_lost lost p) (2 ^ r)

  field : IsField (2 ^ level) times
  field = tower_field level

  abbrev wide : 0 < 2 ^ level
  wide = pow_pos level

  abbrev ring : IsRing (2 ^ level) 1 times
  ring = tower_ring level

  module _ (f : ℕ → ℕ) (f_is : IsPolynomial times (2 ^ n) f) (p : ℕ) (below : p < 2 ^ r) (absent : lost p ≡ true) where
    abbrev g : ℕ → ℕ
    g x = times (other p x) (f x)

    -- the products of a polynomial's values and the locator of all lost points but one add up to 0
    values_vanish : sum_below (λ q. g (at q)) (2 ^ r) ≡ 0
    values_vanish =
        sum_below-same (λ q. g (at q)) (λ q. quotient (2 ^ level) times wide ring (at p) r coefficients.0 (at q)) (2 ^ r)
        (λ q within. sym (quotient_at_root (2 ^ level) times wide ring field (at p) r (at-lt level n r low room lost enough p) room
        coefficients.0 g (others_polynomial level n r low room lost enough f f_is p below absent) divides (at q)))
        ∙ quotient-total level low (at p) r room coefficients.0 0
      where
        coefficients : (c : ℕ → ℕ) × ((k : ℕ) → c k < 2 ^ 2 ^ level)
            × ((q : ℕ) → q < 2 ^ r → polynomial_value times r c (at q) ≡ times (e (at q)) (f (at q)))
        coefficients = interpolates level low r room 0 (λ q. times (e (at q)) (f (at q))) (λ q. field.ring.below (e (at q)) (f (at q)))

        divides : (x : ℕ) → polynomial_value times r coefficients.0 x ≡ times (bit_xor x (at p)) (g x)
        divides x =
            product_is level n r low room lost enough f f_is coefficients.0 (λ q. f (at q))
            (λ q within. coefficients.2 q within ∙ field.ring.comm (e (at q)) (f (at q))) (λ q within here. refl) x
            ∙ others_divide level n r low room lost enough f f_is p below absent x

    -- so the value at that one is the sum over the known places, with these weights
    pub known_sum_is : (factor : ℕ) (weight word : ℕ → ℕ) → times (other p (at p)) factor ≡ 1
        → ((q : ℕ) → q < 2 ^ r → lost q ≡ false → weight q ≡ times factor (other p (at q)))
        → ((q : ℕ) → lost q ≡ false → word q % 2 ^ 2 ^ level ≡ f (at q))
        → sum_below (known_term times lost weight word) (2 ^ r) ≡ f (at p)
    known_sum_is factor weight word inverse weights words =
        sym (xor_zero_r (sum_below term (2 ^ r)))
        ∙ ap (bit_xor (sum_below term (2 ^ r)))
        (sym (sym (sum_below-image (times factor) (field.ring.over_sum factor) (λ q. g (at q)) (2 ^ r)) ∙ ap (times factor) values_vanish
        ∙ times-zero (2 ^ level) 1 times field.ring factor))
        ∙ sum_below-xor term (λ q. times factor (g (at q))) (2 ^ r)
        ∙ sum_at (λ q. bit_xor (term q) (times factor (g (at q)))) (2 ^ r) p below others
        ∙ ap (λ (v : ℕ). bit_xor v (times factor (g (at p)))) (term-lost times lost weight word p absent)
        ∙ xor_zero_l (times factor (g (at p)))
        ∙ field.ring.comm factor (g (at p))
        ∙ quotient_is level (f (at p)) (other p (at p)) factor (polynomial-lt (2 ^ level) times field.ring (2 ^ n) f f_is (at p)) inverse
      where
        term : ℕ → ℕ
        term = known_term times lost weight word

        others : (q : ℕ) → q < 2 ^ r → q ≢ p → bit_xor (term q) (times factor (g (at q))) ≡ 0
        others q within differs =
            elim (cases_Bool (lost q)) [
              | inl gone ↦
                  let root : other p (at q) ≡ 0 =
                  locator-root (2 ^ level) times wide field at (others_lost lost p) (2 ^ r) q within (others-apart lost p q differs ∙ gone) in
                  ap₂ bit_xor (term-lost times lost weight word q gone)
                  (ap (times factor) (ap (λ (v : ℕ). times v (f (at q))) root ∙ zero-times (2 ^ level) 1 times field.ring (f (at q)))
                  ∙ times-zero (2 ^ level) 1 times field.ring factor)
              | inr here ↦
                  ap (λ (v : ℕ). bit_xor v (times factor (g (at q))))
                  (term-known times lost weight word q here
                  ∙ ap (λ (v : ℕ). times v (word q)) (weights q within here)
                  ∙ sym (times-mod (2 ^ level) 1 times field.ring (times factor (other p (at q))) (word q))
                  ∙ ap (times (times factor (other p (at q)))) (words q here)
                  ∙ field.ring.assoc factor (other p (at q)) (f (at q)))
                  ∙ xor_self (times factor (g (at q)))
            ]

-- ---- weights

-- a factor over a difference is the locator without that
pub weight_is : (level own factor difference inverse rest : ℕ) → tower_mul level difference inverse ≡ 1 → factor ≡ tower_mul level difference rest
    → tower_mul level own (tower_mul level inverse factor) ≡ tower_mul level own rest
weight_is level own factor difference inverse rest is factor_is =
    let ring = (tower_field level).ring in
    ap (tower_mul level own)
    (ap (tower_mul level inverse) factor_is ∙ sym (ring.assoc inverse difference rest)
    ∙ ap (λ (v : ℕ). tower_mul level v rest) (ring.comm inverse difference ∙ is) ∙ ring.one rest)
    ∙ times-mod (2 ^ level) 1 (tower_mul level) ring own rest

-- one more weight
pub weights_more : {W : Type 0} (number : W → ℕ) (nil : W) (level k n m r : ℕ) (present : List Bool) → level ≤ 7 → r ≤ 2 ^ level
    → (p q : ℕ) → p < 2 ^ r → q < 2 ^ r → is_lost k n m present p ≡ true → (own factor difference : ℕ) (weights : List W) (v : W)
    → q < length weights → difference ≡ bit_xor (point (2 ^ level) cantor_vector 0 q) (point (2 ^ level) cantor_vector 0 p)
    → IsFactor level k n m present (2 ^ r) q factor
    → ((rest : ℕ) → difference < 2 ^ 2 ^ level → difference ≢ 0 → factor ≡ tower_mul level difference rest → number v ≡ tower_mul level own rest)
    → AreKnownWeights number nil level r (is_lost k n m present) p own q weights
    → AreKnownWeights number nil level r (is_lost k n m present) p own (q + 1) (set weights q v)
weights_more number nil level k n m r present low room p q p_below q_below absent own factor difference weights v within is is_factor step before s below here =
    elim (cases_lt s q) [
      | inl early ↦
          ap number (get_or-set_other weights q s v nil (λ same. absurd (omega (arith, early, same)))) ∙ before s early here
      | inr late ↦
          let same : q ≡ s = omega (arith, below, late) in
          subst (λ (j : ℕ). number (get_or (set weights q v) j nil) ≡ tower_mul level own (rest j)) same
          (ap number (get_or-set_same weights q v nil within)
          ∙ step (rest q) (subst (λ (d : ℕ). d < 2 ^ 2 ^ level) (sym is) (xor_lt (2 ^ level) (at q) (at p) (at-fits q) (at-fits p)))
          (λ none. differs (ap lost same ∙ here) (apart q_below p_below (xor_nothing (at q) (at p) (sym is ∙ none))))
          (is_factor.known (ap lost same ∙ here)
          ∙ locator-without (2 ^ level) (tower_mul level) (tower_field level).ring at lost p (at q) absent (2 ^ r) p_below
          ∙ ap (λ (d : ℕ). tower_mul level d (rest q)) (sym is)))
    ]
  where
    lost : ℕ → Bool
    lost = is_lost k n m present

    at : ℕ → ℕ
    at j = point (2 ^ level) cantor_vector 0 j

    rest : ℕ → ℕ
    rest j = locator (tower_mul level) at (others_lost lost p) (2 ^ r) (at j)

    at-fits : (j : ℕ) → at j < 2 ^ 2 ^ level
    at-fits j = point-lt (2 ^ level) cantor_vector (level_cantor level low).below j

    apart : q < 2 ^ r → p < 2 ^ r → at q ≡ at p → q ≡ p
    apart q_less p_less same =
        let points : 2 ^ r ≤ 2 ^ 2 ^ level = pow-le-pow_right (lit< tt) room in
        points_are_distinct (2 ^ level) (tower_mul level) cantor_vector (pow_pos level) (tower_field level).ring (level_vectors level low) 0 q p
        (omega (arith, q_less, points)) (omega (arith, p_less, points)) same

    differs : lost q ≡ false → q ≡ p → ⊥
    differs known same = true≢false (sym absent ∙ ap lost (sym same) ∙ known)
