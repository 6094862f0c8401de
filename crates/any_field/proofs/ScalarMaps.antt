-- The product by an element is a linear map: the one that takes the powers of x to their products.
use Rattle.std.proofs.Common.{◌≡◌, ◌⊎◌, ℕ, zero, suc, ◌+◌, ◌-◌, ◌*◌, ◌%◌, ◌^◌, ◌≤◌, ◌<◌, List, below_more, inl, inr, length, replicate, sym, ◌∙◌, ap, subst, arith}
use Rattle.std.proofs.Math.ListN.{set}
use Rattle.std.proofs.lemmas.List.{get_or-replicate, get_or-set_same, get_or-set_other, length-replicate, length-set}
use Rattle.std.proofs.lemmas.Nat.{mod_low, pow-add, pow_pos}
use Rattle.std.proofs.Math.Pow.{pow-lt, pow_mono}
use native.Mathlib.Nat.{add-zero, lt_of_lt_of_le, mod-eq_of_lt, mod-lt}
use Rattle.std.specs.Prelude.{slice_index}
use Rattle.field_base.specs.Carryless.{carryless}
use Rattle.field_base.specs.LinearMaps.{linear_image}
use Rattle.field_base.specs.Remainder.{HasDegree, rem}
use Rattle.field_base.specs.Ring.{IsRing}
use Rattle.field_base.proofs.CarrylessProduct.{carryless_double, carryless_one, double_carryless, one_carryless}
use Rattle.field_base.proofs.LinearMapLemmas.{the_linear_map}
use Rattle.field_base.proofs.RemainderLaws.{rem_carryless_left, rem_lt, rem_small}
use Rattle.field_base.proofs.RemainderRing.{mul_mod-rem}
use Rattle.field_base.proofs.RingLemmas.{mod-times, sum_times, times-mod, zero-times}
use Rattle.word_tables.specs.LinearMap.{sum_of_values}
use Rattle.word_tables.proofs.DigitMaps.{sum_of_values_is}
use Rattle.word_tables.proofs.TabledMaps.{Hold, digit_value}
use Rattle.any_field.specs.Contexts.{IsContext, field_product, with_top}
use Rattle.any_field.proofs.WordRemainders.{context-ring, top-degree}

pub by-images : (width : ℕ) (times : ℕ → ℕ → ℕ) → IsRing width 1 times → (scalar : ℕ) (images : List ℕ) → width ≤ 128 → length images ≡ 128
    → ((j : ℕ) → j < 128 → slice_index images j ≡ times (2 ^ j) scalar) → (x : ℕ) → x < 2 ^ width → linear_image images x ≡ times x scalar
by-images width times ring scalar images narrow long each x fits =
    sym ((the_linear_map images).only (λ z. times z scalar) (λ a b. sum_times width 1 times ring a b scalar)
    (λ j within. sym (each j (subst (λ (n : ℕ). j < n) long within))) x
    (subst (λ (n : ℕ). x < 2 ^ n) (sym long) (lt_of_lt_of_le fits (pow_mono narrow))))

-- one place of a list more has what it should
pub written-next : (f : ℕ → ℕ) (xs : List ℕ) (place new : ℕ) → place < length xs → ((j : ℕ) → j < place → slice_index xs j ≡ f j) → new ≡ f place
    → (j : ℕ) → j < place + 1 → slice_index (set xs place new) j ≡ f j
written-next f xs place new within before is =
    below_more (λ j. slice_index (set xs place new) j ≡ f j) place
    (λ j less. get_or-set_other xs place j new 0 (λ e. absurd (omega (arith, e, less))) ∙ before j less)
    (get_or-set_same xs place new 0 within ∙ is)

pub low-lt : (width x low : ℕ) → low ≡ x % 2 ^ width → low < 2 ^ width
low-lt width x low is = subst (λ (z : ℕ). z < 2 ^ width) (sym is) (mod-lt x (pow_pos width))

-- a product reads the low bits
pub low-times : (width : ℕ) (times : ℕ → ℕ → ℕ) → IsRing width 1 times → (x scalar low : ℕ) → low ≡ x % 2 ^ width
    → times low scalar ≡ times x scalar
low-times width times ring x scalar low is =
    ring.comm low scalar ∙ ap (times scalar) is ∙ times-mod width 1 times ring scalar x ∙ ring.comm scalar x

-- ---- the products of the powers of x by an element, one after another

-- those before a place stand there, zeros from it on, and the next one is known
pub record AreMultiples (w t place scalar : ℕ) (multiples : List ℕ) (multiple : ℕ) : Type 0 where
  pub long : length multiples ≡ 128
  pub each : (j : ℕ) → j < place → slice_index multiples j ≡ field_product w t (2 ^ j) scalar
  pub rest : (j : ℕ) → place ≤ j → j < 128 → slice_index multiples j ≡ 0
  pub next : multiple ≡ rem w (with_top w t) (carryless (2 ^ place) (scalar % 2 ^ w))

module _ (w t r : ℕ) (context : IsContext w t r) (scalar : ℕ) where
  degree : HasDegree w (with_top w t)
  degree = top-degree w t context.tail_below

  pub multiples-start : (low : ℕ) → low ≡ scalar % 2 ^ w → AreMultiples w t 0 scalar (replicate {A = ℕ} 128 0) low
  multiples-start low is = record {
    long = length-replicate {A = ℕ} 128 0;
    each = λ j below. absurd (omega (arith, below));
    rest = λ j past within. get_or-replicate {A = ℕ} 128 j 0 0 within;
    next =
        is ∙ sym (rem_small w (with_top w t) degree (scalar % 2 ^ w) (mod-lt scalar (pow_pos w)))
        ∙ ap (rem w (with_top w t)) (sym (one_carryless (scalar % 2 ^ w)));
  }

  pub multiple-lt : (place multiple : ℕ) (multiples : List ℕ) → AreMultiples w t place scalar multiples multiple → multiple < 2 ^ w
  multiple-lt place multiple multiples are =
      subst (λ (z : ℕ). z < 2 ^ w) (sym are.next) (rem_lt w (with_top w t) degree (carryless (2 ^ place) (scalar % 2 ^ w)))

  pub multiples-next : (place multiple moved : ℕ) (multiples : List ℕ) → place < w → AreMultiples w t place scalar multiples multiple
      → moved ≡ rem w (with_top w t) (multiple * 2) → AreMultiples w t (place + 1) scalar (set multiples place multiple) moved
  multiples-next place multiple moved multiples less are moved_is = record {
    long = length-set multiples place multiple ∙ are.long;
    each =
        written-next (λ j. field_product w t (2 ^ j) scalar) multiples place multiple (omega (arith, are.long, less, context.narrow)) are.each
        (are.next ∙ sym (mul_mod-rem w (with_top w t) degree (2 ^ place) (scalar % 2 ^ w) (pow-lt less) (mod-lt scalar (pow_pos w)))
        ∙ times-mod w 1 (field_product w t) (context-ring w t r context) (2 ^ place) scalar);
    rest =
        λ j past within. get_or-set_other multiples place j multiple 0 (λ e. absurd (omega (arith, e, past)))
        ∙ are.rest j (omega (arith, past)) within;
    next =
        moved_is ∙ ap (λ (z : ℕ). rem w (with_top w t) (z * 2)) are.next ∙ ap (rem w (with_top w t)) (sym (by_two (rem w (with_top w t) product)))
        ∙ rem_carryless_left w (with_top w t) degree product 2
        ∙ ap (rem w (with_top w t)) (by_two product ∙ sym (double_carryless (2 ^ place) (scalar % 2 ^ w))
        ∙ ap (λ (z : ℕ). carryless z (scalar % 2 ^ w)) (doubled place));
  }
    where
      product : ℕ
      product = carryless (2 ^ place) (scalar % 2 ^ w)

      by_two : (x : ℕ) → carryless x 2 ≡ x * 2
      by_two x = carryless_double x 1 ∙ ap (λ (z : ℕ). z * 2) (carryless_one x)

      doubled : (n : ℕ) → 2 ^ n * 2 ≡ 2 ^ (n + 1)
      doubled n = sym (pow-add 2 n 1)

  -- a power without low bits has the product 0
  pub multiples-end : (place multiple : ℕ) (multiples : List ℕ) → place ≡ w → AreMultiples w t place scalar multiples multiple
      → (j : ℕ) → j < 128 → slice_index multiples j ≡ field_product w t (2 ^ j) scalar
  multiples-end place multiple multiples last are j within =
      elim (split j place) [ inl below ↦ are.each j below | inr past ↦ are.rest j past within ∙ sym (none j (subst (λ (n : ℕ). n ≤ j) last past)) ]
    where
      split : (j n : ℕ) → (j < n) ⊎ (n ≤ j)
      split j zero = inr (omega arith)
      split zero (suc n) = inl (omega arith)
      split (suc j) (suc n) = elim (split j n) [ inl less ↦ inl (omega (arith, less)) | inr more ↦ inr (omega (arith, more)) ]

      none : (j : ℕ) → w ≤ j → field_product w t (2 ^ j) scalar ≡ 0
      none j past =
          let sum : j ≡ j - w + w = omega (arith, past) in
          let ring = context-ring w t r context in
          sym (mod-times w 1 (field_product w t) ring (2 ^ j) scalar)
          ∙ ap (λ (z : ℕ). field_product w t z scalar)
          (ap (λ (z : ℕ). 2 ^ z % 2 ^ w) sum ∙ ap (λ (z : ℕ). z % 2 ^ w) (pow-add 2 (j - w) w ∙ sym (add-zero (2 ^ (j - w) * 2 ^ w)))
          ∙ mod_low (2 ^ (j - w)) w 0 (pow_pos w))
          ∙ zero-times w 1 (field_product w t) ring scalar

-- the sum of the values at the digits of an element is its product
pub by-digits : (w : ℕ) (times : ℕ → ℕ → ℕ) → IsRing w 1 times → (scalar digits : ℕ) (images values : List ℕ) → w ≤ 128 → w ≤ 4 * digits
    → length images ≡ 128 → ((j : ℕ) → j < 128 → slice_index images j ≡ times (2 ^ j) scalar) → Hold (digit_value images) (16 * digits) values
    → (x : ℕ) → x < 2 ^ w → sum_of_values digits values x ≡ times x scalar
by-digits w times ring scalar digits images values narrow enough long each held x fits =
    sum_of_values_is images values digits x held
    ∙ ap (linear_image images) (mod-eq_of_lt (lt_of_lt_of_le fits (pow_mono enough)))
    ∙ by-images w times ring scalar images narrow long each x fits
