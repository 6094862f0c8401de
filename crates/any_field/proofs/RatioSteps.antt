-- The quotient of x^(2 width) by the modulus, a bit in each step, and squarings.
use Rattle.std.proofs.Common.{◌≡◌, ℕ, zero, suc, ◌+◌, ◌-◌, ◌*◌, ◌/◌, ◌%◌, ◌^◌, ◌≤◌, ◌<◌, sym, ◌∙◌, ap, ap₂, subst, arith, lit<}
use Rattle.std.specs.Prelude.{bit_xor}
use Rattle.std.proofs.lemmas.Nat.{pow_pos, shr_below, xor_lt, shr_split}
use Rattle.std.proofs.Math.Pow.{pow_mono, mod-mod-pow}
use native.Mathlib.Nat.{mod-eq_of_lt, mod-lt, pow-suc, zero-mul, one-mul, lt_of_lt_of_le, mul-div-mul_right}
use lib.Bits.{xor_assoc, xor_self, xor_zero_r, xor_shifted}
use Rattle.field_base.specs.Carryless.{carryless}
use Rattle.field_base.specs.Remainder.{rem}
use Rattle.field_base.proofs.CarrylessProduct.{xor_double, bit_cases, sum_carryless, double_carryless, bit_carryless, one_carryless}
use Rattle.field_base.proofs.RingLemmas.{xor_exchange, xor_cancel}
use Rattle.field_base.proofs.RemainderLaws.{rem_of}
use Rattle.any_field.specs.Contexts.{IsContext, with_top}
use Rattle.any_field.proofs.WordRemainders.{top-degree}

-- after i steps: x^(width + i) is the quotient so far times the modulus, and the rest
pub record IsPartialRatio (w t i ratio rest : ℕ) : Type 0 where
  pub ratio_below : ratio < 2 ^ i
  pub rest_below : rest < 2 ^ w
  pub parts : bit_xor (carryless (2 ^ i + ratio) (with_top w t)) rest ≡ 2 ^ (w + i)

-- a power and lower terms are a sum of polynomials
pub with_top-xor : (w t : ℕ) → t < 2 ^ w → with_top w t ≡ bit_xor (2 ^ w) t
with_top-xor w t fits =
    ap (λ (z : ℕ). z + t) (sym (one-mul (2 ^ w))) ∙ sym (xor_shifted 1 w t fits) ∙ ap (λ (z : ℕ). bit_xor z t) (one-mul (2 ^ w))

pub ratio-start : (w t : ℕ) → t < 2 ^ w → IsPartialRatio w t 0 0 t
ratio-start w t fits = record {
  ratio_below = lit< tt;
  rest_below = fits;
  parts =
      ap (λ (z : ℕ). bit_xor z t) (one_carryless (with_top w t) ∙ with_top-xor w t fits) ∙ xor_assoc (2 ^ w) t t
      ∙ ap (bit_xor (2 ^ w)) (xor_self t) ∙ xor_zero_r (2 ^ w) ∙ ap (λ (z : ℕ). 2 ^ z) none;
}
  where
    none : w ≡ w + 0
    none = omega arith

module _ (w t rest : ℕ) (wide : 0 < w) (fits : t < 2 ^ w) (below : rest < 2 ^ w) where
  top-lt : rest / 2 ^ (w - 1) < 2
  top-lt = shr_below rest 1 (w - 1) (subst (λ (z : ℕ). rest < 2 ^ z) (back w wide) below)
    where
      back : (w : ℕ) → 0 < w → w ≡ 1 + (w - 1)
      back w wide = omega arith

  -- twice the rest is the bit that leaves and the bits that stay
  doubled : rest * 2 ≡ bit_xor (rest / 2 ^ (w - 1) * 2 ^ w) (rest * 2 % 2 ^ w)
  doubled =
      sym (xor_shifted (rest / 2 ^ (w - 1)) w (rest * 2 % 2 ^ w) (mod-lt (rest * 2) (pow_pos w))
      ∙ ap (λ (z : ℕ). z * 2 ^ w + rest * 2 % 2 ^ w) (sym quotient) ∙ shr_split (rest * 2) w)
    where
      quotient : rest * 2 / 2 ^ w ≡ rest / 2 ^ (w - 1)
      quotient = ap (λ (z : ℕ). rest * 2 / z) (whole w wide) ∙ mul-div-mul_right rest (2 ^ (w - 1)) (lit< tt)
        where
          whole : (w : ℕ) → 0 < w → 2 ^ w ≡ 2 ^ (w - 1) * 2
          whole zero wide = absurd (omega arith)
          whole (suc w) wide = let same : suc w - 1 ≡ w = omega arith in pow-suc 2 w ∙ ap (λ (z : ℕ). 2 ^ z * 2) (sym same)

  -- the bit that leaves, times the modulus
  split : rest / 2 ^ (w - 1) * with_top w t ≡ bit_xor (rest / 2 ^ (w - 1) * 2 ^ w) (rest / 2 ^ (w - 1) * t)
  split =
      subst (λ (z : ℕ). z * with_top w t ≡ bit_xor (z * 2 ^ w) (z * t)) (mod-eq_of_lt top-lt)
      (bit_cases (λ z. z * with_top w t ≡ bit_xor (z * 2 ^ w) (z * t)) (simp zero-mul) (simp one-mul (with_top-xor w t fits)) (rest / 2 ^ (w - 1)))

  -- as polynomials it is a multiple of it
  top-carryless : carryless (rest / 2 ^ (w - 1)) (with_top w t) ≡ bit_xor (rest / 2 ^ (w - 1) * 2 ^ w) (rest / 2 ^ (w - 1) * t)
  top-carryless =
      let bit = rest / 2 ^ (w - 1) in
      let bit_is : bit % 2 ≡ bit = mod-eq_of_lt top-lt in
      ap (λ (z : ℕ). carryless z (with_top w t)) (sym bit_is) ∙ bit_carryless bit (with_top w t) ∙ ap (λ (z : ℕ). z * with_top w t) bit_is ∙ split

  next-lt : bit_xor (rest * 2 % 2 ^ w) (rest / 2 ^ (w - 1) * t) < 2 ^ w
  next-lt =
      let bit = rest / 2 ^ (w - 1) in
      xor_lt w (rest * 2 % 2 ^ w) (bit * t) (mod-lt (rest * 2) (pow_pos w))
      (subst (λ (z : ℕ). z * t < 2 ^ w) (mod-eq_of_lt top-lt) (bit_cases (λ z. z * t < 2 ^ w) (rw zero-mul (pow_pos w)) (rw one-mul fits) bit))

  -- the bits that stay and the bit that leaves, times the tail, are the remainder of twice the rest
  pub doubled-remainder : rem w (with_top w t) (rest * 2) ≡ bit_xor (rest * 2 % 2 ^ w) (rest / 2 ^ (w - 1) * t)
  doubled-remainder = rem_of w (with_top w t) (top-degree w t fits) (rest * 2) _ (record {
    below = next-lt;
    quotient = rest / 2 ^ (w - 1);
    parts = doubled ∙ sym (ap (λ (z : ℕ). bit_xor z (bit_xor low tailed)) top-carryless ∙ regroup (rest / 2 ^ (w - 1) * 2 ^ w) tailed low);
  })
    where
      low : ℕ
      low = rest * 2 % 2 ^ w

      tailed : ℕ
      tailed = rest / 2 ^ (w - 1) * t

      regroup : (a b c : ℕ) → bit_xor (bit_xor a b) (bit_xor c b) ≡ bit_xor a c
      regroup a b c = xor_exchange a b c b ∙ ap (bit_xor (bit_xor a c)) (xor_self b) ∙ xor_zero_r (bit_xor a c)

module _ (w t i ratio rest : ℕ) (wide : 0 < w) (fits : t < 2 ^ w) (is : IsPartialRatio w t i ratio rest) where
  -- the next rest and quotient
  ratio-step : IsPartialRatio w t (suc i) (bit_xor (ratio * 2) (rest / 2 ^ (w - 1))) (bit_xor (rest * 2 % 2 ^ w) (rest / 2 ^ (w - 1) * t))
  ratio-step =
      let f = with_top w t in
      let bit = rest / 2 ^ (w - 1) in
      let low = rest * 2 % 2 ^ w in
      let bit_lt = top-lt w t rest wide fits is.rest_below in
      let ratio_fits : ratio * 2 < 2 ^ suc i = double (i) ratio is.ratio_below in
      let bit_fits : bit < 2 ^ suc i = lt_of_lt_of_le bit_lt (pow_mono (one_le i)) in
      let next : 2 ^ suc i + bit_xor (ratio * 2) bit ≡ bit_xor ((2 ^ i + ratio) * 2) bit =
      with_top-xor (suc i) (bit_xor (ratio * 2) bit) (xor_lt (suc i) (ratio * 2) bit ratio_fits bit_fits)
      ∙ sym (xor_assoc (2 ^ suc i) (ratio * 2) bit)
      ∙ ap (λ (z : ℕ). bit_xor z bit) (sym (with_top-xor (suc i) (ratio * 2) ratio_fits) ∙ twice i ratio) in
      record {
        ratio_below = xor_lt (suc i) (ratio * 2) bit ratio_fits bit_fits;
        rest_below = next-lt w t rest wide fits is.rest_below;
        parts =
            ap (λ (z : ℕ). bit_xor (carryless z f) (bit_xor low (bit * t))) next
            ∙ ap (λ (z : ℕ). bit_xor z (bit_xor low (bit * t)))
            (sum_carryless ((2 ^ i + ratio) * 2) bit f
            ∙ ap₂ bit_xor (double_carryless (2 ^ i + ratio) f) (top-carryless w t rest wide fits is.rest_below))
            ∙ regroup (carryless (2 ^ i + ratio) f * 2) (bit * 2 ^ w) (bit * t) low
            ∙ ap (bit_xor (carryless (2 ^ i + ratio) f * 2)) (sym (doubled w t rest wide fits is.rest_below))
            ∙ xor_double (carryless (2 ^ i + ratio) f) rest ∙ ap (λ (z : ℕ). z * 2) is.parts ∙ power w i;
      }
    where
      one_le : (i : ℕ) → 1 ≤ suc i
      one_le i = omega arith

      double : (i x : ℕ) → x < 2 ^ i → x * 2 < 2 ^ suc i
      double i x less = omega (arith, pow-suc 2 i)

      twice : (i x : ℕ) → 2 ^ suc i + x * 2 ≡ (2 ^ i + x) * 2
      twice i x = omega (arith, pow-suc 2 i)

      power : (w i : ℕ) → 2 ^ (w + i) * 2 ≡ 2 ^ (w + suc i)
      power w i = let next : w + suc i ≡ suc (w + i) = omega arith in sym (ap (λ (z : ℕ). 2 ^ z) next ∙ pow-suc 2 (w + i))

      regroup : (a b c d : ℕ) → bit_xor (bit_xor a (bit_xor b c)) (bit_xor d c) ≡ bit_xor a (bit_xor b d)
      regroup a b c d =
          xor_assoc a (bit_xor b c) (bit_xor d c)
          ∙ ap (bit_xor a) (xor_exchange b c d c ∙ ap (bit_xor (bit_xor b d)) (xor_self c) ∙ xor_zero_r (bit_xor b d))

pub ratio-end : (w t ratio rest : ℕ) → 0 < w → w ≤ 128 → t < 2 ^ w → IsPartialRatio w t w ratio rest → IsContext w t ratio
ratio-end w t ratio rest wide narrow fits is = record {
  wide = wide;
  narrow = narrow;
  tail_below = fits;
  ratio_below = is.ratio_below;
  rest_below =
      subst (λ (z : ℕ). z < 2 ^ w)
      (sym (ap (bit_xor (carryless (with_top w ratio) (with_top w t))) (sym is.parts) ∙ xor_cancel (carryless (with_top w ratio) (with_top w t)) rest))
      is.rest_below;
}

-- the shifts of the code lose nothing
pub rest-shifted : (w rest : ℕ) → w ≤ 128 → rest * 2 ^ 1 % 2 ^ 128 % 2 ^ w ≡ rest * 2 % 2 ^ w
rest-shifted w rest narrow =
    let sum : 128 ≡ 128 - w + w = omega (arith, narrow) in
    ap (λ (z : ℕ). rest * 2 % 2 ^ z % 2 ^ w) sum ∙ mod-mod-pow (rest * 2) (128 - w) w

pub ratio-shifted : (w i ratio bit : ℕ) → i < w → w ≤ 128 → ratio < 2 ^ i
    → bit_xor (ratio * 2 ^ 1 % 2 ^ 128) bit ≡ bit_xor (ratio * 2) bit
ratio-shifted w i ratio bit less narrow fits =
    ap (λ (z : ℕ). bit_xor z bit) (mod-eq_of_lt (lt_of_lt_of_le (double i ratio fits) (pow_mono {i = suc i} {j = 128} (omega arith))))
  where
    double : (i x : ℕ) → x < 2 ^ i → x * 2 < 2 ^ suc i
    double i x less = omega (arith, pow-suc 2 i)

-- the step as the code takes it
pub ratio-next : (w t i ratio rest next : ℕ) → 0 < w → w ≤ 128 → t < 2 ^ w → i < w → IsPartialRatio w t i ratio rest
    → next ≡ rem w (with_top w t) (rest * 2)
    → IsPartialRatio w t (i + 1) (bit_xor (ratio * 2 ^ 1 % 2 ^ 128) (rest / 2 ^ (w - 1))) next
ratio-next w t i ratio rest next wide narrow fits less is next_is =
    let more : suc i ≡ i + 1 = omega arith in
    subst (λ (n : ℕ). IsPartialRatio w t n (bit_xor (ratio * 2 ^ 1 % 2 ^ 128) (rest / 2 ^ (w - 1))) next) more
    (subst (λ (z : ℕ). IsPartialRatio w t (suc i) z next)
    (sym (ratio-shifted w i ratio (rest / 2 ^ (w - 1)) less narrow is.ratio_below))
    (subst (IsPartialRatio w t (suc i) (bit_xor (ratio * 2) (rest / 2 ^ (w - 1))))
    (sym (next_is ∙ doubled-remainder w t rest wide fits is.rest_below)) (ratio-step w t i ratio rest wide fits is)))

-- twice an element as the code reduces it
pub doubled-word : (w t x low multiple : ℕ) → 0 < w → w ≤ 128 → t < 2 ^ w → x < 2 ^ w
    → low ≡ x * 2 ^ 1 % 2 ^ 128 % 2 ^ w → multiple ≡ x / 2 ^ (w - 1) * t → bit_xor low multiple ≡ rem w (with_top w t) (x * 2)
doubled-word w t x low multiple wide narrow fits below low_is multiple_is =
    ap₂ bit_xor (low_is ∙ rest-shifted w x narrow) multiple_is ∙ sym (doubled-remainder w t x wide fits below)

pub top-bit : (w t x : ℕ) → 0 < w → t < 2 ^ w → x < 2 ^ w → x / 2 ^ (w - 1) < 2
top-bit w t x wide fits below = top-lt w t x wide fits below
