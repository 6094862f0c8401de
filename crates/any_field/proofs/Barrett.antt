-- Remainders by a quotient that is computed once. With p = a x^w + b, ratio f + rest = x^(2 w) and a ratio = q x^w + s, the product of
-- a x^w + q f by x^w is s f + a rest, of degree below 2 w.
use Rattle.std.proofs.Common.{◌≡◌, ◌≢◌, ℕ, suc, ◌+◌, ◌*◌, ◌/◌, ◌%◌, ◌^◌, ◌<◌, sym, ◌∙◌, ap, ap₂, subst, arith}
use Rattle.std.specs.Prelude.{bit_xor}
use Rattle.std.proofs.lemmas.Nat.{pow_pos, xor_lt, xor_comm, xor_mod, xor_shr, pow-add}
use native.Mathlib.Nat.{mod-lt, mod-eq_of_lt, div-lt_iff_lt-mul, div-add-mod', pow-suc, one-mul, mul_assoc, mul-mod_left, mul-div_cancel, div-eq_of_lt, le_refl, lt_of_lt_of_le}
use Rattle.std.proofs.Math.Pow.{pow_mono, pow-lt}
use lib.Bits.{xor_assoc, xor_self, xor_zero_r, xor_shifted}
use Rattle.field_base.specs.Carryless.{carryless}
use Rattle.field_base.specs.Remainder.{HasDegree, rem}
use Rattle.field_base.proofs.CarrylessProduct.{xor_shl, zero_carryless, carryless_one, carryless_sum, sum_carryless, carryless_assoc, carryless_shl, shl_carryless, carryless_below, carryless_lt}
use Rattle.field_base.proofs.RemainderLaws.{rem_small, rem_multiple, rem_lt}
use Rattle.field_base.proofs.RingLemmas.{xor_cancel}
use Rattle.any_field.specs.Barrett.{IsRatio, BarrettIsRemainder, BarrettByWords, quotient_by_tail}
use Rattle.any_field.proofs.Degrees.{degree-most, degree-of, degree-some, degree-nonzero, degree-product, degree-unique}

-- a number in two parts
parts-of : (w x : ℕ) → bit_xor (x / 2 ^ w * 2 ^ w) (x % 2 ^ w) ≡ x
parts-of w x = xor_shifted (x / 2 ^ w) w (x % 2 ^ w) (mod-lt x (pow_pos w)) ∙ div-add-mod' x (2 ^ w)

module _ (w f : ℕ) (degree : HasDegree w f) (ratio : ℕ) (is : IsRatio w f ratio) where
  -- the product by x^w of a x^w + q f
  shifted : (a : ℕ) → bit_xor (a * 2 ^ w) (carryless (carryless a ratio / 2 ^ w) f) * 2 ^ w
      ≡ bit_xor (carryless (carryless a ratio % 2 ^ w) f) (carryless a is.rest)
  shifted a =
      let q = carryless a ratio / 2 ^ w in
      let s = carryless a ratio % 2 ^ w in
      let whole : a * 2 ^ w * 2 ^ w ≡ bit_xor (carryless (carryless a ratio) f) (carryless a is.rest) =
      mul_assoc a (2 ^ w) (2 ^ w) ∙ ap (λ (z : ℕ). a * z) (sym (pow-add 2 w w))
      ∙ sym (ap (λ (z : ℕ). z * 2 ^ (w + w)) (carryless_one a)) ∙ sym (carryless_shl (w + w) a 1)
      ∙ ap (carryless a) (one-mul (2 ^ (w + w)) ∙ sym is.parts) ∙ carryless_sum a (carryless ratio f) is.rest
      ∙ ap (λ (z : ℕ). bit_xor z (carryless a is.rest)) (sym (carryless_assoc a ratio f)) in
      let split : carryless (carryless a ratio) f ≡ bit_xor (carryless q f * 2 ^ w) (carryless s f) =
      ap (λ (z : ℕ). carryless z f) (sym (parts-of w (carryless a ratio))) ∙ sum_carryless (q * 2 ^ w) s f
      ∙ ap (λ (z : ℕ). bit_xor z (carryless s f)) (shl_carryless w q f) in
      sym (xor_shl w (a * 2 ^ w) (carryless q f))
      ∙ ap (λ (z : ℕ). bit_xor z (carryless q f * 2 ^ w)) (whole ∙ ap (λ (z : ℕ). bit_xor z (carryless a is.rest)) split)
      ∙ rest (carryless q f * 2 ^ w) (carryless s f) (carryless a is.rest)
    where
      rest : (x y z : ℕ) → bit_xor (bit_xor (bit_xor x y) z) x ≡ bit_xor y z
      rest x y z = xor_comm (bit_xor (bit_xor x y) z) x ∙ ap (bit_xor x) (xor_assoc x y z) ∙ xor_cancel x (bit_xor y z)

  left-below : (a : ℕ) → a < 2 ^ w → bit_xor (a * 2 ^ w) (carryless (carryless a ratio / 2 ^ w) f) < 2 ^ w
  left-below a fits =
      let s = carryless a ratio % 2 ^ w in
      let twice : carryless s f * 2 < 2 ^ (w + suc w) = carryless_below w (suc w) s f (mod-lt (carryless a ratio) (pow_pos w)) (degree-most w f degree) in
      let next : 2 ^ (w + suc w) ≡ 2 * 2 ^ (w + w) = ap (λ (z : ℕ). 2 ^ z) (sum w) ∙ pow-suc 2 (w + w) ∙ omega arith in
      let first : carryless s f < 2 ^ (w + w) = omega arith in
      let all : bit_xor (carryless s f) (carryless a is.rest) < 2 ^ (w + w) =
      xor_lt (w + w) (carryless s f) (carryless a is.rest) first (carryless_lt w w a is.rest fits is.below) in
      under (bit_xor (a * 2 ^ w) (carryless (carryless a ratio / 2 ^ w) f))
      (subst (λ (z : ℕ). z < 2 ^ w * 2 ^ w) (sym (shifted a)) (subst (λ (z : ℕ). bit_xor (carryless s f) (carryless a is.rest) < z) (pow-add 2 w w) all))
    where
      sum : (w : ℕ) → w + suc w ≡ suc (w + w)
      sum w = omega arith

      under : (x : ℕ) → x * 2 ^ w < 2 ^ w * 2 ^ w → x < 2 ^ w
      under x less =
          subst (λ (z : ℕ). z < 2 ^ w) (mul-div_cancel x (pow_pos w)) ((div-lt_iff_lt-mul (pow_pos w)).1 less)

  module _ (p : ℕ) (fits : p < 2 ^ (w + w)) where
    high-lt : p / 2 ^ w < 2 ^ w
    high-lt = (div-lt_iff_lt-mul (pow_pos w)).1 (subst (λ (z : ℕ). p < z) (pow-add 2 w w) fits)

    multiple : ℕ
    multiple = carryless (carryless (p / 2 ^ w) ratio / 2 ^ w) f

    reduced-lt : bit_xor p multiple < 2 ^ w
    unfolding multiple
    reduced-lt =
        subst (λ (z : ℕ). z < 2 ^ w) regroup
        (xor_lt w (bit_xor (p / 2 ^ w * 2 ^ w) (carryless (carryless (p / 2 ^ w) ratio / 2 ^ w) f)) (p % 2 ^ w) (left-below (p / 2 ^ w) high-lt) (mod-lt p (pow_pos w)))
      where
        swap : (x y z : ℕ) → bit_xor (bit_xor x y) z ≡ bit_xor (bit_xor x z) y
        swap x y z = xor_assoc x y z ∙ ap (bit_xor x) (xor_comm y z) ∙ sym (xor_assoc x z y)

        regroup : bit_xor (bit_xor (p / 2 ^ w * 2 ^ w) (carryless (carryless (p / 2 ^ w) ratio / 2 ^ w) f)) (p % 2 ^ w)
            ≡ bit_xor p (carryless (carryless (p / 2 ^ w) ratio / 2 ^ w) f)
        regroup =
            swap (p / 2 ^ w * 2 ^ w) (carryless (carryless (p / 2 ^ w) ratio / 2 ^ w) f) (p % 2 ^ w)
            ∙ ap (λ (z : ℕ). bit_xor z (carryless (carryless (p / 2 ^ w) ratio / 2 ^ w) f)) (parts-of w p)

    reduced : rem w f p ≡ bit_xor p multiple
    unfolding multiple
    reduced =
        let m = carryless (carryless (p / 2 ^ w) ratio / 2 ^ w) f in
        ap (rem w f) (sym (ap (bit_xor m) (xor_comm p m) ∙ xor_cancel m p))
        ∙ rem_multiple w f degree (carryless (p / 2 ^ w) ratio / 2 ^ w) (bit_xor p m) ∙ rem_small w f degree (bit_xor p m) reduced-lt

pub barrett_is_remainder : BarrettIsRemainder
unfolding multiple
barrett_is_remainder width modulus ratio p degree is fits = reduced width modulus degree ratio is p fits

-- ---- by words

-- what has the quotient 1 by 2^w is x^w and its low bits
pub top-and-tail : (w f : ℕ) → HasDegree w f → f ≡ bit_xor (1 * 2 ^ w) (f % 2 ^ w)
top-and-tail w f degree = sym (parts-of w f) ∙ ap (λ (z : ℕ). bit_xor (z * 2 ^ w) (f % 2 ^ w)) degree

-- a product by such a number
carryless-top : (w q f : ℕ) → HasDegree w f → carryless q f ≡ bit_xor (q * 2 ^ w) (carryless q (f % 2 ^ w))
carryless-top w q f degree =
    ap (carryless q) (top-and-tail w f degree) ∙ carryless_sum q (1 * 2 ^ w) (f % 2 ^ w)
    ∙ ap (λ (z : ℕ). bit_xor z (carryless q (f % 2 ^ w))) (carryless_shl w q 1 ∙ ap (λ (z : ℕ). z * 2 ^ w) (carryless_one q))

-- the ratio has the degree of the modulus
ratio-degree : (w f ratio : ℕ) → HasDegree w f → IsRatio w f ratio → HasDegree w ratio
ratio-degree w f ratio degree is =
    let some = degree-some ratio nonzero in
    subst (λ (z : ℕ). HasDegree z ratio) (count some.0 (degree-unique (some.0 + w) (w + w) (carryless ratio f) (degree-product some.0 w ratio f some.1 degree) product)) some.1
  where
    count : (m : ℕ) → m + w ≡ w + w → m ≡ w
    count m e = omega arith

    power : HasDegree (w + w) (2 ^ (w + w))
    power = degree-of (w + w) (2 ^ (w + w)) (le_refl (2 ^ (w + w))) (pow-lt (omega arith))

    exact : (x y : ℕ) → bit_xor x y ≡ 2 ^ (w + w) → x ≡ bit_xor (2 ^ (w + w)) y
    exact x y e = sym (ap (λ (z : ℕ). bit_xor z y) (sym e) ∙ xor_assoc x y y ∙ ap (bit_xor x) (xor_self y) ∙ xor_zero_r x)

    rest-lt : is.rest < 2 ^ (w + w)
    rest-lt = lt_of_lt_of_le is.below (pow_mono (omega arith))

    product : HasDegree (w + w) (carryless ratio f)
    product =
        ap (λ (z : ℕ). z / 2 ^ (w + w)) (exact (carryless ratio f) is.rest is.parts)
        ∙ xor_shr (2 ^ (w + w)) is.rest (w + w) ∙ ap₂ bit_xor power (div-eq_of_lt rest-lt)

    nonzero : ratio ≢ 0
    nonzero none = degree-nonzero (w + w) (carryless ratio f) product (ap (λ (z : ℕ). carryless z f) none ∙ zero_carryless f)

pub barrett_by_words : BarrettByWords
unfolding quotient_by_tail
barrett_by_words w f ratio p degree is fits =
    let a = p / 2 ^ w in
    let q = carryless a ratio / 2 ^ w in
    let tail : q ≡ bit_xor a (carryless a (ratio % 2 ^ w) / 2 ^ w) =
    ap (λ (z : ℕ). z / 2 ^ w) (carryless-top w a ratio (ratio-degree w f ratio degree is))
    ∙ xor_shr (a * 2 ^ w) (carryless a (ratio % 2 ^ w)) w
    ∙ ap (λ (z : ℕ). bit_xor z (carryless a (ratio % 2 ^ w) / 2 ^ w)) (mul-div_cancel a (pow_pos w)) in
    barrett_is_remainder w f ratio p degree is fits
    ∙ sym (mod-eq_of_lt (subst (λ (z : ℕ). z < 2 ^ w) (barrett_is_remainder w f ratio p degree is fits) (rem_lt w f degree p)))
    ∙ ap (λ (z : ℕ). bit_xor p z % 2 ^ w) (carryless-top w q f degree)
    ∙ drop-top p q (carryless q (f % 2 ^ w))
    ∙ ap (λ (z : ℕ). bit_xor p (carryless z (f % 2 ^ w)) % 2 ^ w) tail
  where
    drop-top : (p q t : ℕ) → bit_xor p (bit_xor (q * 2 ^ w) t) % 2 ^ w ≡ bit_xor p t % 2 ^ w
    drop-top p q t =
        xor_mod p (bit_xor (q * 2 ^ w) t) w
        ∙ ap (bit_xor (p % 2 ^ w)) (xor_mod (q * 2 ^ w) t w ∙ ap (λ (z : ℕ). bit_xor z (t % 2 ^ w)) (mul-mod_left q (2 ^ w)) ∙ zero-xor (t % 2 ^ w))
        ∙ sym (xor_mod p t w)
      where
        zero-xor : (z : ℕ) → bit_xor 0 z ≡ z
        zero-xor z = xor_comm 0 z ∙ xor_zero_r z
