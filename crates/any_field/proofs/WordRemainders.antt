-- Bits of words, and remainders by words.
use Rattle.std.proofs.Common.{◌≡◌, ℕ, suc, ◌+◌, ◌-◌, ◌*◌, ◌/◌, ◌%◌, ◌^◌, ◌≤◌, ◌<◌, sym, ◌∙◌, ap, ap₂, subst, arith}
use Rattle.std.specs.Prelude.{bit_xor}
use Rattle.std.proofs.lemmas.Nat.{pow-add, pow_pos, div-add-mod', shr-shr, shr_below, shl_below, xor_comm, xor_lt, xor_mod, shl-shr, shr_high}
use Rattle.std.proofs.Math.Pow.{pow_mono, pow-lt}
use native.Mathlib.Nat.{mul-le-mul_left, mod-eq_of_lt, mul_assoc, mul-add-div_right, mul-add-mod_self_right, mod-lt, div-lt_iff_lt-mul, lt_of_lt_of_le, one-mul}
use lib.Bits.{xor_shifted}
use Rattle.field_base.specs.Carryless.{carryless}
use Rattle.field_base.specs.Remainder.{HasDegree, rem, mul_mod}
use Rattle.field_base.proofs.CarrylessProduct.{carryless_lt}
use Rattle.field_base.proofs.RingLemmas.{xor_cancel}
use Rattle.field_base.proofs.RemainderRing.{mul_mod-rem, mul_mod_ring}
use Rattle.field_base.specs.Ring.{IsRing}
use Rattle.field_base.specs.Powers.{repeated_square}
use Rattle.field_base.proofs.PowerLemmas.{repeated_square_more, repeated_square-lt}
use Rattle.any_field.specs.Barrett.{IsRatio, quotient_by_tail}
use Rattle.any_field.proofs.Barrett.{barrett_by_words}
use Rattle.any_field.specs.Contexts.{IsContext, with_top}

pub power-split : (w : ℕ) → w ≤ 128 → 2 ^ 128 ≡ 2 ^ w * 2 ^ (128 - w)
power-split w narrow = let sum : 128 ≡ w + (128 - w) = omega arith in ap (λ (n : ℕ). 2 ^ n) sum ∙ pow-add 2 w (128 - w)

-- a common factor of a number and of what divides it
pub scaled-mod : (x n k : ℕ) → 0 < n → 0 < k → x * k % (n * k) ≡ x % n * k
scaled-mod x n k n_some k_some =
    let less : x % n * k < n * k = mul-lt_right (x % n) n k k_some (mod-lt x n_some) in
    ap (λ (z : ℕ). z * k % (n * k)) (sym (div-add-mod' x n))
    ∙ ap (λ (z : ℕ). z % (n * k)) (add_mul (x / n * n) (x % n) k ∙ ap (λ (z : ℕ). z + x % n * k) (mul_assoc (x / n) n k))
    ∙ mul-add-mod_self_right (x / n) (n * k) (x % n * k) ∙ mod-eq_of_lt less
  where
    mul-lt_right : (a b k : ℕ) → 0 < k → a < b → a * k < b * k
    mul-lt_right a b k some less = omega (arith, mul-le-mul_left k (next a b less))
      where
        next : (a b : ℕ) → a < b → suc a ≤ b
        next a b less = omega arith

    add_mul : (a b k : ℕ) → (a + b) * k ≡ a * k + b * k
    add_mul a b k = omega arith

pub low_bits_are : (x w : ℕ) → 0 < w → w ≤ 128 → x * 2 ^ (128 - w) % 2 ^ 128 / 2 ^ (128 - w) ≡ x % 2 ^ w
low_bits_are x w wide narrow =
    ap (λ (z : ℕ). x * 2 ^ (128 - w) % z / 2 ^ (128 - w)) (power-split w narrow)
    ∙ ap (λ (z : ℕ). z / 2 ^ (128 - w)) (scaled-mod x (2 ^ w) (2 ^ (128 - w)) (pow_pos w) (pow_pos (128 - w))) ∙ shl-shr (x % 2 ^ w) (128 - w)

pub one_at : (k : ℕ) → k < 128 → 1 * 2 ^ k % 2 ^ 128 ≡ 2 ^ k
one_at k less = mod-eq_of_lt (subst (λ (z : ℕ). z < 2 ^ 128) (sym (one-mul (2 ^ k))) (pow-lt less)) ∙ one-mul (2 ^ k)

-- what is below 2^(2 w) has less than 2^w above 128 bits
high-below : (low high w : ℕ) → w ≤ 128 → high * 2 ^ 128 + low < 2 ^ (w + w) → high < 2 ^ w
high-below low high w narrow fits =
    let product : high * 2 ^ w ≤ high * 2 ^ 128 = mul-le-mul_left high (pow_mono narrow) in
    let less : high * 2 ^ w < 2 ^ w * 2 ^ w = subst (λ (z : ℕ). high * 2 ^ w < z) (pow-add 2 w w) (omega arith) in
    subst (λ (z : ℕ). z < 2 ^ w) (shl-shr high w) ((div-lt_iff_lt-mul (pow_pos w)).1 less)

pub high_bits_are : (low high w : ℕ) → low < 2 ^ 128 → 0 < w → w ≤ 128 → high * 2 ^ 128 + low < 2 ^ (w + w)
    → bit_xor (low / 2 ^ 1 / 2 ^ (w - 1)) (high * 2 ^ (128 - w) % 2 ^ 128) ≡ (high * 2 ^ 128 + low) / 2 ^ w
high_bits_are low high w low_fits wide narrow fits =
    let back : 1 + (w - 1) ≡ w = omega arith in
    let whole : 128 - w + w ≡ 128 = omega arith in
    let sum : w + (128 - w) ≡ 128 = omega arith in
    let high_fits : high * 2 ^ (128 - w) < 2 ^ 128 =
    subst (λ (z : ℕ). high * 2 ^ (128 - w) < 2 ^ z) sum (shl_below high w (128 - w) (high-below low high w narrow fits)) in
    let low_part : low / 2 ^ w < 2 ^ (128 - w) = shr_below low (128 - w) w (subst (λ (z : ℕ). low < 2 ^ z) (sym whole) low_fits) in
    ap₂ bit_xor (shr-shr low 1 (w - 1) ∙ ap (λ (z : ℕ). low / 2 ^ z) back) (mod-eq_of_lt high_fits)
    ∙ xor_comm (low / 2 ^ w) (high * 2 ^ (128 - w)) ∙ xor_shifted high (128 - w) (low / 2 ^ w) low_part
    ∙ sym (ap (λ (z : ℕ). (z + low) / 2 ^ w)
    (ap (λ (z : ℕ). high * z) (sym (ap (λ (z : ℕ). 2 ^ z) whole) ∙ pow-add 2 (128 - w) w) ∙ sym (mul_assoc high (2 ^ (128 - w)) (2 ^ w)))
    ∙ mul-add-div_right (pow_pos w) (high * 2 ^ (128 - w)) low)

-- ---- the modulus

pub top-degree : (w t : ℕ) → t < 2 ^ w → HasDegree w (with_top w t)
top-degree w t fits = ap (λ (z : ℕ). (z + t) / 2 ^ w) one ∙ shr_high 1 w t fits
  where
    one : 2 ^ w ≡ 1 * 2 ^ w
    one = omega arith

pub top-tail : (w t : ℕ) → t < 2 ^ w → with_top w t % 2 ^ w ≡ t
top-tail w t fits = ap (λ (z : ℕ). (z + t) % 2 ^ w) one ∙ mul-add-mod_self_right 1 (2 ^ w) t ∙ mod-eq_of_lt fits
  where
    one : 2 ^ w ≡ 1 * 2 ^ w
    one = omega arith

-- what is left of the division is the sum of the product and the power
pub context-ratio : (w t r : ℕ) → IsContext w t r → IsRatio w (with_top w t) (with_top w r)
context-ratio w t r context = record {
  rest = bit_xor (carryless (with_top w r) (with_top w t)) (2 ^ (w + w));
  below = context.rest_below;
  parts = xor_cancel (carryless (with_top w r) (with_top w t)) (2 ^ (w + w));
}

-- a product of elements has at most twice as many bits
pub product-fits : (x y w p : ℕ) → x < 2 ^ w → y < 2 ^ w → carryless x y ≡ p → p < 2 ^ (w + w)
product-fits x y w p x_fits y_fits is = subst (λ (z : ℕ). z < 2 ^ (w + w)) is (carryless_lt w w x y x_fits y_fits)

-- the steps of the reduction
pub reduced : (w t r low high above middle top quotient multiple spilled : ℕ) → IsContext w t r → high * 2 ^ 128 + low < 2 ^ (w + w)
    → above ≡ (high * 2 ^ 128 + low) / 2 ^ w → carryless above r ≡ top * 2 ^ 128 + middle
    → quotient ≡ bit_xor above ((top * 2 ^ 128 + middle) / 2 ^ w) → carryless quotient t ≡ spilled * 2 ^ 128 + multiple
    → bit_xor low multiple % 2 ^ w ≡ rem w (with_top w t) (high * 2 ^ 128 + low)
unfolding quotient_by_tail
reduced w t r low high above middle top quotient multiple spilled context fits above_is middle_is quotient_is multiple_is =
    let p = high * 2 ^ 128 + low in
    let same : quotient ≡ quotient_by_tail w (with_top w r) p =
    quotient_is
    ∙ ap₂ (λ (x y : ℕ). bit_xor x (y / 2 ^ w)) above_is
    (sym middle_is ∙ ap₂ carryless above_is (sym (top-tail w r context.ratio_below))) in
    xor_mod low multiple w
    ∙ ap₂ bit_xor (low-part low high) (low-part multiple spilled ∙ ap (λ (z : ℕ). z % 2 ^ w) (sym multiple_is))
    ∙ sym (xor_mod p (carryless quotient t) w)
    ∙ ap₂ (λ (x y : ℕ). bit_xor p (carryless x y) % 2 ^ w) same (sym (top-tail w t context.tail_below))
    ∙ sym (barrett_by_words w (with_top w t) (with_top w r) p (top-degree w t context.tail_below) (context-ratio w t r context) fits)
  where
    low-part : (low high : ℕ) → low % 2 ^ w ≡ (high * 2 ^ 128 + low) % 2 ^ w
    low-part low high =
        let sum : 128 ≡ 128 - w + w = omega (arith, context.narrow) in
        sym (ap (λ (z : ℕ). (z + low) % 2 ^ w)
        (ap (λ (z : ℕ). high * 2 ^ z) sum ∙ ap (λ (z : ℕ). high * z) (pow-add 2 (128 - w) w) ∙ sym (mul_assoc high (2 ^ (128 - w)) (2 ^ w)))
        ∙ mul-add-mod_self_right (high * 2 ^ (128 - w)) (2 ^ w) low)

-- ---- a width up to that of a word

-- an element is a word of so many bits
pub word-fits : (w n x : ℕ) → w ≤ n → x < 2 ^ w → x < 2 ^ n
word-fits w n x narrow fits = lt_of_lt_of_le fits (pow_mono narrow)

module _ (w n t r p middle : ℕ) (context : IsContext w t r) (narrow : w ≤ n) (fits : p < 2 ^ (w + w)) (middle_is : middle ≡ carryless (p / 2 ^ w) r) where
  above-lt : p / 2 ^ w < 2 ^ w
  above-lt = shr_below p w w fits

  quotient-lt : bit_xor (p / 2 ^ w) (middle / 2 ^ w) < 2 ^ w
  quotient-lt =
      xor_lt w (p / 2 ^ w) (middle / 2 ^ w) above-lt
      (shr_below middle w w (product-fits (p / 2 ^ w) r w middle above-lt context.ratio_below (sym middle_is)))

  pub quotient-word : bit_xor (p / 2 ^ w) (middle / 2 ^ w) < 2 ^ n
  quotient-word = word-fits w n (bit_xor (p / 2 ^ w) (middle / 2 ^ w)) narrow quotient-lt

  -- a double word without a high one
  alone : (x : ℕ) → 0 * 2 ^ 128 + x ≡ x
  alone x = omega arith

  -- the steps of the reduction
  pub word-reduced : (multiple : ℕ) → multiple ≡ carryless (bit_xor (p / 2 ^ w) (middle / 2 ^ w)) t
      → bit_xor p multiple % 2 ^ w ≡ rem w (with_top w t) p
  word-reduced multiple multiple_is =
      reduced w t r p 0 (p / 2 ^ w) middle 0 (bit_xor (p / 2 ^ w) (middle / 2 ^ w)) multiple 0 context
      (subst (λ (z : ℕ). z < 2 ^ (w + w)) (sym (alone p)) fits) (ap (λ (z : ℕ). z / 2 ^ w) (sym (alone p))) (sym middle_is ∙ sym (alone middle))
      (ap (λ (z : ℕ). bit_xor (p / 2 ^ w) (z / 2 ^ w)) (sym (alone middle))) (sym multiple_is ∙ sym (alone multiple))
      ∙ ap (rem w (with_top w t)) (alone p)

pub above-word : (w n p : ℕ) → w ≤ n → p < 2 ^ (w + w) → p / 2 ^ w < 2 ^ n
above-word w n p narrow fits = word-fits w n (p / 2 ^ w) narrow (shr_below p w w fits)

pub multiplied : (w t x y p : ℕ) → t < 2 ^ w → x < 2 ^ w → y < 2 ^ w → carryless x y ≡ p
    → rem w (with_top w t) p ≡ mul_mod w (with_top w t) x y
multiplied w t x y p fits x_fits y_fits is =
    sym (mul_mod-rem w (with_top w t) (top-degree w t fits) x y x_fits y_fits ∙ ap (rem w (with_top w t)) is)

pub above-fits : (w low high above : ℕ) → high * 2 ^ 128 + low < 2 ^ (w + w) → above ≡ (high * 2 ^ 128 + low) / 2 ^ w → above < 2 ^ w
above-fits w low high above fits is = subst (λ (z : ℕ). z < 2 ^ w) (sym is) (shr_below (high * 2 ^ 128 + low) w w fits)

pub context-ring : (w t r : ℕ) → IsContext w t r → IsRing w 1 (mul_mod w (with_top w t))
context-ring w t r context = mul_mod_ring w (with_top w t) context.wide (top-degree w t context.tail_below)

-- one squaring more
pub squared-more : (w t r n x moved next : ℕ) → IsContext w t r → moved ≡ repeated_square 1 (mul_mod w (with_top w t)) n x
    → next ≡ mul_mod w (with_top w t) moved moved
    → (next ≡ repeated_square 1 (mul_mod w (with_top w t)) (n + 1) x) × (next < 2 ^ w)
squared-more w t r n x moved next context moved_is next_is =
    let ring = context-ring w t r context in
    let same : next ≡ repeated_square 1 (mul_mod w (with_top w t)) (n + 1) x =
    next_is ∙ ap (λ (z : ℕ). mul_mod w (with_top w t) z z) moved_is ∙ sym (repeated_square_more w 1 (mul_mod w (with_top w t)) ring n x) in
    (same, subst (λ (z : ℕ). z < 2 ^ w) (sym same) (repeated_square-lt w 1 (mul_mod w (with_top w t)) ring (n + 1) x))
