-- The remainder modulo x^w and a tail of low degree, where what spills past x^w is added before the high half is multiplied by the tail.
use Rattle.std.proofs.Common.{◌≡◌, ℕ, ◌+◌, ◌-◌, ◌*◌, ◌/◌, ◌%◌, ◌^◌, ◌<◌, ◌≤◌, sym, ◌∙◌, ap, ap₂, subst, arith, lit<, lit≤}
use Rattle.std.specs.Prelude.{bit_xor}
use Rattle.std.proofs.lemmas.Nat.{pow_pos, shr-shr, shr_high, shr_split, xor_block, xor_mod, xor_shr}
use Rattle.std.proofs.Math.Nat.{mul-add-mod_self_right, mul-div_cancel}
use native.Mathlib.Nat.{div-eq_of_lt, lt_of_lt_of_le, mod-eq_of_lt, mod-lt, pow-le-pow_right}
use lib.Bits.{xor_assoc, xor_zero_r, xor_shifted}
use Rattle.field_base.specs.Carryless.{carryless}
use Rattle.field_base.specs.Quadratic.{pair}
use Rattle.field_base.specs.Remainder.{HasDegree, mul_mod, rem}
use Rattle.field_base.proofs.CarrylessProduct.{carryless_lt, shl_carryless, sum_carryless}
use Rattle.field_base.proofs.RemainderRing.{mul_mod-rem, mul_mod_is_remainder}
use Rattle.word_carryless.proofs.TailFolds.{fold_twice}
use Rattle.bit_slices.specs.Tails.{IsTail, tail_product}

-- ---- the highest and the lowest part of halves of halves

-- from the bits of the low half on
pub top_of_pair : (w more low high : ℕ) → low < 2 ^ w → pair w low high / 2 ^ (w + more) ≡ high / 2 ^ more
top_of_pair w more low high fits = sym (shr-shr (pair w low high) w more) ∙ ap (λ (z : ℕ). z / 2 ^ more) (shr_high high w low fits)

-- what is added to the low half alone
pub lowest_of_pair : (w low high x : ℕ) → low < 2 ^ w → x < 2 ^ w → pair w (bit_xor low x) high ≡ bit_xor (pair w low high) x
lowest_of_pair w low high x fits x_fits =
    ap (λ (z : ℕ). z * 2 ^ w + bit_xor low x) (sym (xor_zero_r high)) ∙ sym (xor_block w high 0 low x fits x_fits)
    ∙ ap (bit_xor (pair w low high)) (omega arith)

-- a number of eight bits has w bits
eight_fit : (w x : ℕ) → 8 ≤ w → x < 2 ^ 8 → x < 2 ^ w
eight_fit w x wide fits = lt_of_lt_of_le fits (pow-le-pow_right (lit< tt) wide)

-- what is added to the lowest eight bits of 64
pub added_to_64 : (t0 t1 a b x r : ℕ) → t0 < 2 ^ 8 → pair 8 t0 t1 < 2 ^ 16 → pair 16 (pair 8 t0 t1) a < 2 ^ 32 → x < 2 ^ 8 → r ≡ bit_xor t0 x
    → pair 32 (pair 16 (pair 8 r t1) a) b ≡ bit_xor (pair 32 (pair 16 (pair 8 t0 t1) a) b) x
added_to_64 t0 t1 a b x r fits8 fits16 fits32 x_fits is =
    ap (λ (z : ℕ). pair 32 (pair 16 z a) b) (ap (λ (z : ℕ). pair 8 z t1) is ∙ lowest_of_pair 8 t0 t1 x fits8 x_fits)
    ∙ ap (λ (z : ℕ). pair 32 z b) (lowest_of_pair 16 (pair 8 t0 t1) a x fits16 (eight_fit 16 x (lit≤ tt) x_fits))
    ∙ lowest_of_pair 32 (pair 16 (pair 8 t0 t1) a) b x fits32 (eight_fit 32 x (lit≤ tt) x_fits)

-- and of 128
pub added_to_128 : (low high x r : ℕ) → low < 2 ^ 64 → x < 2 ^ 8 → r ≡ bit_xor low x → pair 64 r high ≡ bit_xor (pair 64 low high) x
added_to_128 low high x r fits x_fits is =
    ap (λ (z : ℕ). pair 64 z high) is ∙ lowest_of_pair 64 low high x fits (eight_fit 64 x (lit≤ tt) x_fits)

-- ---- the remainder

-- what the product by the tail has past x^w is what that of the highest eight terms has
spill_of_highest : (w tail high : ℕ) → tail < 2 ^ 8 → 8 + 8 ≤ w → tail_product tail (high / 2 ^ (w - 8)) 0 / 2 ^ 8 ≡ carryless high tail / 2 ^ w
spill_of_highest w tail high small wide =
    ap (λ (z : ℕ). z / 2 ^ 8) (xor_zero_r (carryless h1 tail))
    ∙ sym (ap (λ (n : ℕ). carryless high tail / 2 ^ n) (sym width) ∙ sym (shr-shr (carryless high tail) m 8)
    ∙ ap (λ (z : ℕ). z / 2 ^ 8) (ap (λ (z : ℕ). z / 2 ^ m) parts ∙ xor_shr (carryless h1 tail * 2 ^ m) (carryless h0 tail) m
    ∙ ap (λ (z : ℕ). bit_xor z (carryless h0 tail / 2 ^ m)) (mul-div_cancel (carryless h1 tail) (pow_pos m)))
    ∙ xor_shr (carryless h1 tail) (carryless h0 tail / 2 ^ m) 8
    ∙ ap (bit_xor (carryless h1 tail / 2 ^ 8)) (shr-shr (carryless h0 tail) m 8 ∙ div-eq_of_lt rest_fits)
    ∙ xor_zero_r (carryless h1 tail / 2 ^ 8))
  where
    m : ℕ
    m = w - 8

    width : m + 8 ≡ w
    width = omega (arith, wide)

    h1 : ℕ
    h1 = high / 2 ^ m

    h0 : ℕ
    h0 = high % 2 ^ m

    h0_fits : h0 < 2 ^ m
    h0_fits = mod-lt high (pow_pos m)

    parts : carryless high tail ≡ bit_xor (carryless h1 tail * 2 ^ m) (carryless h0 tail)
    parts =
        ap (λ (z : ℕ). carryless z tail) (sym (shr_split high m) ∙ sym (xor_shifted h1 m h0 h0_fits))
        ∙ sum_carryless (h1 * 2 ^ m) h0 tail ∙ ap (λ (z : ℕ). bit_xor z (carryless h0 tail)) (shl_carryless m h1 tail)

    rest_fits : carryless h0 tail < 2 ^ (m + 8)
    rest_fits = carryless_lt m 8 h0 tail h0_fits small

-- the low half and the product by the tail of the high half, to which the spill was added
pub reduced : {w modulus tail low high : ℕ} → IsTail w modulus tail → low < 2 ^ w → high < 2 ^ w
    → bit_xor low (tail_product tail (bit_xor high (tail_product tail (high / 2 ^ (w - 8)) 0 / 2 ^ 8)) 0 % 2 ^ w)
    ≡ rem w modulus (pair w low high)
reduced {w} {modulus} {tail} {low} {high} is low_fits high_fits =
    ap (λ (z : ℕ). bit_xor low (tail_product tail (bit_xor high z) 0 % 2 ^ w)) (spill_of_highest w tail high is.small is.wide)
    ∙ ap (bit_xor low)
    (ap (λ (z : ℕ). z % 2 ^ w) (xor_zero_r (carryless (bit_xor high spill) tail) ∙ sum_carryless high spill tail)
    ∙ xor_mod (carryless high tail) (carryless spill tail) w)
    ∙ sym (xor_assoc low (carryless high tail % 2 ^ w) (carryless spill tail % 2 ^ w))
    ∙ sym (fold_twice w tail (subst (HasDegree w) is.sum is.degree) 8 low high is.small is.wide low_fits high_fits)
    ∙ ap (λ (m : ℕ). rem w m (pair w low high)) (sym is.sum)
  where
    spill : ℕ
    spill = carryless high tail / 2 ^ w

-- the remainder of a product is the product modulo the polynomial
pub remainder_of_product : (w modulus low high : ℕ) {x y r : ℕ} → HasDegree w modulus → x < 2 ^ w → y < 2 ^ w → pair w low high ≡ carryless x y
    → r ≡ rem w modulus (pair w low high) → r ≡ mul_mod w modulus x y
remainder_of_product w modulus low high {x} {y} degree x_fits y_fits product is =
    is ∙ ap (rem w modulus) product ∙ sym (mul_mod-rem w modulus degree x y x_fits y_fits)

-- the product reads the low bits of wider numbers
pub low_bits_multiplied : (w modulus x y x0 x1 y0 y1 : ℕ) → x ≡ x1 * 2 ^ w + x0 → y ≡ y1 * 2 ^ w + y0 → mul_mod w modulus x0 y0 ≡ mul_mod w modulus x y
unfolding mul_mod
low_bits_multiplied w modulus x y x0 x1 y0 y1 x_is y_is =
    ap₂ (λ (a b : ℕ). rem w modulus (carryless a b)) (low x x0 x1 x_is) (low y y0 y1 y_is)
  where
    low : (n n0 n1 : ℕ) → n ≡ n1 * 2 ^ w + n0 → n0 % 2 ^ w ≡ n % 2 ^ w
    low n n0 n1 is = sym (ap (λ (z : ℕ). z % 2 ^ w) is ∙ mul-add-mod_self_right n1 (2 ^ w) n0)

-- the product of two numbers, cut to the bits of the word, is that of the words
pub product_of_numbers : {t w : ℕ} (modulus : ℕ) {x y a b r : ℕ} → t ≡ w → HasDegree (2 ^ t) modulus → r ≡ mul_mod (2 ^ t) modulus a b → a ≡ x → b ≡ y
    → r % 2 ^ 2 ^ w ≡ mul_mod (2 ^ w) modulus x y
product_of_numbers {t} {w} modulus {x} {y} {a} {b} {r} level degree is x_is y_is =
    ap (λ (z : ℕ). r % 2 ^ 2 ^ z) (sym level) ∙ ap (λ (z : ℕ). z % 2 ^ 2 ^ t) is
    ∙ mod-eq_of_lt (mul_mod_is_remainder (2 ^ t) modulus a b degree).below ∙ ap₂ (mul_mod (2 ^ t) modulus) x_is y_is
    ∙ ap (λ (z : ℕ). mul_mod (2 ^ z) modulus x y) level
