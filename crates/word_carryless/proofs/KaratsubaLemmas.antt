-- Karatsuba's rule for the carryless product: a product of twice the width by three of the width.
use Rattle.std.proofs.Common.{◌≡◌, ℕ, ◌+◌, ◌*◌, ◌/◌, ◌%◌, ◌^◌, ◌<◌, sym, ◌∙◌, ap, ap₂, lit≤}
use Rattle.std.specs.Prelude.{bit_xor}
use Rattle.std.proofs.lemmas.Nat.{xor_comm, xor_lt, shl_whole, shl_below, mod_low, pow-add, pow_pos, shr_split}
use native.Mathlib.Nat.{add-mul, mod-lt, mod-eq_of_lt, mul_assoc}
use lib.Bits.{xor_assoc, xor_self, xor_shifted}
use Rattle.field_base.specs.Carryless.{carryless}
use Rattle.word_carryless.specs.Karatsuba.{karatsuba_sum}
use Rattle.word_carryless.proofs.Halves.{split_xor}
use Rattle.field_base.proofs.RingLemmas.{xor_left_comm, xor_cancel}
use Rattle.field_base.proofs.CarrylessProduct.{xor_shl, carryless_sum, sum_carryless, carryless_shl, shl_carryless, carryless_lt}

-- ---- the rule

-- the product of the sums of halves, less the products of the halves, is the product of each half by the other
pub middle_product : (x0 x1 y0 y1 : ℕ)
    → bit_xor (bit_xor (carryless (bit_xor x0 x1) (bit_xor y0 y1)) (carryless x0 y0)) (carryless x1 y1)
    ≡ bit_xor (carryless x0 y1) (carryless x1 y0)
middle_product x0 x1 y0 y1 =
    simp (sum_carryless, carryless_sum, xor_assoc, xor_comm, xor_left_comm, xor_self, xor_cancel)

-- the products of the halves, low by high
crossed : (w x0 x1 y0 y1 : ℕ) → carryless (bit_xor x0 (x1 * 2 ^ w)) (bit_xor y0 (y1 * 2 ^ w))
    ≡ bit_xor (carryless x0 y0) (bit_xor (bit_xor (carryless x0 y1) (carryless x1 y0) * 2 ^ w) (carryless x1 y1 * 2 ^ w * 2 ^ w))
crossed w x0 x1 y0 y1 =
    sum_carryless x0 (x1 * 2 ^ w) (bit_xor y0 (y1 * 2 ^ w))
    ∙ ap₂ bit_xor
    (carryless_sum x0 y0 (y1 * 2 ^ w) ∙ ap (bit_xor (carryless x0 y0)) (carryless_shl w x0 y1))
    (carryless_sum (x1 * 2 ^ w) y0 (y1 * 2 ^ w)
    ∙ ap₂ bit_xor (shl_carryless w x1 y0) (carryless_shl w (x1 * 2 ^ w) y1 ∙ ap (λ (z : ℕ). z * 2 ^ w) (shl_carryless w x1 y1)))
    ∙ xor_assoc (carryless x0 y0) (carryless x0 y1 * 2 ^ w) (bit_xor (carryless x1 y0 * 2 ^ w) (carryless x1 y1 * 2 ^ w * 2 ^ w))
    ∙ ap (bit_xor (carryless x0 y0))
    (sym (xor_assoc (carryless x0 y1 * 2 ^ w) (carryless x1 y0 * 2 ^ w) (carryless x1 y1 * 2 ^ w * 2 ^ w))
    ∙ ap (λ (z : ℕ). bit_xor z (carryless x1 y1 * 2 ^ w * 2 ^ w)) (xor_shl w (carryless x0 y1) (carryless x1 y0)))

-- (x0 + x1 X)(y0 + y1 X) = x0 y0 + ((x0 + x1)(y0 + y1) + x0 y0 + x1 y1) X + x1 y1 X², where X is the shift by w places
pub karatsuba : (w x0 x1 y0 y1 : ℕ) → carryless (bit_xor x0 (x1 * 2 ^ w)) (bit_xor y0 (y1 * 2 ^ w))
    ≡ bit_xor (carryless x0 y0)
    (bit_xor
    (bit_xor (bit_xor (carryless (bit_xor x0 x1) (bit_xor y0 y1)) (carryless x0 y0)) (carryless x1 y1) * 2 ^ w)
    (carryless x1 y1 * 2 ^ w * 2 ^ w))
karatsuba w x0 x1 y0 y1 =
    crossed w x0 x1 y0 y1
    ∙ ap (λ (z : ℕ). bit_xor (carryless x0 y0) (bit_xor (z * 2 ^ w) (carryless x1 y1 * 2 ^ w * 2 ^ w)))
    (sym (middle_product x0 x1 y0 y1))

-- the product from the three: of the low halves, of the high halves, and of the sums
pub carryless_halves : (w x y x0 x1 y0 y1 low high both : ℕ) → x0 < 2 ^ w → y0 < 2 ^ w
    → x ≡ x1 * 2 ^ w + x0 → y ≡ y1 * 2 ^ w + y0 → low ≡ carryless x0 y0 → high ≡ carryless x1 y1
    → both ≡ carryless (bit_xor x0 x1) (bit_xor y0 y1) → carryless x y ≡ karatsuba_sum w low high both
carryless_halves w x y x0 x1 y0 y1 low high both x0_fits y0_fits of_x of_y of_low of_high of_both =
    ap₂ carryless (split_xor w x x0 x1 x0_fits of_x) (split_xor w y y0 y1 y0_fits of_y)
    ∙ karatsuba w x0 x1 y0 y1
    ∙ sym (ap₂ bit_xor of_low
    (ap₂ bit_xor
    (ap (λ (z : ℕ). z * 2 ^ w) (ap₂ bit_xor (ap₂ bit_xor of_both of_low) of_high))
    (ap (λ (z : ℕ). z * 2 ^ w * 2 ^ w) of_high)))

-- ---- as the code joins the three

-- a product of half words is a word
pub carryless_32 : (x y : ℕ) → x < 2 ^ 32 → y < 2 ^ 32 → carryless x y % 2 ^ 64 ≡ carryless x y
carryless_32 x y x_fits y_fits = mod-eq_of_lt (carryless_lt 32 32 x y x_fits y_fits)

-- the sum of Karatsuba's rule in a double word
pub joined_64 : (low high both : ℕ) → low < 2 ^ 64 → high < 2 ^ 64 → both < 2 ^ 64
    → bit_xor (bit_xor (high * 2 ^ 64 % 2 ^ 128) (bit_xor (bit_xor both low) high * 2 ^ 32 % 2 ^ 128)) low
    ≡ karatsuba_sum 32 low high both
joined_64 low high both low_fits high_fits both_fits =
    ap₂ (λ (a b : ℕ). bit_xor (bit_xor a b) low)
    (shl_whole high 64 64 128 high_fits (lit≤ tt) ∙ sym (mul_assoc high (2 ^ 32) (2 ^ 32)))
    (shl_whole (bit_xor (bit_xor both low) high) 64 32 128
    (xor_lt 64 (bit_xor both low) high (xor_lt 64 both low both_fits low_fits) high_fits) (lit≤ tt))
    ∙ xor_comm (bit_xor (high * 2 ^ 32 * 2 ^ 32) (bit_xor (bit_xor both low) high * 2 ^ 32)) low
    ∙ ap (bit_xor low) (xor_comm (high * 2 ^ 32 * 2 ^ 32) (bit_xor (bit_xor both low) high * 2 ^ 32))

-- a product of words, from the sum
pub carryless_64 : (x y x0 x1 y0 y1 low high both r : ℕ) → x0 < 2 ^ 32 → y0 < 2 ^ 32
    → x ≡ x1 * 2 ^ 32 + x0 → y ≡ y1 * 2 ^ 32 + y0 → low ≡ carryless x0 y0 → high ≡ carryless x1 y1
    → both ≡ carryless (bit_xor x0 x1) (bit_xor y0 y1) → r ≡ karatsuba_sum 32 low high both → r ≡ carryless x y
carryless_64 x y x0 x1 y0 y1 low high both r x0_fits y0_fits of_x of_y of_low of_high of_both of_sum =
    of_sum ∙ sym (carryless_halves 32 x y x0 x1 y0 y1 low high both x0_fits y0_fits of_x of_y of_low of_high of_both)

-- a shift by twice a half
twice_up : (w m : ℕ) → m * 2 ^ w * 2 ^ w ≡ m * 2 ^ (w + w)
twice_up w m = mul_assoc m (2 ^ w) (2 ^ w) ∙ ap (λ (z : ℕ). m * z) (sym (pow-add 2 w w))

-- a shift by a half, as what stays in the two halves and what leaves them
shift_parts : (w m : ℕ) → m * 2 ^ w ≡ bit_xor (m / 2 ^ w * 2 ^ (w + w)) (m * 2 ^ w % 2 ^ (w + w))
shift_parts w m =
    whole ∙ sym (xor_shifted (m / 2 ^ w) (w + w) (m % 2 ^ w * 2 ^ w) fits)
    ∙ ap (bit_xor (m / 2 ^ w * 2 ^ (w + w)))
    (sym (ap (λ (z : ℕ). z % 2 ^ (w + w)) whole ∙ mod_low (m / 2 ^ w) (w + w) (m % 2 ^ w * 2 ^ w) fits))
  where
    whole : m * 2 ^ w ≡ m / 2 ^ w * 2 ^ (w + w) + m % 2 ^ w * 2 ^ w
    whole =
        ap (λ (z : ℕ). z * 2 ^ w) (sym (shr_split m w)) ∙ add-mul (m / 2 ^ w * 2 ^ w) (m % 2 ^ w) (2 ^ w)
        ∙ ap (λ (z : ℕ). z + m % 2 ^ w * 2 ^ w) (twice_up w (m / 2 ^ w))

    fits : m % 2 ^ w * 2 ^ w < 2 ^ (w + w)
    fits = shl_below (m % 2 ^ w) w w (mod-lt m (pow_pos w))

-- the three products of Karatsuba's rule, joined into two parts of twice the width
pub joined_halves : (w low middle high : ℕ) → low < 2 ^ (w + w)
    → bit_xor low (bit_xor (middle * 2 ^ w) (high * 2 ^ w * 2 ^ w))
    ≡ bit_xor high (middle / 2 ^ w) * 2 ^ (w + w) + bit_xor low (middle * 2 ^ w % 2 ^ (w + w))
joined_halves w low middle high low_fits =
    ap₂ (λ (a b : ℕ). bit_xor low (bit_xor a b)) (shift_parts w middle) (twice_up w high)
    ∙ placed low (middle / 2 ^ w * 2 ^ (w + w)) (middle * 2 ^ w % 2 ^ (w + w)) (high * 2 ^ (w + w))
    ∙ ap (λ (z : ℕ). bit_xor z (bit_xor low (middle * 2 ^ w % 2 ^ (w + w)))) (xor_shl (w + w) high (middle / 2 ^ w))
    ∙ xor_shifted (bit_xor high (middle / 2 ^ w)) (w + w) (bit_xor low (middle * 2 ^ w % 2 ^ (w + w)))
    (xor_lt (w + w) low (middle * 2 ^ w % 2 ^ (w + w)) low_fits (mod-lt (middle * 2 ^ w) (pow_pos (w + w))))
  where
    placed : (a b c d : ℕ) → bit_xor a (bit_xor (bit_xor b c) d) ≡ bit_xor (bit_xor d b) (bit_xor a c)
    placed a b c d = simp (xor_assoc, xor_comm, xor_left_comm)

-- the carryless product of two double words, in two double words, from three products of words
pub carryless_128 : (x y x0 x1 y0 y1 low high both : ℕ) → x0 < 2 ^ 64 → y0 < 2 ^ 64 → low < 2 ^ 128
    → x ≡ x1 * 2 ^ 64 + x0 → y ≡ y1 * 2 ^ 64 + y0 → low ≡ carryless x0 y0 → high ≡ carryless x1 y1
    → both ≡ carryless (bit_xor x0 x1) (bit_xor y0 y1) → carryless x y ≡ bit_xor high (bit_xor (bit_xor both low) high / 2 ^ 64) * 2 ^ 128
    + bit_xor low (bit_xor (bit_xor both low) high * 2 ^ 64 % 2 ^ 128)
carryless_128 x y x0 x1 y0 y1 low high both x0_fits y0_fits low_fits of_x of_y of_low of_high of_both =
    carryless_halves 64 x y x0 x1 y0 y1 low high both x0_fits y0_fits of_x of_y of_low of_high of_both
    ∙ joined_halves 64 low (bit_xor (bit_xor both low) high) high low_fits
