-- The product of GCM is that of the field of GHASH with the bits of blocks reversed.
use Rattle.std.proofs.Common.{◌≡◌, ℕ, zero, suc, ◌+◌, ◌-◌, ◌*◌, ◌/◌, ◌%◌, ◌^◌, ◌<◌, ◌≤◌, refl, sym, ◌∙◌, ap, ap₂, arith, lit≤}
use Rattle.std.specs.Prelude.{bit_xor}
use Rattle.std.specs.Int.{bit_at, reverse_bits_onto}
use Rattle.std.proofs.lemmas.Nat.{xor_comm, pow_pos}
use Rattle.std.proofs.Math.Pow.{pow_mono}
use Rattle.std.proofs.Math.Nat.{div-div-eq-div-mul}
use native.Mathlib.Nat.{mod-lt, add-zero, pow-suc, div-one, div-eq_of_lt}
use lib.Bits.{xor_shifted}
use Rattle.field_base.specs.Powers.{power}
use Rattle.field_base.specs.Remainder.{mul_mod, rem, rem_in, ghash_modulus}
use Rattle.field_base.specs.Carryless.{carryless, carryless_in}
use Rattle.field_base.proofs.CarrylessProduct.{bit_cases}
use Rattle.field_base.proofs.RemainderRing.{ghash_ring}
use Rattle.tags.specs.Gcm.{gcm_product, r_block, shifted}
use Rattle.tags.specs.Reversed.{ghash_times, GcmProductIsReversed}
use Rattle.tags.proofs.ReversedBits.{reversed, reversed_xor, reversed_front, reversed_back, reversed-lt, reversed_low, reversed_twice}
use Rattle.tags.proofs.Steps.{two-times, weight, z_image, z_step-lt}

-- ---- a shift is a product by x

-- R is x^7 + x^2 + x + 1
reversed-r : reversed 128 r_block ≡ 0x87
unfolding reverse_bits_onto
reversed-r = refl

-- x^128 is that too
two-times_top : ghash_times 2 (2 ^ 127) ≡ 0x87
unfolding mul_mod rem carryless rem_in carryless_in
two-times_top = refl

-- 0 reversed
pub reversed-zero : reversed 128 0 ≡ 0
unfolding reverse_bits_onto
reversed-zero = refl

two-times_zero : ghash_times 2 0 ≡ 0
unfolding mul_mod rem carryless rem_in carryless_in
two-times_zero = refl

-- the next V is the one before it times x
pub shifted_image : (v : ℕ) → v < 2 ^ 128 → reversed 128 (shifted v) ≡ ghash_times 2 (reversed 128 v)
shifted_image v fits =
    let rest : ℕ = reversed 127 (v / 2) in
    let rest_fits : rest < 2 ^ 127 = reversed-lt 127 (v / 2) in
    let half : v / 2 < 2 ^ 127 = omega (arith, fits) in
    let top : bit_at (v / 2) 127 ≡ 0 = ap (λ (z : ℕ). z % 2) (div-eq_of_lt half) in
    reversed_xor 128 (v / 2) (v % 2 * r_block)
    ∙ ap₂ bit_xor
    (reversed_back 127 (v / 2) ∙ ap (λ (z : ℕ). rest * 2 + z) top ∙ add-zero (rest * 2)
    ∙ sym (two-times ghash_modulus refl rest rest_fits))
    (bit_cases (λ d. reversed 128 (d * r_block) ≡ ghash_times 2 (d * 2 ^ 127)) (reversed-zero ∙ sym two-times_zero)
    (reversed-r ∙ sym two-times_top) v)
    ∙ xor_comm (ghash_times 2 rest) (ghash_times 2 (v % 2 * 2 ^ 127))
    ∙ sym (ap (ghash_times 2) (reversed_front 127 v ∙ sym (xor_shifted (v % 2) 127 rest rest_fits))
    ∙ ghash_ring.over_sum 2 (v % 2 * 2 ^ 127) rest)

-- ---- the sum of the powers of x at the set bits of a block

power_two : (n : ℕ) → n < 128 → power 1 ghash_times 2 n ≡ 2 ^ n
unfolding power
power_two zero few = refl
power_two (suc n) few =
    ap (λ (z : ℕ). ghash_times z 2) (power_two n (omega (arith, few)))
    ∙ ghash_ring.comm (2 ^ n) 2
    ∙ two-times ghash_modulus refl (2 ^ n) (lower n (omega (arith, few)))
    ∙ sym (pow-suc 2 n)
  where
    lower : (n : ℕ) → n < 127 → 2 ^ n < 2 ^ 127
    lower n few = omega (arith, pow_mono {i = suc n} {j = 127} few, pow-suc 2 n, pow_pos n)

-- no bits, reversed
no_bits : (n : ℕ) → 0 ≡ reversed 0 n
unfolding reverse_bits_onto
no_bits n = refl

-- the first n bits of a block, reversed
weight_reversed : (n x : ℕ) → n ≤ 128 → weight ghash_times 2 n x ≡ reversed n (x / 2 ^ (128 - n))
unfolding weight
weight_reversed zero x few = no_bits (x / 2 ^ 128)
weight_reversed (suc n) x few =
    let q : ℕ = x / 2 ^ (127 - n) in
    let same : 128 - suc n ≡ 127 - n = omega arith in
    let next : x / 2 ^ (128 - n) ≡ q / 2 = halved n (omega (arith, few)) in
    ap₂ bit_xor (weight_reversed n x (omega (arith, few)) ∙ ap (reversed n) next)
    (ap (λ (z : ℕ). bit_at x (127 - n) * z) (power_two n (omega (arith, few))))
    ∙ xor_comm (reversed n (q / 2)) (q % 2 * 2 ^ n)
    ∙ xor_shifted (q % 2) n (reversed n (q / 2)) (reversed-lt n (q / 2))
    ∙ sym (reversed_front n q) ∙ ap (λ (z : ℕ). reversed (suc n) (x / 2 ^ z)) (sym same)
  where
    halved : (n : ℕ) → n < 128 → x / 2 ^ (128 - n) ≡ x / 2 ^ (127 - n) / 2
    halved n few =
        let exponent : 128 - n ≡ suc (127 - n) = omega (arith, few) in
        ap (λ (z : ℕ). x / 2 ^ z) exponent ∙ ap (λ (z : ℕ). x / z) (pow-suc 2 (127 - n))
        ∙ sym (div-div-eq-div-mul x (2 ^ (127 - n)) 2)

-- ---- the product

-- the standard's product, reversed
pub gcm_product_image : (x y : ℕ) → reversed 128 (gcm_product x y) ≡ ghash_times (reversed 128 x) (reversed 128 y)
unfolding gcm_product
gcm_product_image x y =
    z_image ghash_times ghash_ring 2 (reversed 128) (reversed_xor 128) reversed-zero (λ a fits. reversed-lt 128 a) shifted_image
    128 x (y % 2 ^ 128) (mod-lt y (pow_pos 128))
    ∙ ap₂ ghash_times (weight_reversed 128 x (lit≤ tt) ∙ ap (reversed 128) (div-one x)) (reversed_low 128 y)

-- a product is a block
pub gcm_product-lt : (x y : ℕ) → gcm_product x y < 2 ^ 128
unfolding gcm_product
gcm_product-lt x y = z_step-lt 128 x (y % 2 ^ 128) (mod-lt y (pow_pos 128))

pub gcm_product_is_reversed : GcmProductIsReversed
gcm_product_is_reversed x y =
    sym (reversed_twice 128 (gcm_product x y) (gcm_product-lt x y)) ∙ ap (reversed 128) (gcm_product_image x y)
