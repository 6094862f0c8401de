-- The product of POLYVAL is the standard's product of GCM times x, and so that of the field of GHASH with the bits reversed.
use Rattle.std.proofs.Common.{◌≡◌, ℕ, zero, suc, ◌-◌, ◌*◌, ◌/◌, ◌%◌, ◌^◌, ◌<◌, ◌≤◌, refl, sym, ◌∙◌, ap, ap₂, arith, lit<, lit≤}
use Rattle.std.specs.Prelude.{bit_xor}
use Rattle.std.specs.Int.{bit_at}
use Rattle.std.proofs.lemmas.Nat.{xor_comm, pow_pos, shr_le}
use Rattle.std.proofs.Math.Nat.{div-div-eq-div-mul}
use native.Mathlib.Nat.{mod-lt, mod-eq_of_lt, zero-mul, one-mul, pow-suc, div-one, div-eq_of_lt}
use Rattle.field_base.specs.Powers.{power}
use Rattle.field_base.specs.Ring.{IsRing}
use Rattle.field_base.specs.Remainder.{mul_mod, rem, rem_in}
use Rattle.field_base.specs.Carryless.{carryless, carryless_in}
use Rattle.field_base.proofs.CarrylessProduct.{bit_cases, xor_split}
use Rattle.field_base.proofs.PowerLemmas.{power-lt}
use Rattle.field_base.proofs.RemainderRing.{mul_mod_ring}
use Rattle.field_base.proofs.RingLemmas.{times-zero, zero-times, times_left_comm, sum_times, times-mod, mod-times}
use Rattle.tags.specs.Gcm.{gcm_product, r_block, shifted, z_step}
use Rattle.tags.specs.Polyval.{dot, inverse_of_x_128, polyval_modulus}
use Rattle.tags.specs.Reversed.{ghash_times, DotIsReversed}
use Rattle.tags.proofs.ReversedBits.{reversed, reversed_low, reversed_twice}
use Rattle.tags.proofs.Steps.{two-times, weight, z_image, shifted-lt}
use Rattle.tags.proofs.GcmProduct.{gcm_product_image, gcm_product-lt, shifted_image}

-- the product of the field of POLYVAL
abbrev polyval_times : ℕ → ℕ → ℕ
polyval_times a b = mul_mod 128 polyval_modulus a b

polyval_ring : IsRing 128 1 polyval_times
polyval_ring = mul_mod_ring 128 polyval_modulus (lit< tt) refl

-- ---- a shift is a product by the inverse of x, which is R

two-times_r : polyval_times 2 r_block ≡ 1
unfolding mul_mod rem carryless rem_in carryless_in
two-times_r = refl

-- the inverse of x to the power 128
power_r : power 1 polyval_times r_block 128 ≡ inverse_of_x_128
unfolding power mul_mod rem carryless rem_in carryless_in
power_r = refl

-- x times the next V is the one before it
two-times_shifted : (v : ℕ) → v < 2 ^ 128 → polyval_times 2 (shifted v) ≡ v
two-times_shifted v fits =
    polyval_ring.over_sum 2 (v / 2) (v % 2 * r_block)
    ∙ ap₂ bit_xor (two-times polyval_modulus refl (v / 2) (omega (arith, fits)))
    (bit_cases (λ d. polyval_times 2 (d * r_block) ≡ d) (times-zero 128 1 polyval_times polyval_ring 2) two-times_r v)
    ∙ xor_comm (v / 2 * 2) (v % 2) ∙ xor_split v

-- x times R times a is a
r_cancels : (a : ℕ) → a < 2 ^ 128 → polyval_times r_block (polyval_times 2 a) ≡ a
r_cancels a fits =
    sym (polyval_ring.assoc r_block 2 a)
    ∙ ap (λ (z : ℕ). polyval_times z a) (polyval_ring.comm r_block 2 ∙ two-times_r)
    ∙ polyval_ring.one a ∙ mod-eq_of_lt fits

pub shifted_times : (v : ℕ) → v < 2 ^ 128 → shifted v ≡ polyval_times r_block v
shifted_times v fits =
    sym (ap (polyval_times r_block) (sym (two-times_shifted v fits)) ∙ r_cancels (shifted v) (shifted-lt v fits))

-- ---- the sum of the powers of R at the set bits of a block

-- 2 q times p R is q p
pair_cancels : (q p : ℕ) → polyval_times (polyval_times 2 q) (polyval_times p r_block) ≡ polyval_times q p
pair_cancels q p =
    ap₂ polyval_times (polyval_ring.comm 2 q) (polyval_ring.comm p r_block)
    ∙ polyval_ring.assoc q 2 (polyval_times r_block p)
    ∙ ap (polyval_times q) (sym (polyval_ring.assoc 2 r_block p)
    ∙ ap (λ (z : ℕ). polyval_times z p) two-times_r ∙ polyval_ring.one p)
    ∙ times-mod 128 1 polyval_times polyval_ring q p

-- the first n bits of a block x are those of x divided by R^n, times x
weight_power : (n x : ℕ) → n ≤ 128 → x < 2 ^ 128
    → weight polyval_times r_block n x ≡ polyval_times (polyval_times 2 (x / 2 ^ (128 - n))) (power 1 polyval_times r_block n)
unfolding weight power
weight_power zero x few fits =
    sym (ap (λ (z : ℕ). polyval_times (polyval_times 2 z) 1) (div-eq_of_lt fits)
    ∙ ap (λ (z : ℕ). polyval_times z 1) (times-zero 128 1 polyval_times polyval_ring 2)
    ∙ zero-times 128 1 polyval_times polyval_ring 1)
weight_power (suc n) x few fits =
    let few' : n < 128 = omega (arith, few) in
    let q : ℕ = x / 2 ^ (127 - n) in
    let p : ℕ = power 1 polyval_times r_block n in
    let p_fits : p < 2 ^ 128 = power-lt 128 1 polyval_times polyval_ring (lit< tt) r_block n in
    let same : 127 - n ≡ 128 - suc n = omega arith in
    let q_fits : q < 2 ^ 128 = whole (127 - n) in
    let earlier : weight polyval_times r_block n x ≡ polyval_times (q / 2 * 2) p =
    weight_power n x (omega (arith, few)) fits
    ∙ ap (λ (z : ℕ). polyval_times (polyval_times 2 z) p) (halved n few')
    ∙ ap (λ (z : ℕ). polyval_times z p) (two-times polyval_modulus refl (q / 2) (omega (arith, q_fits))) in
    let added : bit_at x (127 - n) * p ≡ polyval_times (q % 2) p =
    bit_cases (λ d. d * p ≡ polyval_times d p) (zero-mul p ∙ sym (zero-times 128 1 polyval_times polyval_ring p))
    (one-mul p ∙ sym (polyval_ring.one p ∙ mod-eq_of_lt p_fits)) q in
    ap₂ bit_xor earlier added ∙ xor_comm (polyval_times (q / 2 * 2) p) (polyval_times (q % 2) p)
    ∙ sym (sum_times 128 1 polyval_times polyval_ring (q % 2) (q / 2 * 2) p)
    ∙ ap (λ (z : ℕ). polyval_times z p) (xor_split q)
    ∙ sym (pair_cancels q p)
    ∙ ap (λ (z : ℕ). polyval_times (polyval_times 2 (x / 2 ^ z)) (polyval_times p r_block)) same
  where
    whole : (k : ℕ) → x / 2 ^ k < 2 ^ 128
    whole k = omega (arith, fits, shr_le x k)

    halved : (n : ℕ) → n < 128 → x / 2 ^ (128 - n) ≡ x / 2 ^ (127 - n) / 2
    halved n few =
        let exponent : 128 - n ≡ suc (127 - n) = omega (arith, few) in
        ap (λ (z : ℕ). x / 2 ^ z) exponent ∙ ap (λ (z : ℕ). x / z) (pow-suc 2 (127 - n))
        ∙ sym (div-div-eq-div-mul x (2 ^ (127 - n)) 2)

-- ---- the products

-- the product of GCM in the field of POLYVAL
gcm_product_times : (x y : ℕ) → x < 2 ^ 128 → y < 2 ^ 128
    → gcm_product x y ≡ polyval_times (polyval_times (polyval_times 2 x) inverse_of_x_128) y
unfolding gcm_product
gcm_product_times x y x_fits y_fits =
    ap (z_step 128 x) (mod-eq_of_lt y_fits)
    ∙ z_image polyval_times polyval_ring r_block (λ a. a) (λ a b. refl) refl (λ a fits. fits) shifted_times 128 x y y_fits
    ∙ ap (λ (z : ℕ). polyval_times z y)
    (weight_power 128 x (lit≤ tt) x_fits
    ∙ ap₂ (λ (a b : ℕ). polyval_times (polyval_times 2 a) b) (div-one x) power_r)

-- it is x times the product of POLYVAL
gcm_product_dot : (x y : ℕ) → x < 2 ^ 128 → y < 2 ^ 128 → gcm_product x y ≡ polyval_times 2 (dot x y)
unfolding dot
gcm_product_dot x y x_fits y_fits =
    gcm_product_times x y x_fits y_fits
    ∙ ap (λ (z : ℕ). polyval_times z y) (polyval_ring.assoc 2 x inverse_of_x_128)
    ∙ polyval_ring.assoc 2 (polyval_times x inverse_of_x_128) y
    ∙ ap (polyval_times 2)
    (polyval_ring.assoc x inverse_of_x_128 y ∙ ap (polyval_times x) (polyval_ring.comm inverse_of_x_128 y)
    ∙ sym (polyval_ring.assoc x y inverse_of_x_128))

pub dot-lt : (x y : ℕ) → dot x y < 2 ^ 128
unfolding dot
dot-lt x y = polyval_ring.below (polyval_times x y) inverse_of_x_128

-- so that the product of POLYVAL is the next V after the product of GCM
pub dot_shifted : (x y : ℕ) → x < 2 ^ 128 → y < 2 ^ 128 → dot x y ≡ shifted (gcm_product x y)
dot_shifted x y x_fits y_fits =
    sym (shifted_times (gcm_product x y) (gcm_product-lt x y)
    ∙ ap (polyval_times r_block) (gcm_product_dot x y x_fits y_fits) ∙ r_cancels (dot x y) (dot-lt x y))

-- the product of POLYVAL reads the low 128 bits
dot_low : (x y : ℕ) → dot (x % 2 ^ 128) (y % 2 ^ 128) ≡ dot x y
unfolding dot
dot_low x y =
    ap (λ (z : ℕ). polyval_times z inverse_of_x_128)
    (mod-times 128 1 polyval_times polyval_ring x (y % 2 ^ 128) ∙ times-mod 128 1 polyval_times polyval_ring x y)

-- the product of POLYVAL, reversed
pub dot_image : (x y : ℕ) → reversed 128 (dot x y) ≡ ghash_times 2 (ghash_times (reversed 128 x) (reversed 128 y))
dot_image x y =
    let a : ℕ = x % 2 ^ 128 in
    let b : ℕ = y % 2 ^ 128 in
    ap (reversed 128) (sym (dot_low x y) ∙ dot_shifted a b (mod-lt x (pow_pos 128)) (mod-lt y (pow_pos 128)))
    ∙ shifted_image (gcm_product a b) (gcm_product-lt a b)
    ∙ ap (ghash_times 2) (gcm_product_image a b ∙ ap₂ ghash_times (reversed_low 128 x) (reversed_low 128 y))

pub dot_is_reversed : DotIsReversed
dot_is_reversed x y = sym (reversed_twice 128 (dot x y) (dot-lt x y)) ∙ ap (reversed 128) (dot_image x y)

-- the next V of a key gives the product of POLYVAL
pub dot_shifted_key : (x y : ℕ) → x < 2 ^ 128 → y < 2 ^ 128 → dot x y ≡ gcm_product x (shifted y)
dot_shifted_key x y x_fits y_fits =
    sym (gcm_product_times x (shifted y) x_fits (shifted-lt y y_fits)
    ∙ ap (polyval_times (polyval_times (polyval_times 2 x) inverse_of_x_128)) (shifted_times y y_fits)
    ∙ times_left_comm 128 1 polyval_times polyval_ring (polyval_times (polyval_times 2 x) inverse_of_x_128) r_block y
    ∙ ap (polyval_times r_block) (sym (gcm_product_times x y x_fits y_fits) ∙ gcm_product_dot x y x_fits y_fits)
    ∙ r_cancels (dot x y) (dot-lt x y))

-- two numbers with the same next V are one
pub shifted_injective : (a b : ℕ) → a < 2 ^ 128 → b < 2 ^ 128 → shifted a ≡ shifted b → a ≡ b
shifted_injective a b a_fits b_fits same =
    sym (two-times_shifted a a_fits) ∙ ap (polyval_times 2) same ∙ two-times_shifted b b_fits
