-- The standard's product by its steps, seen through a map that keeps sums and takes each shift to a product by one element: it is a
-- product there, of the sum of the powers of that element at the set bits.
use Rattle.std.proofs.Common.{◌≡◌, ℕ, zero, suc, ◌-◌, ◌*◌, ◌/◌, ◌%◌, ◌^◌, ◌<◌, sym, ◌∙◌, ap, ap₂, subst, arith, lit<}
use Rattle.std.specs.Prelude.{bit_xor}
use Rattle.std.specs.Int.{bit_at}
use Rattle.std.proofs.lemmas.Nat.{xor_lt, pow_pos}
use native.Mathlib.Nat.{mod-eq_of_lt, zero-mul, one-mul}
use Rattle.field_base.specs.Powers.{power}
use Rattle.field_base.specs.Ring.{IsRing}
use Rattle.field_base.specs.Remainder.{HasDegree, mul_mod, rem}
use Rattle.field_base.proofs.CarrylessProduct.{bit_cases, one_carryless, double_carryless}
use Rattle.field_base.proofs.RemainderLaws.{rem_small}
use Rattle.field_base.proofs.RemainderRing.{mul_mod-rem}
use Rattle.field_base.proofs.RingLemmas.{sum_times, zero-times}
use Rattle.tags.specs.Gcm.{r_block, shifted, v_step, z_step}

-- ---- bounds

-- a bit times a number of 128 bits has 128 bits
pub bit_times-lt : (d n : ℕ) → n < 2 ^ 128 → d % 2 * n < 2 ^ 128
bit_times-lt d n fits =
    bit_cases (λ z. z * n < 2 ^ 128) (subst (λ (z : ℕ). z < 2 ^ 128) (sym (zero-mul n)) (pow_pos 128))
    (subst (λ (z : ℕ). z < 2 ^ 128) (sym (one-mul n)) fits) d

-- each V is a block
pub shifted-lt : (v : ℕ) → v < 2 ^ 128 → shifted v < 2 ^ 128
shifted-lt v fits =
    xor_lt 128 (v / 2) (v % 2 * r_block) (omega (arith, fits)) (bit_times-lt v r_block (lit< tt))

pub v_step-lt : (i y : ℕ) → y < 2 ^ 128 → v_step i y < 2 ^ 128
unfolding v_step
v_step-lt zero y fits = fits
v_step-lt (suc i) y fits = shifted-lt (v_step i y) (v_step-lt i y fits)

-- and each Z
pub z_step-lt : (i x y : ℕ) → y < 2 ^ 128 → z_step i x y < 2 ^ 128
unfolding z_step
z_step-lt zero x y fits = pow_pos 128
z_step-lt (suc i) x y fits =
    xor_lt 128 (z_step i x y) (bit_at x (127 - i) * v_step i y) (z_step-lt i x y fits)
    (bit_times-lt (x / 2 ^ (127 - i)) (v_step i y) (v_step-lt i y fits))

-- ---- the product by x

-- a product by x that does not reach the modulus is a shift
pub two-times : (modulus : ℕ) → HasDegree 128 modulus → (q : ℕ) → q < 2 ^ 127 → mul_mod 128 modulus 2 q ≡ q * 2
two-times modulus degree q fits =
    mul_mod-rem 128 modulus degree 2 q (lit< tt) (omega (arith, fits))
    ∙ ap (rem 128 modulus) (double_carryless 1 q ∙ ap (λ (z : ℕ). z * 2) (one_carryless q))
    ∙ rem_small 128 modulus degree (q * 2) (omega (arith, fits))

-- ---- the steps through a map

-- the sum of the powers of u at the set bits of the first n of x
unfoldable pub weight : (ℕ → ℕ → ℕ) → ℕ → ℕ → ℕ → ℕ
weight times u zero x = 0
weight times u (suc i) x = bit_xor (weight times u i x) (bit_at x (127 - i) * power 1 times u i)

module _ (times : ℕ → ℕ → ℕ) (ring : IsRing 128 1 times) (u : ℕ) (image : ℕ → ℕ)
    (image_xor : (a b : ℕ) → image (bit_xor a b) ≡ bit_xor (image a) (image b))
    (image_zero : image 0 ≡ 0)
    (image_fits : (a : ℕ) → a < 2 ^ 128 → image a < 2 ^ 128)
    (image_step : (v : ℕ) → v < 2 ^ 128 → image (shifted v) ≡ times u (image v)) where
  -- V_i is y times u^i
  v_image : (i y : ℕ) → y < 2 ^ 128 → image (v_step i y) ≡ times (power 1 times u i) (image y)
  unfolding v_step power
  v_image zero y fits = sym (ring.one (image y) ∙ mod-eq_of_lt (image_fits y fits))
  v_image (suc i) y fits =
      image_step (v_step i y) (v_step-lt i y fits) ∙ ap (times u) (v_image i y fits)
      ∙ sym (ring.assoc u (power 1 times u i) (image y))
      ∙ ap (λ (z : ℕ). times z (image y)) (ring.comm u (power 1 times u i))

  -- the image of a bit times a number
  bit_image : (d v : ℕ) → image (d % 2 * v) ≡ d % 2 * image v
  bit_image d v =
      bit_cases (λ z. image (z * v) ≡ z * image v)
      (ap image (zero-mul v) ∙ image_zero ∙ sym (zero-mul (image v)))
      (ap image (one-mul v) ∙ sym (one-mul (image v))) d

  -- a bit times an element, times another
  bit_times : (d p q : ℕ) → d % 2 * times p q ≡ times (d % 2 * p) q
  bit_times d p q =
      bit_cases (λ z. z * times p q ≡ times (z * p) q)
      (zero-mul (times p q) ∙ sym (ap (λ (z : ℕ). times z q) (zero-mul p) ∙ zero-times 128 1 times ring q))
      (one-mul (times p q) ∙ sym (ap (λ (z : ℕ). times z q) (one-mul p))) d

  -- Z_i is the sum of the first powers, times y
  pub z_image : (i x y : ℕ) → y < 2 ^ 128 → image (z_step i x y) ≡ times (weight times u i x) (image y)
  unfolding z_step weight
  z_image zero x y fits = image_zero ∙ sym (zero-times 128 1 times ring (image y))
  z_image (suc i) x y fits =
      image_xor (z_step i x y) (bit_at x (127 - i) * v_step i y)
      ∙ ap₂ bit_xor (z_image i x y fits)
      (bit_image (x / 2 ^ (127 - i)) (v_step i y)
      ∙ ap (λ (z : ℕ). bit_at x (127 - i) * z) (v_image i y fits)
      ∙ bit_times (x / 2 ^ (127 - i)) (power 1 times u i) (image y))
      ∙ sym (sum_times 128 1 times ring (weight times u i x) (bit_at x (127 - i) * power 1 times u i) (image y))
