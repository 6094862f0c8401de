-- Packings of n lanes of a ring of w-bit elements are a ring of elements of n * w bits.
use Rattle.std.proofs.Common.{◌≡◌, ℕ, zero, suc, ◌+◌, ◌*◌, ◌/◌, ◌%◌, ◌^◌, ◌<◌, replicate, refl, sym, ◌∙◌, ap, ap₂, subst}
use Rattle.std.specs.Prelude.{bit_xor}
use Rattle.std.proofs.lemmas.Nat.{mod_low, mod-pow-add, pow-add, pow_pos, shr_high, xor_block, xor_shr}
use Rattle.std.proofs.Math.Nat.{suc-mul}
use native.Mathlib.Nat.{mod-one, zero-mul}
use lib.Arith.{digits_lt}
use Rattle.field_base.specs.Chunks.{joined}
use Rattle.packed_lanes.specs.Lanes.{lane_product}
use Rattle.field_base.specs.Ring.{IsRing}
use Rattle.field_base.proofs.RingLemmas.{mod-times}

-- (n + 1) w = n w + w
more_bits : (n width : ℕ) → suc n * width ≡ n * width + width
more_bits = suc-mul

-- 2 ^ ((n + 1) w) = 2 ^ (n w) · 2 ^ w
pub more_lanes : (n width : ℕ) → 2 ^ (suc n * width) ≡ 2 ^ (n * width) * 2 ^ width
more_lanes n width = ap (λ (k : ℕ). 2 ^ k) (more_bits n width) ∙ pow-add 2 (n * width) width

module _ (width unit : ℕ) (times : ℕ → ℕ → ℕ) (ring : IsRing width unit times) (fits : unit < 2 ^ width) where
  -- a product lane by lane is a packing of n lanes
  lanes_below : (n a b : ℕ) → lane_product width times n a b < 2 ^ (n * width)
  unfolding lane_product
  lanes_below zero a b = pow_pos (zero * width)
  lanes_below (suc n) a b =
      subst (λ (m : ℕ). lane_product width times (suc n) a b < m) (sym (more_lanes n width))
      (digits_lt (lanes_below n (a / 2 ^ width) (b / 2 ^ width)) (ring.below a b))

  -- the product lane by lane is commutative
  lanes_comm : (n a b : ℕ) → lane_product width times n a b ≡ lane_product width times n b a
  unfolding lane_product
  lanes_comm zero a b = refl
  lanes_comm (suc n) a b =
      ap₂ (λ (high low : ℕ). high * 2 ^ width + low) (lanes_comm n (a / 2 ^ width) (b / 2 ^ width)) (ring.comm a b)

  -- the product of lanes above one lane
  pub lanes_left : (n high low b : ℕ) → low < 2 ^ width → lane_product width times (suc n) (high * 2 ^ width + low) b
      ≡ lane_product width times n high (b / 2 ^ width) * 2 ^ width + times low b
  unfolding lane_product
  lanes_left n high low b low_fits =
      ap₂ (λ (h l : ℕ). lane_product width times n h (b / 2 ^ width) * 2 ^ width + l)
      (shr_high high width low low_fits)
      (sym (mod-times width unit times ring (high * 2 ^ width + low) b)
      ∙ ap (λ (l : ℕ). times l b) (mod_low high width low low_fits))

  -- the product lane by lane is associative
  lanes_assoc : (n a b c : ℕ) → lane_product width times n (lane_product width times n a b) c
      ≡ lane_product width times n a (lane_product width times n b c)
  unfolding lane_product
  lanes_assoc zero a b c = refl
  lanes_assoc (suc n) a b c =
      lanes_left n (lane_product width times n (a / 2 ^ width) (b / 2 ^ width)) (times a b) c (ring.below a b)
      ∙ ap₂ (λ (high low : ℕ). high * 2 ^ width + low)
      (lanes_assoc n (a / 2 ^ width) (b / 2 ^ width) (c / 2 ^ width)
      ∙ lanes_comm n (a / 2 ^ width) (lane_product width times n (b / 2 ^ width) (c / 2 ^ width)))
      (ring.assoc a b c ∙ ring.comm a (times b c))
      ∙ sym (lanes_left n (lane_product width times n (b / 2 ^ width) (c / 2 ^ width)) (times b c) a (ring.below b c))
      ∙ lanes_comm (suc n) (lane_product width times (suc n) b c) a

  -- the product lane by lane distributes over sums
  lanes_over_sum : (n a b c : ℕ) → lane_product width times n a (bit_xor b c)
      ≡ bit_xor (lane_product width times n a b) (lane_product width times n a c)
  unfolding lane_product
  lanes_over_sum zero a b c = refl
  lanes_over_sum (suc n) a b c =
      ap₂ (λ (high low : ℕ). high * 2 ^ width + low)
      (ap (lane_product width times n (a / 2 ^ width)) (xor_shr b c width)
      ∙ lanes_over_sum n (a / 2 ^ width) (b / 2 ^ width) (c / 2 ^ width))
      (ring.over_sum a b c)
      ∙ sym (xor_block width _ _ _ _ (ring.below a b) (ring.below a c))

  -- the one in every lane is the one of the packings
  lanes_one : (n a : ℕ) → lane_product width times n (joined width (replicate n unit)) a ≡ a % 2 ^ (n * width)
  unfolding lane_product joined
  lanes_one zero a = sym (ap (λ (k : ℕ). a % 2 ^ k) (zero-mul width) ∙ mod-one a)
  lanes_one (suc n) a =
      lanes_left n (joined width (replicate n unit)) unit a fits
      ∙ ap₂ (λ (high low : ℕ). high * 2 ^ width + low) (lanes_one n (a / 2 ^ width)) (ring.one a)
      ∙ sym (mod-pow-add a (n * width) width)
      ∙ ap (λ (k : ℕ). a % 2 ^ k) (sym (more_bits n width))

  -- packings of n lanes are a ring
  pub lanes_ring : (n : ℕ) → IsRing (n * width) (joined width (replicate n unit)) (lane_product width times n)
  lanes_ring n =
      record {
        below = lanes_below n;
        comm = lanes_comm n;
        assoc = lanes_assoc n;
        over_sum = lanes_over_sum n;
        one = lanes_one n;
      }
