-- The product modulo a binary polynomial is that of a ring, whatever the polynomial is.
use Rattle.std.proofs.Common.{◌≡◌, ℕ, ◌%◌, ◌^◌, ◌<◌, lit<, refl, sym, ◌∙◌, ap, ap₂}
use Rattle.std.specs.Prelude.{bit_xor}
use Rattle.std.proofs.lemmas.Nat.{xor_mod, pow_below, pow_pos}
use native.Mathlib.Nat.{mod-eq_of_lt, mod-lt}
use Rattle.field_base.specs.Carryless.{carryless}
use Rattle.field_base.specs.Remainder.{HasDegree, rem, mul_mod, MulModIsRemainder, MulModIsRing, poly64_modulus, ghash_modulus}
use Rattle.field_base.specs.Ring.{IsRing}
use Rattle.field_base.proofs.CarrylessProduct.{carryless_comm, carryless_assoc, carryless_sum, one_carryless}
use Rattle.field_base.proofs.RemainderLaws.{rem_is_remainder, rem_lt, rem_small, rem_sum, rem_carryless, rem_carryless_left}

-- the product modulo a polynomial is the remainder of the carryless product
pub mul_mod_is_remainder : MulModIsRemainder
unfolding mul_mod
mul_mod_is_remainder width modulus a b degree = rem_is_remainder width modulus (carryless (a % 2 ^ width) (b % 2 ^ width)) degree

module _ (width modulus : ℕ) (degree : HasDegree width modulus) where
  -- the product of elements of the ring is the remainder of their carryless product
  pub mul_mod-rem : (a b : ℕ) → a < 2 ^ width → b < 2 ^ width
      → mul_mod width modulus a b ≡ rem width modulus (carryless a b)
  unfolding mul_mod
  mul_mod-rem a b left right =
      ap₂ (λ (x y : ℕ). rem width modulus (carryless x y)) (mod-eq_of_lt left) (mod-eq_of_lt right)

  -- a product is an element
  mul_mod_below : (a b : ℕ) → mul_mod width modulus a b < 2 ^ width
  unfolding mul_mod
  mul_mod_below a b = rem_lt width modulus degree (carryless (a % 2 ^ width) (b % 2 ^ width))

  -- a b = b a
  mul_mod_comm : (a b : ℕ) → mul_mod width modulus a b ≡ mul_mod width modulus b a
  unfolding mul_mod
  mul_mod_comm a b = ap (rem width modulus) (carryless_comm (a % 2 ^ width) (b % 2 ^ width))

  -- a product of three, the inner one on either side
  left_product : (a b c : ℕ) → mul_mod width modulus (mul_mod width modulus a b) c
      ≡ rem width modulus (carryless (carryless (a % 2 ^ width) (b % 2 ^ width)) (c % 2 ^ width))
  unfolding mul_mod
  left_product a b c =
      ap (λ (x : ℕ). rem width modulus (carryless x (c % 2 ^ width))) (mod-eq_of_lt (mul_mod_below a b))
      ∙ rem_carryless_left width modulus degree (carryless (a % 2 ^ width) (b % 2 ^ width)) (c % 2 ^ width)

  -- a (b c) is the remainder of the carryless product of the three
  right_product : (a b c : ℕ) → mul_mod width modulus a (mul_mod width modulus b c)
      ≡ rem width modulus (carryless (a % 2 ^ width) (carryless (b % 2 ^ width) (c % 2 ^ width)))
  unfolding mul_mod
  right_product a b c =
      ap (λ (x : ℕ). rem width modulus (carryless (a % 2 ^ width) x)) (mod-eq_of_lt (mul_mod_below b c))
      ∙ rem_carryless width modulus degree (a % 2 ^ width) (carryless (b % 2 ^ width) (c % 2 ^ width))

  -- (a b) c = a (b c)
  mul_mod_assoc : (a b c : ℕ) → mul_mod width modulus (mul_mod width modulus a b) c
      ≡ mul_mod width modulus a (mul_mod width modulus b c)
  mul_mod_assoc a b c =
      left_product a b c
      ∙ ap (rem width modulus) (carryless_assoc (a % 2 ^ width) (b % 2 ^ width) (c % 2 ^ width))
      ∙ sym (right_product a b c)

  -- a (b + c) = a b + a c
  mul_mod_over_sum : (a b c : ℕ) → mul_mod width modulus a (bit_xor b c)
      ≡ bit_xor (mul_mod width modulus a b) (mul_mod width modulus a c)
  unfolding mul_mod
  mul_mod_over_sum a b c =
      ap (λ (x : ℕ). rem width modulus (carryless (a % 2 ^ width) x)) (xor_mod b c width)
      ∙ ap (rem width modulus) (carryless_sum (a % 2 ^ width) (b % 2 ^ width) (c % 2 ^ width))
      ∙ rem_sum width modulus degree (carryless (a % 2 ^ width) (b % 2 ^ width)) (carryless (a % 2 ^ width) (c % 2 ^ width))

  -- 1 a = a for an element a
  mul_mod_one : 0 < width → (a : ℕ) → mul_mod width modulus 1 a ≡ a % 2 ^ width
  unfolding mul_mod
  mul_mod_one wide a =
      ap (λ (x : ℕ). rem width modulus (carryless x (a % 2 ^ width))) (mod-eq_of_lt (pow_below 0 width wide))
      ∙ ap (rem width modulus) (one_carryless (a % 2 ^ width))
      ∙ rem_small width modulus degree (a % 2 ^ width) (mod-lt a (pow_pos width))

-- the polynomials modulo any polynomial are a ring
pub mul_mod_ring : MulModIsRing
mul_mod_ring width modulus wide degree = record {
  below = mul_mod_below width modulus degree;
  comm = mul_mod_comm width modulus degree;
  assoc = mul_mod_assoc width modulus degree;
  over_sum = mul_mod_over_sum width modulus degree;
  one = mul_mod_one width modulus degree wide;
}

-- the rings of two published moduli
pub poly64_ring : IsRing 64 1 (mul_mod 64 poly64_modulus)
poly64_ring = mul_mod_ring 64 poly64_modulus (lit< tt) refl

-- the polynomials modulo that of GHASH are a ring
pub ghash_ring : IsRing 128 1 (mul_mod 128 ghash_modulus)
ghash_ring = mul_mod_ring 128 ghash_modulus (lit< tt) refl
