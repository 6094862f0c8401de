-- What follows from the laws of a ring of numbers: sums on the left, products in another order, zero, and operands
-- beyond the width.
use Rattle.std.proofs.Common.{◌≡◌, ℕ, zero, ◌%◌, ◌^◌, sym, ◌∙◌, ap, ap₂}
use Rattle.std.specs.Prelude.{bit_xor}
use Rattle.std.proofs.lemmas.Nat.{xor_comm}
use native.Mathlib.Nat.{mod-eq_of_lt}
use lib.Bits.{xor_assoc, xor_self, xor_zero_r}
use Rattle.field_base.specs.Ring.{IsRing}

-- ---- sums

-- a + (b + c) = b + (a + c)
pub xor_left_comm : (a b c : ℕ) → bit_xor a (bit_xor b c) ≡ bit_xor b (bit_xor a c)
xor_left_comm a b c = sym (xor_assoc a b c) ∙ ap (λ (x : ℕ). bit_xor x c) (xor_comm a b) ∙ xor_assoc b a c

-- a + (a + b) = b
pub xor_cancel : (a b : ℕ) → bit_xor a (bit_xor a b) ≡ b
xor_cancel a b = sym (xor_assoc a a b) ∙ ap (λ (x : ℕ). bit_xor x b) (xor_self a)

-- (a + b) + b = a
pub xor_back : (a b : ℕ) → bit_xor (bit_xor a b) b ≡ a
xor_back a b = xor_assoc a b b ∙ ap (bit_xor a) (xor_self b) ∙ xor_zero_r a

-- (a + b) + (c + d) = (a + c) + (b + d)
pub xor_exchange : (a b c d : ℕ) → bit_xor (bit_xor a b) (bit_xor c d) ≡ bit_xor (bit_xor a c) (bit_xor b d)
xor_exchange a b c d = simp (xor_assoc, xor_left_comm)

-- what is known of a sum of two equal numbers, the other way round
pub xor_nothing : (a b : ℕ) → bit_xor a b ≡ zero → a ≡ b
xor_nothing a b e = sym (xor_zero_r a) ∙ ap (bit_xor a) (sym e) ∙ xor_cancel a b

-- ---- products

module _ (width unit : ℕ) (times : ℕ → ℕ → ℕ) (ring : IsRing width unit times) where
  -- (a + b) c = a c + b c
  pub sum_times : (a b c : ℕ) → times (bit_xor a b) c ≡ bit_xor (times a c) (times b c)
  sum_times a b c = ring.comm (bit_xor a b) c ∙ ring.over_sum c a b ∙ ap₂ bit_xor (ring.comm c a) (ring.comm c b)

  -- a (b c) = b (a c)
  pub times_left_comm : (a b c : ℕ) → times a (times b c) ≡ times b (times a c)
  times_left_comm a b c = sym (ring.assoc a b c) ∙ ap (λ (x : ℕ). times x c) (ring.comm a b) ∙ ring.assoc b a c

  -- a 0 = 0
  pub times-zero : (a : ℕ) → times a 0 ≡ 0
  times-zero a = ring.over_sum a 0 0 ∙ xor_self (times a 0)

  -- 0 a = 0
  pub zero-times : (a : ℕ) → times 0 a ≡ 0
  zero-times a = ring.comm 0 a ∙ times-zero a

  -- a product depends only on the low bits of its right operand
  pub times-mod : (a b : ℕ) → times a (b % 2 ^ width) ≡ times a b
  times-mod a b =
      ap (times a) (sym (ring.one b)) ∙ times_left_comm a unit b ∙ ring.one (times a b)
      ∙ mod-eq_of_lt (ring.below a b)

  -- a product depends only on the low bits of its left operand
  pub mod-times : (a b : ℕ) → times (a % 2 ^ width) b ≡ times a b
  mod-times a b = ring.comm (a % 2 ^ width) b ∙ times-mod b a ∙ ring.comm b a
