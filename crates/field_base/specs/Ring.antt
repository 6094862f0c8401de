-- Rings of characteristic two whose elements are numbers: a number is the set of the places of its set bits, a sum
-- is `bit_xor`, and an element of width w is a number below 2 ^ w.
use Rattle.std.specs.Prelude.{◌≡◌, ℕ, ◌%◌, ◌^◌, ◌<◌, bit_xor}

-- `times` is the product of a commutative ring of characteristic two with 2 ^ width elements and the one `unit`, which
-- is 1 in a field. A product reads the low `width` bits of its operands, so the laws hold for all numbers. That `bit_xor` is
-- associative and commutative, that 0 is its zero and that a sum of two equal numbers is 0, holds of itself.
pub record IsRing (width unit : ℕ) (times : ℕ → ℕ → ℕ) : Type 0 where
  pub below : (a b : ℕ) → times a b < 2 ^ width
  pub comm : (a b : ℕ) → times a b ≡ times b a
  pub assoc : (a b c : ℕ) → times (times a b) c ≡ times a (times b c)
  pub over_sum : (a b c : ℕ) → times a (bit_xor b c) ≡ bit_xor (times a b) (times a c)
  pub one : (a : ℕ) → times unit a ≡ a % 2 ^ width
