-- Remainders by a quotient that is computed once for each modulus (P. Barrett, Implementing the Rivest Shamir and Adleman public key
-- encryption algorithm, 1986). With binary polynomials, which are numbers here, no step corrects it.
use Rattle.std.specs.Prelude.{◌≡◌, ℕ, ◌+◌, ◌/◌, ◌%◌, ◌^◌, ◌<◌, bit_xor}
use Rattle.field_base.specs.Carryless.{carryless}
use Rattle.field_base.specs.Remainder.{HasDegree, rem}

-- the quotient of x^(2 width) by the modulus, whose rest has a lower degree
pub record IsRatio (width modulus ratio : ℕ) : Type 0 where
  pub rest : ℕ
  pub below : rest < 2 ^ width
  pub parts : bit_xor (carryless ratio modulus) rest ≡ 2 ^ (width + width)

-- the remainder is the polynomial and a multiple of the modulus, by two products
abbrev pub BarrettIsRemainder : Type 0
BarrettIsRemainder = (width modulus ratio p : ℕ) → HasDegree width modulus → IsRatio width modulus ratio → p < 2 ^ (width + width)
    → rem width modulus p ≡ bit_xor p (carryless (carryless (p / 2 ^ width) ratio / 2 ^ width) modulus)

-- the multiple, without the highest terms of the ratio and of the modulus
unfoldable pub quotient_by_tail : ℕ → ℕ → ℕ → ℕ
quotient_by_tail width ratio p = bit_xor (p / 2 ^ width) (carryless (p / 2 ^ width) (ratio % 2 ^ width) / 2 ^ width)

-- the same by words of `width` bits: both factors of both products have so many bits
abbrev pub BarrettByWords : Type 0
BarrettByWords = (width modulus ratio p : ℕ) → HasDegree width modulus → IsRatio width modulus ratio → p < 2 ^ (width + width)
    → rem width modulus p ≡ bit_xor p (carryless (quotient_by_tail width ratio p) (modulus % 2 ^ width)) % 2 ^ width
