-- Moduli x^w + tail of low degree, as those of GHASH (NIST SP 800-38D, section 6.3) and of G. Seroussi's table of irreducible polynomials
-- (HPL-98-135, 1998): x^w counts as the tail.
use Rattle.std.specs.Prelude.{◌≡◌, ℕ, ◌+◌, ◌*◌, ◌<◌, ◌≤◌, ◌^◌, bit_xor}
use Rattle.field_base.specs.Carryless.{carryless}
use Rattle.field_base.specs.Remainder.{HasDegree}

-- the product of x by a tail, and what is carried in from the terms below x
abbrev pub tail_product : ℕ → ℕ → ℕ → ℕ
tail_product tail x carry = bit_xor (carryless x tail) carry

-- the modulus is x^width and the tail, of degree at most 7
pub record IsTail (width modulus tail : ℕ) : Type 0 where
  pub sum : modulus ≡ bit_xor (1 * 2 ^ width) tail
  pub degree : HasDegree width modulus
  pub small : tail < 2 ^ 8
  pub wide : 8 + 8 ≤ width
