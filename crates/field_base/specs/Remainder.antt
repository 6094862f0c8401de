-- Binary polynomials modulo a polynomial: the remainder of a division, and the product that it gives, with the moduli
-- of three published fields. A polynomial is a number, the set of the places of its set bits; a sum is `bit_xor`.
use Rattle.std.specs.Prelude.{◌≡◌, ℕ, zero, suc, ◌+◌, ◌*◌, ◌/◌, ◌%◌, ◌^◌, ◌<◌, bit_xor}
use Rattle.field_base.specs.Carryless.{carryless}
use Rattle.field_base.specs.Ring.{IsRing}

-- the highest term of the modulus is x^width
abbrev pub HasDegree : ℕ → ℕ → Type 0
HasDegree width modulus = modulus / 2 ^ width ≡ 1

-- a polynomial of degree at most `width`, less the modulus if it has the term x^width
abbrev pub reduce_top : ℕ → ℕ → ℕ → ℕ
reduce_top width modulus p = bit_xor p (p / 2 ^ width % 2 * modulus)

-- the remainder of a number of at most `fuel` bits, by Horner's rule: the bits of p enter from the highest down
unfoldable pub rem_in : ℕ → ℕ → ℕ → ℕ → ℕ
rem_in zero width modulus p = 0
rem_in (suc fuel) width modulus zero = 0
rem_in (suc fuel) width modulus (suc p) =
    reduce_top width modulus (rem_in fuel width modulus (suc p / 2) * 2 + suc p % 2)

-- the remainder of p modulo a polynomial of degree `width`
unfoldable pub rem : ℕ → ℕ → ℕ → ℕ
rem width modulus p = rem_in p width modulus p

-- r is a remainder of p: it has less than `width` bits, and p is a multiple of the modulus and r
pub record IsRemainder (width modulus p r : ℕ) : Type 0 where
  pub below : r < 2 ^ width
  pub quotient : ℕ
  pub parts : p ≡ bit_xor (carryless quotient modulus) r

-- `rem` gives a remainder
abbrev pub RemIsRemainder : Type 0
RemIsRemainder = (width modulus p : ℕ) → HasDegree width modulus → IsRemainder width modulus p (rem width modulus p)

-- there is but one
abbrev pub RemainderIsUnique : Type 0
RemainderIsUnique = (width modulus p r s : ℕ) → HasDegree width modulus
    → IsRemainder width modulus p r → IsRemainder width modulus p s → r ≡ s

-- the product modulo a polynomial of degree `width`; of wider numbers it reads the low `width` bits
unfoldable pub mul_mod : ℕ → ℕ → ℕ → ℕ → ℕ
mul_mod width modulus a b = rem width modulus (carryless (a % 2 ^ width) (b % 2 ^ width))

-- it is the remainder of the carryless product
abbrev pub MulModIsRemainder : Type 0
MulModIsRemainder = (width modulus a b : ℕ) → HasDegree width modulus
    → IsRemainder width modulus (carryless (a % 2 ^ width) (b % 2 ^ width)) (mul_mod width modulus a b)

-- it is the product of a commutative ring of characteristic two, whatever the modulus is
abbrev pub MulModIsRing : Type 0
MulModIsRing = (width modulus : ℕ) → 0 < width → HasDegree width modulus → IsRing width 1 (mul_mod width modulus)

-- x^8 + x^4 + x^3 + x + 1, the modulus of AES (FIPS 197, section 4.2)
abbrev pub aes_modulus : ℕ
aes_modulus = 0x11b

-- x^64 + x^4 + x^3 + x + 1 (G. Seroussi, Table of low-weight binary irreducible polynomials, HP Laboratories HPL-98-135,
-- 1998)
abbrev pub poly64_modulus : ℕ
poly64_modulus = 0x1_0000_0000_0000_001b

-- x^128 + x^7 + x^2 + x + 1, the modulus of GHASH (NIST SP 800-38D, section 6.3); here bit i stands for x^i, so that
-- the bits of a block of that standard come in the other order
abbrev pub ghash_modulus : ℕ
ghash_modulus = 0x1_0000_0000_0000_0000_0000_0000_0000_0087
