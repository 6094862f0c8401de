-- The product of binary polynomials, called carryless because it is long multiplication in base two whose columns are
-- added without carries (S. Gueron and M. Kounavis, Intel carry-less multiplication instruction and its usage for
-- computing the GCM mode, 2010). A polynomial is a number, the set of the places of its set bits; a sum is `bit_xor`.
use Rattle.std.specs.Prelude.{◌≡◌, ℕ, zero, suc, ◌+◌, ◌-◌, ◌*◌, ◌/◌, ◌%◌, ◌^◌, ◌<◌, bit_xor}
use Rattle.std.specs.Int.{bit_at}

-- the product of the low `fuel` bits of a with b: for each set bit of a, lowest first, b shifted to its place
unfoldable pub carryless_in : ℕ → ℕ → ℕ → ℕ
carryless_in zero a b = 0
carryless_in (suc fuel) zero b = 0
carryless_in (suc fuel) (suc a) b = bit_xor (suc a % 2 * b) (carryless_in fuel (suc a / 2) b * 2)

-- the carryless product of a and b; a number has fewer bits than its value, so that a itself is fuel enough
unfoldable pub carryless : ℕ → ℕ → ℕ
carryless a b = carryless_in a a b

-- how many pairs of places (i, n - i), i below the last argument, have the first set in a and the second in b
unfoldable pub pairs_before : ℕ → ℕ → ℕ → ℕ → ℕ
pairs_before a b n zero = 0
pairs_before a b n (suc i) = pairs_before a b n i + bit_at a i * bit_at b (n - i)

-- how many pairs of places i + j = n there are with i set in a and j set in b: the coefficient of x^n in the product
-- over the whole numbers
abbrev pub pairs : ℕ → ℕ → ℕ → ℕ
pairs a b n = pairs_before a b n (suc n)

-- the coefficient of x^n in the carryless product is the number of those pairs modulo two
abbrev pub CarrylessCountsPairs : Type 0
CarrylessCountsPairs = (a b n : ℕ) → bit_at (carryless a b) n ≡ pairs a b n % 2

-- binary polynomials with the carryless product are a commutative ring, and degrees add
pub record CarrylessIsProduct : Type 0 where
  pub comm : (a b : ℕ) → carryless a b ≡ carryless b a
  pub assoc : (a b c : ℕ) → carryless (carryless a b) c ≡ carryless a (carryless b c)
  pub over_sum : (a b c : ℕ) → carryless a (bit_xor b c) ≡ bit_xor (carryless a b) (carryless a c)
  pub one : (a : ℕ) → carryless 1 a ≡ a
  -- of m bits and n bits, not both none, the product has at most m + n - 1
  pub below : (m n a b : ℕ) → a < 2 ^ m → b < 2 ^ n → carryless a b * 2 < 2 ^ (m + n)
