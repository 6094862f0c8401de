-- The test of M. O. Rabin (Probabilistic algorithms in finite fields, 1980), and how the test of common factors is computed.
use Rattle.std.specs.Prelude.{◌≡◌, ◌⊎◌, ◌↔◌, ℕ, ◌*◌, ◌%◌, ◌^◌, ◌<◌, bit_xor}
use Rattle.field_base.specs.Carryless.{carryless}
use Rattle.field_base.specs.Field.{HasInverses, IsField}
use Rattle.field_base.specs.Powers.{repeated_square}
use Rattle.field_base.specs.Remainder.{HasDegree, mul_mod}
use Rattle.field_base.specs.Ring.{IsRing}
use Rattle.any_field.specs.Irreducible.{IsIrreducible, AreCoprime}

-- above 1, and of two factors one is 1
pub record IsPrime (p : ℕ) : Type 0 where
  pub above : 1 < p
  pub factors : (a b : ℕ) → a * b ≡ p → (a ≡ 1) ⊎ (b ≡ 1)

-- as many squarings as the degree return x, and for each prime p that divides the degree, x^(2^(degree / p)) + x has no factor in
-- common with the modulus
pub record PassesRabin (width modulus : ℕ) : Type 0 where
  pub returns : repeated_square 1 (mul_mod width modulus) width 2 ≡ 2 % 2 ^ width
  pub coprime : (p part : ℕ) → IsPrime p → p * part ≡ width
      → AreCoprime (bit_xor (repeated_square 1 (mul_mod width modulus) part 2) 2) modulus

-- the test is exact
abbrev pub RabinIsExact : Type 0
RabinIsExact = (width modulus : ℕ) → 0 < width → HasDegree width modulus → (PassesRabin width modulus ↔ IsIrreducible modulus)

-- common factors, by Euclid's steps: their order, a multiple of one added to the other, and none left
pub record CoprimeBySteps : Type 0 where
  pub swap : (a b : ℕ) → AreCoprime a b → AreCoprime b a
  pub add : (a b q : ℕ) → AreCoprime (bit_xor a (carryless q b)) b ↔ AreCoprime a b
  pub none : (a : ℕ) → AreCoprime a 0 ↔ (a ≡ 1)

-- a finite ring is a field where nonzero elements have inverses
abbrev pub InversesGiveField : Type 0
InversesGiveField = (width : ℕ) (times : ℕ → ℕ → ℕ) → 0 < width → IsRing width 1 times → HasInverses width times → IsField width times
