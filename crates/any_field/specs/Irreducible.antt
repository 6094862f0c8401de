-- Irreducible binary polynomials (R. Lidl and H. Niederreiter, Finite Fields, chapter 1), and how a program tells them. A polynomial is a
-- number, the set of the places of its set bits. Laws ask that the degree is at least 1: by this definition 1 is irreducible, and 0 is not.
use Rattle.std.specs.Prelude.{◌≡◌, ◌⊎◌, ◌↔◌, ℕ, ◌*◌, ◌<◌, ◌≤◌, bit_xor}
use Rattle.field_base.specs.Carryless.{carryless}
use Rattle.field_base.specs.Field.{IsField}
use Rattle.field_base.specs.Powers.{repeated_square}
use Rattle.field_base.specs.Remainder.{HasDegree, mul_mod}

-- of two factors one is 1
abbrev pub IsIrreducible : ℕ → Type 0
IsIrreducible modulus = (g h : ℕ) → carryless g h ≡ modulus → (g ≡ 1) ⊎ (h ≡ 1)

-- multiples of a and of b add up to 1 (Bezout): no polynomial of degree 1 or more divides both
pub record AreCoprime (a b : ℕ) : Type 0 where
  pub left : ℕ
  pub right : ℕ
  pub sum : bit_xor (carryless left a) (carryless right b) ≡ 1

-- the polynomials modulo an irreducible one are a field (Lidl and Niederreiter, theorem 1.61)
abbrev pub IrreducibleGivesField : Type 0
IrreducibleGivesField = (width modulus : ℕ) → 0 < width → HasDegree width modulus → IsIrreducible modulus
    → IsField width (mul_mod width modulus)

-- and modulo no other
abbrev pub FieldNeedsIrreducible : Type 0
FieldNeedsIrreducible = (width modulus : ℕ) → 0 < width → HasDegree width modulus → IsField width (mul_mod width modulus)
    → IsIrreducible modulus

-- the test of M. Ben-Or (Probabilistic algorithms in finite fields, 1981): x^(2^i) + x has no factor in common with the modulus,
-- for each i up to half its degree. The polynomial x is the number 2.
abbrev pub PassesBenOr : ℕ → ℕ → Type 0
PassesBenOr width modulus = (i : ℕ) → 0 < i → 2 * i ≤ width
    → AreCoprime (bit_xor (repeated_square 1 (mul_mod width modulus) i 2) 2) modulus

-- the test is exact
abbrev pub BenOrIsExact : Type 0
BenOrIsExact = (width modulus : ℕ) → 0 < width → HasDegree width modulus → (PassesBenOr width modulus ↔ IsIrreducible modulus)

-- the same by degrees: no two polynomials of degree 1 or more have the product, whose degrees are then below that of the modulus
abbrev pub HasNoProduct : ℕ → Type 0
HasNoProduct modulus = (m n g h : ℕ) → 0 < m → 0 < n → HasDegree m g → HasDegree n h → carryless g h ≡ modulus → ⊥

-- a polynomial is irreducible exactly where there are no such two
abbrev pub IrreducibleByDegrees : Type 0
IrreducibleByDegrees = (width modulus : ℕ) → HasDegree width modulus → (IsIrreducible modulus ↔ HasNoProduct modulus)
