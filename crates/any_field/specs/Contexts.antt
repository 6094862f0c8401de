-- What products modulo a polynomial of degree 1 to 128 take: its degree, its other terms, and those of its ratio. A polynomial is a number.
use Rattle.std.specs.Prelude.{◌≡◌, ◌≢◌, ℕ, ◌+◌, ◌^◌, ◌<◌, ◌≤◌, bit_xor}
use Rattle.field_base.specs.Carryless.{carryless}
use Rattle.field_base.specs.Remainder.{mul_mod, aes_modulus, poly64_modulus, ghash_modulus}
use Rattle.any_field.specs.Irreducible.{IsIrreducible}

-- x^degree and terms of lower degree, the tail
abbrev pub with_top : ℕ → ℕ → ℕ
with_top degree tail = 2 ^ degree + tail

-- the product of the field modulo x^degree + tail
abbrev pub field_product : ℕ → ℕ → ℕ → ℕ → ℕ
field_product degree tail = mul_mod degree (with_top degree tail)

-- x^degree + tail is an irreducible polynomial of degree 1 to 128
abbrev pub IsFieldModulus : ℕ → ℕ → Type 0
IsFieldModulus degree tail = (0 < degree) × (degree ≤ 128) × (tail < 2 ^ degree) × IsIrreducible (with_top degree tail)

-- the quotient of x^(2 degree) by x^degree + tail is x^degree + ratio
pub record IsContext (degree tail ratio : ℕ) : Type 0 where
  pub wide : 0 < degree
  pub narrow : degree ≤ 128
  pub tail_below : tail < 2 ^ degree
  pub ratio_below : ratio < 2 ^ degree
  pub rest_below : bit_xor (carryless (with_top degree ratio) (with_top degree tail)) (2 ^ (degree + degree)) < 2 ^ degree

-- no two polynomials other than 1 have the product: what `IsIrreducible` says, as a fact that has but one proof
abbrev pub HasNoFactors : ℕ → Type 0
HasNoFactors modulus = (g h : ℕ) → carryless g h ≡ modulus → g ≢ 1 → h ≢ 1 → ⊥

-- the moduli of the three fixed fields
abbrev pub PublishedAreIrreducible : Type 0
PublishedAreIrreducible = IsIrreducible aes_modulus × IsIrreducible poly64_modulus × IsIrreducible ghash_modulus

-- x^degree + tail is the modulus of a field, and the product in it is that modulo this number
abbrev pub IsFieldModulo : ℕ → ℕ → ℕ → Type 0
IsFieldModulo degree tail modulus =
    IsFieldModulus degree tail × ((a b : ℕ) → field_product degree tail a b ≡ mul_mod degree modulus a b)

-- the three fixed fields, each by its degree and the other terms
abbrev pub FixedFieldsAreChosen : Type 0
FixedFieldsAreChosen = IsFieldModulo 8 0x1b aes_modulus × IsFieldModulo 64 0x1b poly64_modulus × IsFieldModulo 128 0x87 ghash_modulus

-- the bytes that codes use besides those of AES: modulo x^8 + x^4 + x^3 + x^2 + 1 (ISO/IEC 18004, ETSI EN 300 421), which is 0x11d, and
-- modulo x^8 + x^7 + x^2 + x + 1 (CCSDS 131.0-B), which is 0x187
abbrev pub BytesOfCodesAreFields : Type 0
BytesOfCodesAreFields = IsFieldModulo 8 0x1d 0x11d × IsFieldModulo 8 0x87 0x187
