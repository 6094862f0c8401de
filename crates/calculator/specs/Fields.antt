-- The fields that a line may name.
use Rattle.std.specs.Prelude.{ℕ, ◌+◌, ◌/◌, ◌^◌, if◌then◌else◌, List, [], ◌∷◌, codes, Option, Some, None}
use Rattle.std.specs.Str.{bytes_eq}
use Rattle.field_base.specs.Chunks.{chunk}
use Rattle.field_base.specs.Remainder.{mul_mod, aes_modulus, poly64_modulus, ghash_modulus}
use Rattle.field_base.specs.Tower.{tower_mul}
use Rattle.word_polynomial.specs.Cubic.{cubic, triple}
use Rattle.calculator.specs.Moduli.{has_field, modulus_written}

-- a field: how many bits an element has, the product of elements, and the change of order that takes the number which a text
-- writes to the number of the element, and back
pub record WrittenField : Type 0 where
  pub bits : ℕ
  pub times : ℕ → ℕ → ℕ
  pub order : ℕ → ℕ

-- the field of so many bits with the product `times` and this change of order
abbrev pub written_field : ℕ → (ℕ → ℕ → ℕ) → (ℕ → ℕ) → WrittenField
written_field bits times order = record { bits = bits; times = times; order = order }

-- how many bytes the bits of an element fill: its text has two digits for each
abbrev pub bytes_of : WrittenField → ℕ
bytes_of field = (field.bits + 7) / 8

-- a text that has no parts writes the number of the element
abbrev pub undivided : ℕ → ℕ
undivided n = n

-- a text of three coefficients of 64 bits has the lowest first, where the highest digits of a number stand, so that the text of
-- c0 + c1 y + c2 y² writes the number of c2 + c1 y + c0 y²
abbrev pub lowest_first : ℕ → ℕ
lowest_first n = triple 64 (chunk 64 2 n) (chunk 64 1 n) (chunk 64 0 n)

-- level k of the tower of fields, whose elements have 2 ^ k bits
abbrev pub tower_level : ℕ → WrittenField
tower_level k = written_field (2 ^ k) (tower_mul k) undivided

-- the polynomials modulo one whose degree is `bits`, where the coefficient of x^i is bit i
abbrev pub polynomials_modulo : ℕ → ℕ → WrittenField
polynomials_modulo bits modulus = written_field bits (mul_mod bits modulus) undivided

-- the extension of the polynomials modulo x^64 + x^4 + x^3 + x + 1 by a root y of y³ + y + 1
abbrev pub cubic_extension : WrittenField
cubic_extension = written_field 192 (cubic 64 (mul_mod 64 poly64_modulus)) lowest_first

-- the fields by their names
abbrev pub fields : List (List ℕ × WrittenField)
fields =
    (codes "gf2", tower_level 0)
    ∷ (codes "t2", tower_level 1)
    ∷ (codes "t4", tower_level 2)
    ∷ (codes "t8", tower_level 3)
    ∷ (codes "t16", tower_level 4)
    ∷ (codes "t32", tower_level 5)
    ∷ (codes "t64", tower_level 6)
    ∷ (codes "t128", tower_level 7)
    ∷ (codes "r8", polynomials_modulo 8 aes_modulus)
    ∷ (codes "p64", polynomials_modulo 64 poly64_modulus)
    ∷ (codes "g128", polynomials_modulo 128 ghash_modulus)
    ∷ (codes "p192", cubic_extension)
    ∷ []

-- what stands beside a word in a table of names; None where it is not there
abbrev pub look_up : {A : Type 0} → List ℕ → List (List ℕ × A) → Option A
look_up word [] = None
look_up word ((name, found) ∷ rest) = if bytes_eq word name then Some found else look_up word rest

-- the polynomials modulo one, where that is a field
abbrev pub field_modulo : ℕ × ℕ → Option WrittenField
field_modulo (degree, polynomial) = if has_field degree polynomial then Some (polynomials_modulo degree polynomial) else None

-- the field of a word by the modulus that it writes, None where it writes none: that of its name, or the polynomials modulo the modulus
abbrev pub field_of_word : List ℕ → Option (ℕ × ℕ) → Option WrittenField
field_of_word word None = look_up word fields
field_of_word word (Some modulus) = field_modulo modulus

-- the field that a word names
abbrev pub field_named : List ℕ → Option WrittenField
field_named word = field_of_word word (modulus_written word)
