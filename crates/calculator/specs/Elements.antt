-- Elements of a field as text.
use Rattle.std.specs.Prelude.{◌≡◌, ℕ, ◌^◌, ◌<◌, List, ◌++◌, Some}
use Rattle.std.specs.Option.{option_map}
use Rattle.word_polynomial.specs.Cubic.{triple}
use Rattle.calculator.specs.Digits.{hex_text, operand_value}
use Rattle.calculator.specs.Fields.{WrittenField, bytes_of, cubic_extension, field_named}

-- the text of the element of a number
abbrev pub element_text : WrittenField → ℕ → List ℕ
element_text field x = hex_text (bytes_of field) (field.order x)

-- in every field that a word names the text of an element is an operand, which writes this element
abbrev pub ElementIsReadBack : Type 0
ElementIsReadBack =
    (name : List ℕ) (field : WrittenField) → field_named name ≡ Some field → (x : ℕ) → x < 2 ^ field.bits
    → option_map field.order (operand_value (bytes_of field) (element_text field x)) ≡ Some x

-- the text of an element of the cubic extension is the texts of its coefficients, the lowest first
abbrev pub CoefficientsStandInOrder : Type 0
CoefficientsStandInOrder =
    (c0 c1 c2 : ℕ) → c0 < 2 ^ 64 → c1 < 2 ^ 64 → c2 < 2 ^ 64
    → element_text cubic_extension (triple 64 c0 c1 c2) ≡ hex_text 8 c0 ++ hex_text 8 c1 ++ hex_text 8 c2
