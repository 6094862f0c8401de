-- The answer to a line, both as lists of bytes. The words of a line are the name of a field, the name of an operation and
-- the operands. A line with several faults is answered with the first: its encoding, its field, the modulus of that, its operation,
-- the number of its operands, their digits, their range.
use Rattle.std.specs.Prelude.{ℕ, ◌^◌, ◌&&◌, nat_lt, if◌then◌else◌, List, [], ◌∷◌, codes, Option, Some, None}
use Rattle.std.specs.Str.{is_utf8}
use Rattle.calculator.specs.Words.{words}
use Rattle.calculator.specs.Digits.{operand_value}
use Rattle.calculator.specs.Elements.{element_text}
use Rattle.calculator.specs.Fields.{WrittenField, bytes_of, field_named}
use Rattle.calculator.specs.Moduli.{modulus_written}
use Rattle.calculator.specs.Operations.{operation_named, binary_result, unary_result}
use Rattle.calculator.specs.Text.{error_text}
use Rattle.calculator.specs.declared.names.Binary.{Binary}
use Rattle.calculator.specs.declared.names.Unary.{Unary}
use Rattle.calculator.specs.declared.names.Operation.{Operation}
use Rattle.calculator.specs.declared.names.Operation.TheVariants.{OfTwo, OfOne}

-- the text of a result; `none` where there is none
abbrev pub result_text : WrittenField → Option ℕ → List ℕ
result_text field None = codes "none"
result_text field (Some x) = element_text field x

-- the number that an operand writes; None for a word that is no operand of the field
abbrev pub operand_number : WrittenField → List ℕ → Option ℕ
operand_number field word = operand_value (bytes_of field) word

-- the answer by the numbers of two operands, None for a word that is no operand
abbrev pub answer_to_two : WrittenField → Binary → Option ℕ → Option ℕ → List ℕ
answer_to_two field operation (Some x) (Some y) =
    if nat_lt x (2 ^ field.bits) && nat_lt y (2 ^ field.bits)
    then result_text field (Some (binary_result field.times operation (field.order x) (field.order y))) else error_text 5
answer_to_two field operation x y = error_text 4

-- the answer by the number of the only operand, None for a word that is no operand
abbrev pub answer_to_one : WrittenField → Unary → Option ℕ → List ℕ
answer_to_one field operation (Some x) =
    if nat_lt x (2 ^ field.bits) then result_text field (unary_result field.bits field.times operation (field.order x)) else error_text 5
answer_to_one field operation None = error_text 4

-- the answer by the words after the operation
abbrev pub answer_to_operands : WrittenField → Operation → List (List ℕ) → List ℕ
answer_to_operands field (OfTwo operation) (left ∷ right ∷ []) =
    answer_to_two field operation (operand_number field left) (operand_number field right)
answer_to_operands field (OfOne operation) (operand ∷ []) = answer_to_one field operation (operand_number field operand)
answer_to_operands field operation operands = error_text 3

-- the answer by the operation, None for an unknown one, and the words after it
abbrev pub answer_by_operation : WrittenField → Option Operation → List (List ℕ) → List ℕ
answer_by_operation field None operands = error_text 2
answer_by_operation field (Some operation) operands = answer_to_operands field operation operands

-- the answer by the words after the name of the field
abbrev pub answer_to_rest : WrittenField → List (List ℕ) → List ℕ
answer_to_rest field [] = error_text 2
answer_to_rest field (name ∷ operands) = answer_by_operation field (operation_named name) operands

-- the number of the error of a word that names no field: by the degree and the polynomial that it writes, None where it writes none
abbrev pub no_field_error : Option (ℕ × ℕ) → ℕ
no_field_error None = 1
no_field_error (Some modulus) = 7

-- the answer by the modulus that the first word writes, by the field that it names, None for an unknown one, and by the words after it
abbrev pub answer_by_field : Option (ℕ × ℕ) → Option WrittenField → List (List ℕ) → List ℕ
answer_by_field modulus None rest = error_text (no_field_error modulus)
answer_by_field modulus (Some field) rest = answer_to_rest field rest

-- the answer by the words of the line
abbrev pub answer_to_words : List (List ℕ) → List ℕ
answer_to_words [] = error_text 1
answer_to_words (name ∷ rest) = answer_by_field (modulus_written name) (field_named name) rest

-- the answer to a line, with no line feed
unfoldable pub answer_of : List ℕ → List ℕ
answer_of line = if is_utf8 line then answer_to_words (words line) else error_text 6
