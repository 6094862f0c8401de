-- The faults of a line, in the words of the line format, and the order in which they are told. A line is text. Its words are
-- the name of a field, the name of an operation and as many operands as the operation takes. An operand has two hexadecimal
-- digits for each byte of an element, the highest first, and writes a number below 2 to the power of the bits.
use Rattle.std.specs.Prelude.{◌≡◌, ◌≢◌, ◌↔◌, ℕ, ◌+◌, ◌*◌, ◌^◌, ◌<◌, true, List, [], ◌∷◌, length, drop, fold, map, All, Option, Some, None}
use Rattle.std.specs.List.{slice_get}
use Rattle.std.specs.Option.{option_and_then, unwrap_or}
use Rattle.std.specs.Str.{IsUtf8}
use Rattle.hex.specs.Hex.{hex_digit_value, is_hex_digit}
use Rattle.calculator.specs.Words.{words}
use Rattle.calculator.specs.Fields.{WrittenField, bytes_of, field_named}
use Rattle.calculator.specs.Moduli.{modulus_written}
use Rattle.calculator.specs.Operations.{operation_named, binary_result, unary_result}
use Rattle.calculator.specs.Text.{error_text}
use Rattle.calculator.specs.Answer.{result_text, answer_of}
use Rattle.calculator.specs.declared.names.Operation.{Operation}
use Rattle.calculator.specs.declared.names.Operation.TheVariants.{OfTwo, OfOne}

-- ---- the parts of a line

-- the field that the first word names; None where there is no word, or it names none
abbrev pub field_in : List ℕ → Option WrittenField
field_in line = option_and_then field_named (slice_get (words line) 0)

-- the degree and the polynomial that the first word writes; None where there is no word, or it writes none
abbrev pub modulus_in : List ℕ → Option (ℕ × ℕ)
modulus_in line = option_and_then modulus_written (slice_get (words line) 0)

-- the operation that the second word names; None where there is no such word, or it names none
abbrev pub operation_in : List ℕ → Option Operation
operation_in line = option_and_then operation_named (slice_get (words line) 1)

-- the words after the first two
abbrev pub operands_in : List ℕ → List (List ℕ)
operands_in line = drop 2 (words line)

-- how many operands an operation takes
abbrev pub operand_count : Operation → ℕ
operand_count (OfTwo operation) = 2
operand_count (OfOne operation) = 1

-- ---- operands

-- a digit is 0 to 9, a to f or A to F
abbrev pub IsDigit : ℕ → Type 0
IsDigit byte = is_hex_digit byte ≡ true

-- an operand has two digits for each byte of an element
abbrev pub IsOperand : WrittenField → List ℕ → Type 0
IsOperand field word = (length word ≡ 2 * bytes_of field) × All IsDigit word

-- the number that digits write, the highest first
abbrev pub number_written : List ℕ → ℕ
number_written word = fold (λ n digit. n * 16 + unwrap_or (hex_digit_value digit) 0) 0 word

-- the digits write the number of an element
abbrev pub IsInRange : WrittenField → List ℕ → Type 0
IsInRange field word = number_written word < 2 ^ field.bits

-- the result of an operation at the numbers that its operands write; None for the inverse of 0
abbrev pub result_at : WrittenField → Operation → List ℕ → Option ℕ
result_at field (OfTwo operation) (x ∷ y ∷ []) = Some (binary_result field.times operation (field.order x) (field.order y))
result_at field (OfOne operation) (x ∷ []) = unary_result field.bits field.times operation (field.order x)
result_at field operation numbers = None

-- ---- the order

-- the line is text whose first word names the field
abbrev pub NamesField : List ℕ → WrittenField → Type 0
NamesField line field = IsUtf8 line × (field_in line ≡ Some field)

-- the first word names the field, and the second word the operation
abbrev pub NamesOperation : List ℕ → WrittenField → Operation → Type 0
NamesOperation line field operation = NamesField line field × (operation_in line ≡ Some operation)

-- these are named, and the line has as many operands as the operation takes
abbrev pub HasItsOperands : List ℕ → WrittenField → Operation → Type 0
HasItsOperands line field operation = NamesOperation line field operation × (length (operands_in line) ≡ operand_count operation)

-- when a line is answered with each error: each sentence is about the lines in which those before it find no fault
pub record FaultsInOrder (line : List ℕ) : Type 0 where
  -- the line is not UTF-8
  pub encoding : (answer_of line ≡ error_text 6) ↔ (IsUtf8 line → ⊥)
  -- else there is no first word, or it names no field and writes no modulus of one
  pub field : IsUtf8 line → (answer_of line ≡ error_text 1) ↔ ((field_in line ≡ None) × (modulus_in line ≡ None))
  -- else the first word writes a modulus, and no field has it
  pub modulus : IsUtf8 line → (answer_of line ≡ error_text 7) ↔ ((field_in line ≡ None) × (modulus_in line ≢ None))
  -- else there is no second word, or it names no operation
  pub operation : (known : WrittenField) → NamesField line known → (answer_of line ≡ error_text 2) ↔ (operation_in line ≡ None)
  -- else the number of operands is not the one that the operation takes
  pub operands : (known : WrittenField) (named : Operation) → NamesOperation line known named
      → (answer_of line ≡ error_text 3) ↔ (length (operands_in line) ≢ operand_count named)
  -- else the length or a digit of some operand is wrong
  pub digits : (known : WrittenField) (named : Operation) → HasItsOperands line known named
      → (answer_of line ≡ error_text 4) ↔ (All (IsOperand known) (operands_in line) → ⊥)
  -- else some operand writes a number that is too large for the field
  pub range : (known : WrittenField) (named : Operation) → HasItsOperands line known named → All (IsOperand known) (operands_in line)
      → (answer_of line ≡ error_text 5) ↔ (All (IsInRange known) (operands_in line) → ⊥)
  -- else the answer is the result of the operation, as digits, or `none`
  pub result : (known : WrittenField) (named : Operation) → HasItsOperands line known named → All (IsOperand known) (operands_in line)
      → All (IsInRange known) (operands_in line)
      → answer_of line ≡ result_text known (result_at known named (map number_written (operands_in line)))
