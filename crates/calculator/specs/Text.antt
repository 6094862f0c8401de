-- The texts of answers.
use Rattle.std.specs.Prelude.{ℕ, ◌+◌, List, [], ◌∷◌, ◌++◌, codes, take, Result, Ok, Err}
use Rattle.calculator.specs.declared.text.Answer.{Answer}
use Rattle.calculator.specs.declared.names.Fault.{Fault}
use Rattle.calculator.specs.declared.names.Fault.TheVariants.{Field, Modulus, Operation, Operands, Digits, Range, Encoding}

-- the bytes of an answer, with no line feed
abbrev pub answer_bytes : Answer → List ℕ
answer_bytes answer = take answer.len answer.bytes

-- the text of the error of a number below ten
abbrev pub error_text : ℕ → List ℕ
error_text number = codes "error " ++ ((48 + number) ∷ [])

-- the number of the error that says what is wrong with a line
abbrev pub error_number : Fault → ℕ
error_number Field = 1
error_number Modulus = 7
error_number Operation = 2
error_number Operands = 3
error_number Digits = 4
error_number Range = 5
error_number Encoding = 6

-- the text of an answer or of a fault
abbrev pub text_of : Result Answer Fault → List ℕ
text_of (Ok answer) = answer_bytes answer
text_of (Err fault) = error_text (error_number fault)
