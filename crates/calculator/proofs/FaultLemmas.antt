-- When a line is answered with each error.
use Rattle.std.proofs.Common.{◌≡◌, ◌≢◌, ◌↔◌, ℕ, ◌+◌, ◌*◌, ◌^◌, ◌<◌, ◌≤◌, ◌&&◌, nat_lt, Bool, true, false, cond, List, [], ◌∷◌, length, drop, fold, map, get_or, Option, Some, None, is_some, ◌⊎◌, inl, inr, ⊎_elim, refl, sym, subst, ◌∙◌, ap, ap₂, arith, lit<}
use Rattle.std.specs.Prelude.{All, codes}
use Rattle.std.specs.List.{slice_get}
use Rattle.std.specs.Option.{option_and_then, unwrap_or}
use Rattle.std.specs.Str.{IsUtf8, is_utf8}
use Rattle.std.proofs.lemmas.Bool.{eq-eqb, ne_eqb, cases_eq, cases_lt, lt-ltb, le-ltb, cond-true, cond-false, false_from_ne_true}
use Rattle.std.proofs.lemmas.List.Elements.{All-nil, All-cons, All-head, All-tail}
use Rattle.std.proofs.lemmas.Str.{IsUtf8-from_is_utf8, is_utf8-from_IsUtf8}
use Rattle.hex.specs.Hex.{hex_digit_value}
use Rattle.calculator.specs.Words.{words}
use Rattle.calculator.specs.Digits.{number_after, operand_value}
use Rattle.calculator.specs.Elements.{element_text}
use Rattle.calculator.specs.Fields.{WrittenField, bytes_of, field_named}
use Rattle.calculator.specs.Moduli.{modulus_written}
use Rattle.calculator.specs.Operations.{operation_named, binary_result, unary_result}
use Rattle.calculator.specs.Text.{error_text}
use Rattle.calculator.specs.Answer.{no_field_error, result_text, answer_to_two, answer_to_one, answer_to_operands, answer_by_operation, answer_by_field, answer_to_words, answer_of}
use Rattle.calculator.specs.Faults.{field_in, modulus_in, operation_in, operands_in, operand_count, IsDigit, IsOperand, number_written, IsInRange, result_at, FaultsInOrder}
use Rattle.calculator.specs.declared.names.Binary.{Binary}
use Rattle.calculator.specs.declared.names.Unary.{Unary}
use Rattle.calculator.specs.declared.names.Operation.{Operation}
use Rattle.calculator.specs.declared.names.Operation.TheVariants.{OfTwo, OfOne}
use Rattle.calculator.proofs.DigitLemmas.{length-low_digits}

-- ---- what operands write

-- the number that digits write after those of n; what is no digit counts as 0
abbrev digits_after : ℕ → List ℕ → ℕ
digits_after n word = fold (λ n digit. n * 16 + unwrap_or (hex_digit_value digit) 0) n word

-- a first digit that is known leads to the number of the digits after it
after_digit : (n : ℕ) (rest : List ℕ) (value : Option ℕ) → is_some value ≡ true
    → ((m : ℕ) → number_after m rest ≡ Some (digits_after m rest))
    → option_and_then (λ v. number_after (n * 16 + v) rest) value ≡ Some (digits_after (n * 16 + unwrap_or value 0) rest)
after_digit n rest None known more = absurd (cc)
after_digit n rest (Some v) known more = more (n * 16 + v)

-- digits have a number
number_after-digits : (n : ℕ) (word : List ℕ) → All IsDigit word → number_after n word ≡ Some (digits_after n word)
unfolding number_after
number_after-digits n [] all = refl
number_after-digits n (digit ∷ rest) all =
    after_digit n rest (hex_digit_value digit) (All-head IsDigit digit rest all)
    (λ m. number_after-digits m rest (All-tail IsDigit digit rest all))

-- where a number is read, its first character is a digit, and the rest is read after it
digit_read : (n x : ℕ) (rest : List ℕ) (value : Option ℕ) → option_and_then (λ v. number_after (n * 16 + v) rest) value ≡ Some x
    → (is_some value ≡ true) × ((m : ℕ) × (number_after m rest ≡ Some x))
digit_read n x rest None read = absurd (cc)
digit_read n x rest (Some v) read = (refl, (n * 16 + v, read))

-- where a number is read, all characters are digits
digits_read : (n x : ℕ) (word : List ℕ) → number_after n word ≡ Some x → All IsDigit word
unfolding number_after
digits_read n x [] read = All-nil IsDigit
digits_read n x (digit ∷ rest) read =
    let first = digit_read n x rest (hex_digit_value digit) read in
    All-cons IsDigit digit rest first.0 (digits_read first.1.0 x rest first.1.1)

-- an operand has its number
operand_value-number : (field : WrittenField) (word : List ℕ) → IsOperand field word → operand_value (bytes_of field) word ≡ Some (number_written word)
unfolding operand_value
operand_value-number field word is =
    ap (λ (b : Bool). cond b (number_after 0 word) None) (eq-eqb (length word) (2 * bytes_of field) is.0) ∙ number_after-digits 0 word is.1

-- and only an operand has one
IsOperand-read : (field : WrittenField) (word : List ℕ) (x : ℕ) → operand_value (bytes_of field) word ≡ Some x → IsOperand field word
unfolding operand_value
IsOperand-read field word x read =
    ⊎_elim (λ same. (
      same,
      digits_read 0 x word
          (sym (ap (λ (b : Bool). cond b (number_after 0 word) None) (eq-eqb (length word) (2 * bytes_of field) same)) ∙ read),
    ))
    (λ other. let lost = sym (ap (λ (b : Bool). cond b (number_after 0 word) None) (ne_eqb (length word) (2 * bytes_of field) other)) ∙ read in absurd (cc))
    (cases_eq (length word) (2 * bytes_of field))

-- ---- errors are told apart

-- two errors with one text have one number
error_text-number : (j k : ℕ) → error_text j ≡ error_text k → j ≡ k
error_text-number j k same =
    let last : 48 + j ≡ 48 + k = ap (λ (text : List ℕ). get_or text 6 0) same in omega arith

-- an answer of another length tells of no fault
no_error : (answer : List ℕ) (k : ℕ) → (length answer ≡ 7 → ⊥) → answer ≡ error_text k → ⊥
no_error answer k other told = other (ap length told)

-- a result is no text of an error: it is `none`, or has an even number of digits
result_text-no_error : (field : WrittenField) (k : ℕ) (result : Option ℕ) → result_text field result ≡ error_text k → ⊥
result_text-no_error field k None told = no_error (codes "none") k (λ same. absurd (omega arith)) told
result_text-no_error field k (Some x) told =
    no_error (element_text field x) k
    (λ same. let digits = length-low_digits (2 * bytes_of field) (field.order x) in absurd (omega arith)) told

-- the answer tells of a fault after k, or of none
abbrev Later : ℕ → List ℕ → Type 0
Later k answer = ((j : ℕ) × ((k < j) × (j ≤ 5)) × (answer ≡ error_text j)) ⊎ ((j : ℕ) → answer ≡ error_text j → ⊥)

-- error j comes after error k where k < j
later_error : (k j : ℕ) → k < j → j ≤ 5 → Later k (error_text j)
later_error k j after low = inl (j, (after, low), refl)

-- what comes after error j comes after each error k below it
later_weaker : (k j : ℕ) (answer : List ℕ) → k ≤ j → Later j answer → Later k answer
later_weaker k j answer le (inl told) = inl (told.0, (omega arith, told.1.1), told.2)
later_weaker k j answer le (inr none) = inr none

-- so that it tells of none up to k, and not of the encoding
later_never : (k j : ℕ) (answer : List ℕ) → Later k answer → ((k < j) × (j ≤ 5) → ⊥) → answer ≡ error_text j → ⊥
later_never k j answer (inl told) outside is =
    let same : told.0 ≡ j = error_text-number told.0 j (sym told.2 ∙ is) in outside (omega arith, omega arith)
later_never k j answer (inr none) outside is = none j is

-- ---- the answer by the operands

-- what the sentences say of the operands of an operation
record OperandFaults (field : WrittenField) (operation : Operation) (operands : List (List ℕ)) (answer : List ℕ) : Type 0 where
  count : (answer ≡ error_text 3) ↔ (length operands ≢ operand_count operation)
  digits : length operands ≡ operand_count operation → (answer ≡ error_text 4) ↔ (All (IsOperand field) operands → ⊥)
  range : length operands ≡ operand_count operation → All (IsOperand field) operands
      → (answer ≡ error_text 5) ↔ (All (IsInRange field) operands → ⊥)
  result : length operands ≡ operand_count operation → All (IsOperand field) operands → All (IsInRange field) operands
      → answer ≡ result_text field (result_at field operation (map number_written operands))
  later : Later 2 answer

-- with too few or too many operands the answer is error 3, and the other sentences say nothing
miscounted : (field : WrittenField) (operation : Operation) (operands : List (List ℕ)) → length operands ≢ operand_count operation
    → OperandFaults field operation operands (error_text 3)
miscounted field operation operands other = record {
  count = (λ told. other, λ differs. refl);
  digits = λ same. absurd (other same);
  range = λ same. absurd (other same);
  result = λ same. absurd (other same);
  later = later_error 2 3 (lit< tt) (omega arith);
}

-- after the test of the range an answer is error 5 or no error
later_ranged : (in_range : Bool) (answer : List ℕ) → ((j : ℕ) → answer ≡ error_text j → ⊥) → Later 4 (cond in_range answer (error_text 5))
later_ranged true answer none = inr none
later_ranged false answer none = later_error 4 5 (lit< tt) (omega arith)

-- the operands are as many as the operation takes
module _ (field : WrittenField) (operation : Operation) (operands : List (List ℕ)) (same : length operands ≡ operand_count operation) where
  -- the answer where nothing is wrong: what the operation gives at the numbers of the operands
  abbrev wanted : List ℕ
  wanted = result_text field (result_at field operation (map number_written operands))

  -- an answer that is error 4 unless each operand can be read, and else error 5 unless each is in range, meets the sentences
  counted : (in_range : Bool) (answer : List ℕ) → Later 3 answer → ((All (IsOperand field) operands → ⊥) → answer ≡ error_text 4)
      → (All (IsOperand field) operands → answer ≡ cond in_range wanted (error_text 5))
      → (in_range ≡ true → All (IsInRange field) operands) → (All (IsInRange field) operands → in_range ≡ true)
      → OperandFaults field operation operands answer
  counted in_range answer later unread read holds back = record {
    count = (λ told. absurd (later_never 3 3 answer later (λ after. absurd (omega arith)) told), λ differs. absurd (differs same));
    digits = λ same_count. (
      λ told all. later_never 4 4 (cond in_range wanted (error_text 5))
          (later_ranged in_range wanted (λ j. result_text-no_error field j (result_at field operation (map number_written operands))))
          (λ after. absurd (omega arith)) (sym (read all) ∙ told),
      unread,
    );
    range = λ same_count all. (
      λ told low. result_text-no_error field 5 (result_at field operation (map number_written operands))
          (sym (cond-true in_range wanted (error_text 5) (back low)) ∙ sym (read all) ∙ told),
      λ never. read all ∙ cond-false in_range wanted (error_text 5) (false_from_ne_true in_range (λ is. never (holds is))),
    );
    result = λ same_count all low. read all ∙ cond-true in_range wanted (error_text 5) (back low);
    later = later_weaker 2 3 answer (omega arith) later;
  }

-- ---- tests of the range

-- the test of x < m holds only where x < m
test_below : (x m : ℕ) → nat_lt x m ≡ true → x < m
test_below x m test = ⊎_elim (λ below. below) (λ above. let lost = sym (le-ltb x m above) ∙ test in absurd (cc)) (cases_lt x m)

-- a conjunction that is true has a true left side
and_left : (a b : Bool) → (a && b) ≡ true → a ≡ true
and_left true b both = refl
and_left false b both = both

-- a conjunction that is true has a true right side
and_right : (a b : Bool) → (a && b) ≡ true → b ≡ true
and_right true b both = both
and_right false b both = absurd (cc)

module _ (P : List ℕ → Type 0) where
  -- what holds of x holds of all of [x]
  All-one : (x : List ℕ) → P x → All P (x ∷ [])
  All-one x first = All-cons P x [] first (All-nil P)

  -- what holds of x and of y holds of all of [x, y]
  All-two : (x y : List ℕ) → P x → P y → All P (x ∷ y ∷ [])
  All-two x y first second = All-cons P x (y ∷ []) first (All-one y second)

  -- what holds of all of [x] holds of x
  one-All : (x : List ℕ) → All P (x ∷ []) → P x
  one-All x all = All-head P x [] all

  -- what holds of all of [x, y] holds of x and of y
  two-All : (x y : List ℕ) → All P (x ∷ y ∷ []) → P x × P y
  two-All x y all = (All-head P x (y ∷ []) all, one-All y (All-tail P x (y ∷ []) all))

-- ---- two operands

module _ (field : WrittenField) (operation : Binary) (left right : List ℕ) where
  -- an operand that has no number
  unread-two : (x y : Option ℕ) → operand_value (bytes_of field) left ≡ x → operand_value (bytes_of field) right ≡ y
      → (All (IsOperand field) (left ∷ right ∷ []) → ⊥) → answer_to_two field operation x y ≡ error_text 4
  unread-two None y left_is right_is none = refl
  unread-two (Some x) None left_is right_is none = refl
  unread-two (Some x) (Some y) left_is right_is none =
      absurd (none (All-two (IsOperand field) left right (IsOperand-read field left x left_is) (IsOperand-read field right y right_is)))

  -- the answer to two operands is error 4, error 5 or no error
  later-two : (x y : Option ℕ) → Later 3 (answer_to_two field operation x y)
  later-two None y = later_error 3 4 (lit< tt) (omega arith)
  later-two (Some x) None = later_error 3 4 (lit< tt) (omega arith)
  later-two (Some x) (Some y) =
      later_weaker 3 4 _ (omega arith) (later_ranged (nat_lt x (2 ^ field.bits) && nat_lt y (2 ^ field.bits)) _
      (λ j. result_text-no_error field j (Some (binary_result field.times operation (field.order x) (field.order y)))))

  -- two words that are operands are answered by the numbers that they write
  read-two : All (IsOperand field) (left ∷ right ∷ [])
      → answer_to_two field operation (operand_value (bytes_of field) left) (operand_value (bytes_of field) right)
      ≡ answer_to_two field operation (Some (number_written left)) (Some (number_written right))
  read-two all =
      let each = two-All (IsOperand field) left right all in
      ap₂ (answer_to_two field operation) (operand_value-number field left each.0) (operand_value-number field right each.1)

  -- the answer to two operands meets the sentences
  faults-two : OperandFaults field (OfTwo operation) (left ∷ right ∷ [])
      (answer_to_two field operation (operand_value (bytes_of field) left) (operand_value (bytes_of field) right))
  faults-two =
      counted field (OfTwo operation) (left ∷ right ∷ []) refl
      (nat_lt (number_written left) (2 ^ field.bits) && nat_lt (number_written right) (2 ^ field.bits)) _ (later-two _ _)
      (unread-two _ _ refl refl) read-two
      (λ test. All-two (IsInRange field) left right (test_below _ _ (and_left _ _ test)) (test_below _ _ (and_right _ _ test)))
      (λ low. let each = two-All (IsInRange field) left right low in
      ap₂ (λ (a b : Bool). a && b) (lt-ltb _ _ each.0) (lt-ltb _ _ each.1))

-- ---- one operand

module _ (field : WrittenField) (operation : Unary) (operand : List ℕ) where
  -- an operand that has no number
  unread-one : (x : Option ℕ) → operand_value (bytes_of field) operand ≡ x → (All (IsOperand field) (operand ∷ []) → ⊥)
      → answer_to_one field operation x ≡ error_text 4
  unread-one None is none = refl
  unread-one (Some x) is none = absurd (none (All-one (IsOperand field) operand (IsOperand-read field operand x is)))

  -- the answer to one operand is error 4, error 5 or no error
  later-one : (x : Option ℕ) → Later 3 (answer_to_one field operation x)
  later-one None = later_error 3 4 (lit< tt) (omega arith)
  later-one (Some x) =
      later_weaker 3 4 _ (omega arith) (later_ranged (nat_lt x (2 ^ field.bits)) _
      (λ j. result_text-no_error field j (unary_result field.bits field.times operation (field.order x))))

  -- the answer to one operand meets the sentences
  faults-one : OperandFaults field (OfOne operation) (operand ∷ []) (answer_to_one field operation (operand_value (bytes_of field) operand))
  faults-one =
      counted field (OfOne operation) (operand ∷ []) refl (nat_lt (number_written operand) (2 ^ field.bits)) _ (later-one _) (unread-one _ refl)
      (λ all. ap (answer_to_one field operation) (operand_value-number field operand (one-All (IsOperand field) operand all)))
      (λ test. All-one (IsInRange field) operand (test_below _ _ test)) (λ low. lt-ltb _ _ (one-All (IsInRange field) operand low))

-- ---- the operands of an operation

-- the answer to any list of operands meets the sentences
faults-operands : (field : WrittenField) (operation : Operation) (operands : List (List ℕ))
    → OperandFaults field operation operands (answer_to_operands field operation operands)
faults-operands field (OfTwo operation) [] = miscounted field (OfTwo operation) [] (λ same. absurd (omega arith))
faults-operands field (OfTwo operation) (a ∷ []) = miscounted field (OfTwo operation) (a ∷ []) (λ same. absurd (omega arith))
faults-operands field (OfTwo operation) (a ∷ b ∷ []) = faults-two field operation a b
faults-operands field (OfTwo operation) (a ∷ b ∷ c ∷ rest) = miscounted field (OfTwo operation) (a ∷ b ∷ c ∷ rest) (λ same. absurd (omega arith))
faults-operands field (OfOne operation) [] = miscounted field (OfOne operation) [] (λ same. absurd (omega arith))
faults-operands field (OfOne operation) (a ∷ []) = faults-one field operation a
faults-operands field (OfOne operation) (a ∷ b ∷ rest) = miscounted field (OfOne operation) (a ∷ b ∷ rest) (λ same. absurd (omega arith))

-- ---- the words of a line

-- the answer by what the first two words name and by the words after them
abbrev answer_by_names : Option (ℕ × ℕ) → Option WrittenField → Option Operation → List (List ℕ) → List ℕ
answer_by_names modulus None operation operands = error_text (no_field_error modulus)
answer_by_names modulus (Some field) operation operands = answer_by_operation field operation operands

-- what the sentences say of them
record NameFaults (modulus : Option (ℕ × ℕ)) (field : Option WrittenField) (operation : Option Operation) (operands : List (List ℕ)) (answer : List ℕ)
    : Type 0 where
  names_field : (answer ≡ error_text 1) ↔ ((field ≡ None) × (modulus ≡ None))
  names_modulus : (answer ≡ error_text 7) ↔ ((field ≡ None) × (modulus ≢ None))
  names_operation : (known : WrittenField) → field ≡ Some known → (answer ≡ error_text 2) ↔ (operation ≡ None)
  takes : (known : WrittenField) (named : Operation) → field ≡ Some known → operation ≡ Some named → OperandFaults known named operands answer
  is_text : answer ≡ error_text 6 → ⊥

-- a name stands for one field, and for one operation
known_faults : (field known : WrittenField) (operation named : Operation) (operands : List (List ℕ)) {answer : List ℕ}
    → Some field ≡ Some known → Some operation ≡ Some named → OperandFaults field operation operands answer
    → OperandFaults known named operands answer
known_faults field known operation named operands {answer} is named_is faults =
    let same : field ≡ known = cc in
    let same_operation : operation ≡ named = cc in
    subst (λ (f : WrittenField). OperandFaults f named operands answer) same
    (subst (λ (o : Operation). OperandFaults field o operands answer) same_operation faults)

-- no error of a first word is that of the encoding
no_field-text : (modulus : Option (ℕ × ℕ)) → error_text (no_field_error modulus) ≡ error_text 6 → ⊥
no_field-text None told = let same = error_text-number 1 6 told in absurd (omega arith)
no_field-text (Some modulus) told = let same = error_text-number 7 6 told in absurd (omega arith)

-- the error of a first word that names no field is 1 exactly where it writes no modulus
no_field-none : (modulus : Option (ℕ × ℕ)) → (error_text (no_field_error modulus) ≡ error_text 1) ↔ (modulus ≡ None)
no_field-none None = (λ told. refl, λ none. refl)
no_field-none (Some modulus) = (λ told. let same = error_text-number 7 1 told in absurd (omega arith), λ none. absurd (cc))

-- and 7 exactly where it writes one
no_field-some : (modulus : Option (ℕ × ℕ)) → (error_text (no_field_error modulus) ≡ error_text 7) ↔ (modulus ≢ None)
no_field-some None = (λ told. let same = error_text-number 1 7 told in absurd (omega arith), λ some. absurd (some refl))
no_field-some (Some modulus) = (λ told none. cc, λ some. refl)

-- a known field is followed by what comes after error 1
known_names : (modulus : Option (ℕ × ℕ)) (field : WrittenField) (operation : Option Operation) (operands : List (List ℕ)) (answer : List ℕ)
    → Later 1 answer → ((known : WrittenField) → Some field ≡ Some known → (answer ≡ error_text 2) ↔ (operation ≡ None))
    → ((known : WrittenField) (named : Operation) → Some field ≡ Some known → operation ≡ Some named → OperandFaults known named operands answer)
    → NameFaults modulus (Some field) operation operands answer
known_names modulus field operation operands answer later names takes = record {
  names_field = (λ told. absurd (later_never 1 1 answer later (λ after. absurd (omega arith)) told), λ none. absurd (some none.0));
  names_modulus = (λ told. absurd (later_never 1 7 answer later (λ after. absurd (omega arith)) told), λ none. absurd (some none.0));
  names_operation = names;
  takes = takes;
  is_text = later_never 1 6 answer later (λ after. absurd (omega arith));
}
  where
    some : Some field ≡ None → ⊥
    some none = cc

-- the answer by the names and the operands meets the sentences
faults-names : (modulus : Option (ℕ × ℕ)) (field : Option WrittenField) (operation : Option Operation) (operands : List (List ℕ))
    → NameFaults modulus field operation operands (answer_by_names modulus field operation operands)
faults-names modulus None operation operands = record {
  names_field = (λ told. (refl, (no_field-none modulus).0 told), λ none. (no_field-none modulus).1 none.1);
  names_modulus = (λ told. (refl, (no_field-some modulus).0 told), λ some. (no_field-some modulus).1 some.1);
  names_operation = λ known is. absurd (cc);
  takes = λ known named is. absurd (cc);
  is_text = no_field-text modulus;
}
faults-names modulus (Some field) None operands =
    known_names modulus field None operands (error_text 2) (later_error 1 2 (lit< tt) (omega arith)) (λ known is. (λ told. refl, λ none. refl))
    (λ known named is named_is. absurd (cc))
faults-names modulus (Some field) (Some operation) operands =
    let faults = faults-operands field operation operands in
    let answer = answer_to_operands field operation operands in
    known_names modulus field (Some operation) operands answer (later_weaker 1 2 answer (omega arith) faults.later)
    (λ known is. (λ told. absurd (later_never 2 2 answer faults.later (λ after. absurd (omega arith)) told), λ none. absurd (cc)))
    (λ known named is named_is. known_faults field known operation named operands is named_is faults)

-- a line of one word has no operation
answer_to_one_word : (modulus : Option (ℕ × ℕ)) (field : Option WrittenField) → answer_by_field modulus field [] ≡ answer_by_names modulus field None []
answer_to_one_word modulus None = refl
answer_to_one_word modulus (Some field) = refl

-- a second word names the operation, and the words after it are the operands
answer_to_more_words : (modulus : Option (ℕ × ℕ)) (field : Option WrittenField) (name : List ℕ) (operands : List (List ℕ))
    → answer_by_field modulus field (name ∷ operands) ≡ answer_by_names modulus field (operation_named name) operands
answer_to_more_words modulus None name operands = refl
answer_to_more_words modulus (Some field) name operands = refl

-- the answer to a line by what its first two words name
answer_to_words-names : (line : List (List ℕ))
    → answer_to_words line ≡ answer_by_names (option_and_then modulus_written (slice_get line 0))
    (option_and_then field_named (slice_get line 0)) (option_and_then operation_named (slice_get line 1)) (drop 2 line)
answer_to_words-names [] = refl
answer_to_words-names (name ∷ []) = answer_to_one_word (modulus_written name) (field_named name)
answer_to_words-names (name ∷ operation ∷ operands) = answer_to_more_words (modulus_written name) (field_named name) operation operands

-- ---- a line

-- a line of UTF-8 is answered by its words
answer_of-text : (line : List ℕ) → IsUtf8 line → answer_of line ≡ answer_by_names (modulus_in line) (field_in line) (operation_in line) (operands_in line)
unfolding answer_of
answer_of-text line text =
    cond-true (is_utf8 line) (answer_to_words (words line)) (error_text 6) (is_utf8-from_IsUtf8 line text) ∙ answer_to_words-names (words line)

-- a line that is not UTF-8 is answered with error 6
answer_of-no_text : (line : List ℕ) → (IsUtf8 line → ⊥) → answer_of line ≡ error_text 6
unfolding answer_of
answer_of-no_text line broken =
    cond-false (is_utf8 line) (answer_to_words (words line)) (error_text 6) (false_from_ne_true (is_utf8 line) (λ is. broken (IsUtf8-from_is_utf8 line is)))

-- the answer to a line of UTF-8 meets the sentences
faults-text : (line : List ℕ) → IsUtf8 line → NameFaults (modulus_in line) (field_in line) (operation_in line) (operands_in line) (answer_of line)
faults-text line text = rw (answer_of-text line text) (faults-names (modulus_in line) (field_in line) (operation_in line) (operands_in line))

-- the answer to each line meets the sentences in their order
pub FaultsInOrder-answer_of : (line : List ℕ) → FaultsInOrder line
FaultsInOrder-answer_of line = record {
  encoding = (λ told text. (faults-text line text).is_text told, answer_of-no_text line);
  field = λ text. (faults-text line text).names_field;
  modulus = λ text. (faults-text line text).names_modulus;
  operation = λ known is. (faults-text line is.0).names_operation known is.1;
  operands = λ known named is. ((faults-text line is.0.0).takes known named is.0.1 is.1).count;
  digits = λ known named is. ((faults-text line is.0.0.0).takes known named is.0.0.1 is.0.1).digits is.1;
  range = λ known named is. ((faults-text line is.0.0.0).takes known named is.0.0.1 is.0.1).range is.1;
  result = λ known named is. ((faults-text line is.0.0.0).takes known named is.0.0.1 is.0.1).result is.1;
}
