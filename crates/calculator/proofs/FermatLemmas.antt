-- Inverses and square roots in a field as powers: in a field of q elements the inverse of x is x ^ (q - 2), and the square
-- root is reached by one squaring fewer than give the element back.
use Rattle.std.proofs.Common.{◌≡◌, ◌≢◌, ℕ, ◌-◌, ◌^◌, ◌<◌, Bool, cond, List, Option, Some, None, refl, sym, ◌∙◌, ap, lit<}
use Rattle.std.specs.Option.{option_map}
use Rattle.std.proofs.lemmas.Bool.{eq-eqb, ne_eqb}
use Rattle.std.proofs.lemmas.Nat.{pow_pos}
use Rattle.field_base.specs.Field.{IsField}
use Rattle.field_base.specs.Remainder.{mul_mod, aes_modulus, poly64_modulus, ghash_modulus}
use Rattle.field_base.specs.Powers.{power, repeated_square}
use Rattle.field_base.specs.Tower.{tower_mul}
use Rattle.field_base.proofs.FieldLemmas.{inverse-power, power-inverts, root_is_squarings, squarings-square}
use Rattle.field_base.proofs.TowerLaws.{tower_field}
use Rattle.word_polynomial.specs.Cubic.{cubic}
use Rattle.word_polynomial.specs.lemmas.CubicField.{cubic_is_field}
use Rattle.word_tables.proofs.Isomorphisms.{field_8, field_64, field_128}
use Rattle.calculator.specs.Fields.{WrittenField, written_field, undivided, lowest_first, tower_level, polynomials_modulo, cubic_extension, field_named}
use Rattle.calculator.specs.Operations.{unary_result}
use Rattle.calculator.proofs.ModulusLemmas.{has_field-field}
use Rattle.calculator.proofs.NamedFields.{all_named}
use Rattle.calculator.specs.declared.names.Unary.TheVariants.{Inv, Sqrt}

-- a number is wanted where the answer is an element, and none where it is none
pub by_answer_of : {E : Type 0} (repr : E → ℕ) (answer : Option E) (want : Option ℕ) → (answer ≡ None → None ≡ want)
    → ((y : E) → answer ≡ Some y → Some (repr y) ≡ want) → option_map repr answer ≡ want
by_answer_of repr None want none some = none refl
by_answer_of repr (Some y) want none some = some y refl

-- `by_answer_of` for an answer that is a number
pub by_answer : (answer want : Option ℕ) → (answer ≡ None → None ≡ want) → ((y : ℕ) → answer ≡ Some y → Some y ≡ want) → answer ≡ want
by_answer None want none some = none refl
by_answer (Some y) want none some = some y refl

module _ (width : ℕ) (times : ℕ → ℕ → ℕ) (field : IsField width times) (wide : 0 < width) where
  -- ---- what the code answers

  -- the y with x * y = 1 is x ^ (q - 2), the inverse of the definition
  pub inverse-some : (x y number : ℕ) → x < 2 ^ width → (x ≡ 0 → ⊥) → y < 2 ^ width → times x y ≡ 1 → number ≡ y
      → Some number ≡ unary_result width times Inv x
  inverse-some x y number fits nonzero low inverts is =
      ap Some (is ∙ inverse-power width times field wide x y fits low inverts)
      ∙ ap (λ (b : Bool). cond b None (Some (power 1 times x (2 ^ width - 2)))) (sym (ne_eqb x 0 nonzero))

  -- 0 has no inverse in the definition
  pub inverse-none : (x : ℕ) → x ≡ 0 → None ≡ unary_result width times Inv x
  inverse-none x nothing = ap (λ (b : Bool). cond b None (Some (power 1 times x (2 ^ width - 2)))) (sym (eq-eqb x 0 nothing))

  -- the root whose square is x is the square root of the definition
  pub root-some : (x root number : ℕ) → root < 2 ^ width → times root root ≡ x → number ≡ root
      → Some number ≡ unary_result width times Sqrt x
  root-some x root number low squares is = ap Some (is ∙ root_is_squarings width times field wide x root low squares)

-- ---- the laws of each field that a line may name

-- what the laws say of a field
pub record HasInverseAndRoot (field : WrittenField) : Type 0 where
  pub inverse : (x : ℕ) → x < 2 ^ field.bits → x ≢ 0 → field.times x (power 1 field.times x (2 ^ field.bits - 2)) ≡ 1
  pub root : (x : ℕ) → x < 2 ^ field.bits
      → field.times (repeated_square 1 field.times (field.bits - 1) x) (repeated_square 1 field.times (field.bits - 1) x) ≡ x

-- in each field x ^ (q - 2) is the inverse of a nonzero x, and x ^ (q / 2) the square root of x
field-laws : (width : ℕ) (times : ℕ → ℕ → ℕ) (order : ℕ → ℕ) → 0 < width → IsField width times → HasInverseAndRoot (written_field width times order)
field-laws width times order wide field =
    record { inverse = power-inverts width times field wide; root = squarings-square width times field wide }

-- these hold at each level of the tower
tower-laws : (k : ℕ) → HasInverseAndRoot (tower_level k)
tower-laws k = field-laws (2 ^ k) (tower_mul k) undivided (pow_pos k) (tower_field k)

-- these hold for polynomials modulo one that gives a field
polynomial-laws : (width modulus : ℕ) → 0 < width → IsField width (mul_mod width modulus)
    → HasInverseAndRoot (polynomials_modulo width modulus)
polynomial-laws width modulus = field-laws width (mul_mod width modulus) undivided

-- these hold in the cubic extension
cubic-laws : HasInverseAndRoot cubic_extension
cubic-laws =
    field-laws 192 (cubic 64 (mul_mod 64 poly64_modulus)) lowest_first (lit< tt)
    (cubic_is_field 64 (mul_mod 64 poly64_modulus) field_64 (lit< tt) refl)

-- these hold in each field that a line may name
pub named-laws : (name : List ℕ) (field : WrittenField) → field_named name ≡ Some field → HasInverseAndRoot field
named-laws =
    all_named HasInverseAndRoot tower-laws (polynomial-laws 8 aes_modulus (lit< tt) field_8)
    (polynomial-laws 64 poly64_modulus (lit< tt) field_64) (polynomial-laws 128 ghash_modulus (lit< tt) field_128) cubic-laws
    (λ m p pass. let field = has_field-field m p pass in polynomial-laws m p field.0 field.1)
