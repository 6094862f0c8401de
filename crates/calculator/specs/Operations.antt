-- The operations that a line may name, and what they give.
use Rattle.std.specs.Prelude.{◌≡◌, ◌≢◌, ℕ, ◌-◌, ◌^◌, ◌<◌, ◌==◌, IsSomeAnd, if◌then◌else◌, List, [], ◌∷◌, codes, Option, Some, None, bit_xor}
use Rattle.field_base.specs.Powers.{power, repeated_square}
use Rattle.calculator.specs.Fields.{WrittenField, field_named, look_up}
use Rattle.calculator.specs.declared.names.Binary.{Binary}
use Rattle.calculator.specs.declared.names.Binary.TheVariants.{Add, Mul}
use Rattle.calculator.specs.declared.names.Unary.{Unary}
use Rattle.calculator.specs.declared.names.Unary.TheVariants.{Square, Inv, Sqrt}
use Rattle.calculator.specs.declared.names.Operation.{Operation}
use Rattle.calculator.specs.declared.names.Operation.TheVariants.{OfTwo, OfOne}

-- the operations by their names
abbrev pub operations : List (List ℕ × Operation)
operations =
    (codes "add", OfTwo Add) ∷ (codes "mul", OfTwo Mul) ∷ (codes "square", OfOne Square) ∷ (codes "inv", OfOne Inv)
    ∷ (codes "sqrt", OfOne Sqrt) ∷ []

-- the operation that a word names
abbrev pub operation_named : List ℕ → Option Operation
operation_named word = look_up word operations

-- the result of an operation at two elements of a field with the product `times`
abbrev pub binary_result : (ℕ → ℕ → ℕ) → Binary → ℕ → ℕ → ℕ
binary_result times Add x y = bit_xor x y
binary_result times Mul x y = times x y

-- the result of an operation at one element of a field with the product `times`, whose elements have so many bits. In a field
-- of q elements the inverse of x is x ^ (q - 2), and only 0 has none (Fermat). The square root of x is x ^ (q / 2).
abbrev pub unary_result : ℕ → (ℕ → ℕ → ℕ) → Unary → ℕ → Option ℕ
unary_result bits times Square x = Some (times x x)
unary_result bits times Inv x = if x == 0 then None else Some (power 1 times x (2 ^ bits - 2))
unary_result bits times Sqrt x = Some (repeated_square 1 times (bits - 1) x)

-- in every field that a word names, a nonzero element times its inverse is 1
abbrev pub InverseInverts : Type 0
InverseInverts =
    (name : List ℕ) (field : WrittenField) → field_named name ≡ Some field → (x : ℕ) → x < 2 ^ field.bits → x ≢ 0
    → IsSomeAnd (unary_result field.bits field.times Inv x) (λ y. field.times x y ≡ 1)

-- in every field that a word names, the square of the root of an element is the element
abbrev pub RootIsRoot : Type 0
RootIsRoot =
    (name : List ℕ) (field : WrittenField) → field_named name ≡ Some field → (x : ℕ) → x < 2 ^ field.bits
    → IsSomeAnd (unary_result field.bits field.times Sqrt x) (λ y. field.times y y ≡ x)
