-- What calls tell of elements of a field that the caller chooses, and of moduli of such fields: orders, traces and norms over subfields,
-- minimal polynomials, and which irreducible and primitive polynomials come next.
use Rattle.std.specs.Prelude.{◌≡◌, ◌≢◌, ℕ, ◌*◌, ◌/◌, ◌%◌, ◌<◌, ◌≤◌, List}
use Rattle.field_base.specs.Basis.{product_below, sum_below}
use Rattle.field_base.specs.Powers.{power, repeated_square}
use Rattle.any_field.specs.Contexts.{IsFieldModulus, with_top}
use Rattle.any_field.specs.Minimal.{IsMinimalPolynomial}
use Rattle.any_field.specs.Orders.{IsOrder, IsPrimitiveModulus, TableIsPrime}
use Rattle.many_words.specs.Fields.{WordField}
use Rattle.many_words.specs.Words.{IsElement}
use Rattle.c_calls.specs.Calls.{CallOf, CallOnEach}
use Rattle.c_calls.specs.ChosenFields.{OverField, chosen_field}
use Rattle.c_calls.specs.Fields.{wide_number}
use Rattle.c_calls.specs.declared.field_words.ChosenField.{ChosenField}
use Rattle.c_calls.specs.declared.status.TheConstants.{OK, UNSOLVABLE}
use Rattle.c_calls.specs.declared.wide.Wide.{Wide}

-- e is 0 for 0, which has no order, and else the order of x: that no lower exponent is one rests on the primality of the numbers of a table
abbrev pub IsOrderIfAny : (ℕ → ℕ → ℕ) → ℕ → ℕ → Type 0
IsOrderIfAny times x e = (x ≡ 0 → e ≡ 0) × (x ≢ 0 → (0 < e) × (power 1 times x e ≡ 1) × (TableIsPrime → IsOrder times x e))

-- a call that writes the orders of elements
abbrev pub TakesOrders : WordField Wide → List Wide → List Wide → List Wide → ℕ → Type 0
TakesOrders field xs old new status = CallOnEach field (IsOrderIfAny field.times) xs old new status

-- the conjugate of x over the subfield of 2^degree elements that i times `degree` squarings give (Lidl and Niederreiter, definition 2.17)
abbrev pub conjugate_over : (ℕ → ℕ → ℕ) → ℕ → ℕ → ℕ → ℕ
conjugate_over times degree x i = repeated_square 1 times (i * degree) x

-- the element is in the subfield of 2^degree elements: so many squarings return it
abbrev pub IsInSubfield : (ℕ → ℕ → ℕ) → ℕ → ℕ → Type 0
IsInSubfield times degree t = repeated_square 1 times degree t ≡ t

-- t is the trace of x over that subfield, the sum of its conjugates (definition 2.22)
abbrev pub IsTraceOver : ℕ → (ℕ → ℕ → ℕ) → ℕ → ℕ → ℕ → Type 0
IsTraceOver width times degree x t = (t ≡ sum_below (conjugate_over times degree x) (width / degree)) × IsInSubfield times degree t

-- t is the norm of x over it, their product (definition 2.27)
abbrev pub IsNormOver : ℕ → (ℕ → ℕ → ℕ) → ℕ → ℕ → ℕ → Type 0
IsNormOver width times degree x t = (t ≡ product_below times (conjugate_over times degree x) (width / degree)) × IsInSubfield times degree t

-- a call that takes a subfield of 2^degree elements of a field of 2^width: that there is none, as one does not divide the other, is told first
pub record OverSubfield {T : Type 0} (width degree : ℕ) (call : Type 0) (old new : T) (status : ℕ) : Type 0 where
  pub divides : width % degree ≡ 0 → call
  pub none : width % degree ≢ 0 → status ≡ UNSOLVABLE
  pub kept : status ≢ OK → new ≡ old

-- a call that writes the traces of elements over a subfield
abbrev pub TakesTracesOver : WordField Wide → ℕ → List Wide → List Wide → List Wide → ℕ → Type 0
TakesTracesOver field degree xs old new status =
    OverSubfield field.width degree (CallOnEach field (IsTraceOver field.width field.times degree) xs old new status) old new status

-- a call that writes their norms
abbrev pub TakesNormsOver : WordField Wide → ℕ → List Wide → List Wide → List Wide → ℕ → Type 0
TakesNormsOver field degree xs old new status =
    OverSubfield field.width degree (CallOnEach field (IsNormOver field.width field.times degree) xs old new status) old new status

-- a call that writes the degree and the other terms of the minimal polynomial of an element, which is irreducible
abbrev pub TakesMinimalPolynomial : WordField Wide → Wide → ℕ → Wide → ℕ → Wide → ℕ → Type 0
TakesMinimalPolynomial field x old_degree old_tail degree tail status =
    CallOf {T = ℕ × Wide} (Unit {0}) (IsElement field x)
    (IsMinimalPolynomial field.times (wide_number x) degree (with_top degree (wide_number tail)) × IsFieldModulus degree (wide_number tail))
    (old_degree, old_tail) (degree, tail) status

-- the same over a field by its words
abbrev pub TakesMinimalPolynomialOver : ChosenField → Wide → ℕ → Wide → ℕ → Wide → ℕ → Type 0
TakesMinimalPolynomialOver words x old_degree old_tail degree tail status =
    OverField {T = ℕ × Wide} words (TakesMinimalPolynomial (chosen_field words) x old_degree old_tail degree tail status)
    (old_degree, old_tail) (degree, tail) status

-- a call that writes the least number from a start on of which one thing holds; of those passed over another does not
pub record FindsNext (Found Passed : ℕ → Type 0) (start : ℕ) (old new : Wide) (status : ℕ) : Type 0 where
  pub found : status ≡ OK → (start ≤ wide_number new) × Found (wide_number new)
  pub least : status ≡ OK → (u : ℕ) → u < wide_number new → start ≤ u → Passed u → ⊥
  pub none : status ≢ OK → (status ≡ UNSOLVABLE) × ((u : ℕ) → start ≤ u → Passed u → ⊥)
  pub kept : status ≢ OK → new ≡ old

-- a call that writes the least tail from one on with which x^degree + tail is the modulus of a field
abbrev pub FindsIrreducible : ℕ → ℕ → Wide → Wide → ℕ → Type 0
FindsIrreducible degree tail old new status = FindsNext (IsFieldModulus degree) (IsFieldModulus degree) tail old new status

-- and one that writes the least with which it is primitive: that it is rests on the primality of the numbers of a table
abbrev pub FindsPrimitive : ℕ → ℕ → Wide → Wide → ℕ → Type 0
FindsPrimitive degree tail old new status =
    FindsNext (λ t. IsFieldModulus degree t × (TableIsPrime → IsPrimitiveModulus degree t)) (IsPrimitiveModulus degree) tail old new status
