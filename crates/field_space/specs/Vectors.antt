-- Coefficients of elements, as numbers. Over a ring of w-bit elements coefficient i of an element is chunk i, of w bits, of its
-- representation.
use Rattle.std.specs.Prelude.{◌≡◌, ◌≢◌, ◌↔◌, ◌<◌, ℕ, List, length, map, IsNone, IfSome}
use Rattle.std.specs.Array.{FillsFrom}
use Rattle.std.specs.List.{flat_map}
use Rattle.std.specs.declared.option.Option.{Option}
use Rattle.field_base.specs.Chunks.{chunks}
use Rattle.field_space.specs.Items.{TakesOneMore}

-- the coefficients of elements, one element after the other, `dimension` of each; `repr` is the number of an element
abbrev pub flat_coefficients : {E : Type 0} → ℕ → ℕ → (E → ℕ) → List E → List ℕ
flat_coefficients width dimension repr elements = flat_map (λ x. chunks width dimension (repr x)) elements

-- a function that was called for 0, 1, .. in order returned the coefficients of the element with the number `element`
abbrev pub ReturnsCoefficients : {G F : Type 0} → ℕ → ℕ → (F → ℕ) → (G → ℕ → F → G → Type 0) → G → ℕ → Type 0
ReturnsCoefficients {G} {F} width dimension repr step f element =
    (coefficients : List F) × (last : G) × FillsFrom step f 0 coefficients last × (map repr coefficients ≡ chunks width dimension element)

-- What is read of an iterator of coefficients, which is left at `rest`: one item more than an element has, at most. The result is
-- None where they are not as many as the dimension, and else the element that has them. After too many the iterator may be called.
pub record ReadsCoefficients {S F E : Type 0} (width dimension : ℕ) (repr : F → ℕ) (number : E → ℕ) (can_next : S → Type 0)
    (next_gives : S → Option F → S → Type 0) (iter : S) (result : Option E) (rest : S) : Type 0 where
  pub coefficients : List F
  pub taken : TakesOneMore next_gives iter dimension coefficients rest
  pub none : IsNone result ↔ (length coefficients ≢ dimension)
  pub value : IfSome result (λ x. map repr coefficients ≡ chunks width dimension (number x))
  pub goes_on : dimension < length coefficients → can_next rest
