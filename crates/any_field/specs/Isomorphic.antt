-- A field of 2^width elements has a root of each irreducible polynomial of that degree, so that fields of one size are isomorphic
-- (R. Lidl and H. Niederreiter, Finite Fields, theorem 2.5).
use Rattle.std.specs.Prelude.{◌≡◌, ℕ, ◌%◌, ◌^◌, ◌<◌}
use Rattle.field_base.specs.Field.{IsField}
use Rattle.field_base.specs.Remainder.{HasDegree, mul_mod}
use Rattle.any_field.specs.Irreducible.{IsIrreducible}
use Rattle.any_field.specs.Values.{binary_value, IsIsomorphismOf}

-- a root, and what the polynomials modulo the irreducible one are to the field by it
pub record HasRoot (width modulus : ℕ) (times : ℕ → ℕ → ℕ) : Type 0 where
  pub root : ℕ
  pub below : root < 2 ^ width
  pub is_root : binary_value times root modulus ≡ 0
  pub isomorphism : IsIsomorphismOf width (mul_mod width modulus) times (binary_value times root)

-- each field has one
abbrev pub FieldsOfOneSizeAreIsomorphic : Type 0
FieldsOfOneSizeAreIsomorphic = (width modulus : ℕ) (times : ℕ → ℕ → ℕ) → 0 < width → HasDegree width modulus → IsIrreducible modulus
    → IsField width times → HasRoot width modulus times

-- a field of 2^width elements has a root of each irreducible polynomial whose degree divides the width (Lidl and Niederreiter, lemma 2.13)
abbrev pub FieldsHaveRoots : Type 0
FieldsHaveRoots = (width d modulus : ℕ) (times : ℕ → ℕ → ℕ) → 0 < width → width % d ≡ 0 → HasDegree d modulus → IsIrreducible modulus
    → IsField width times → (root : ℕ) × (root < 2 ^ width) × (binary_value times root modulus ≡ 0)
