-- Minimal polynomials over GF(2) of elements of a field (R. Lidl and H. Niederreiter, Finite Fields, definition 1.81).
use Rattle.std.specs.Prelude.{◌≡◌, ℕ, ◌^◌, ◌<◌}
use Rattle.field_base.specs.Remainder.{HasDegree}
use Rattle.any_field.specs.Values.{binary_value}

-- x is a root of f, a monic polynomial of degree d, and of none of a lower degree but 0
pub record IsMinimalPolynomial (times : ℕ → ℕ → ℕ) (x d f : ℕ) : Type 0 where
  pub degree : HasDegree d f
  pub root : binary_value times x f ≡ 0
  pub least : (p : ℕ) → p < 2 ^ d → binary_value times x p ≡ 0 → p ≡ 0
