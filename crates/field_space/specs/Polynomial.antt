-- The coefficients of a linearized polynomial as numbers.
use Rattle.std.specs.Prelude.{ℕ, List, map}
use Rattle.field_element.specs.Element.{repr_of}
use Rattle.field_space.specs.declared.linearized.LinearizedPoly8b.{LinearizedPoly8b}

-- the coefficients, that of x first
abbrev pub coefficients_of : LinearizedPoly8b → List ℕ
coefficients_of polynomial = map repr_of polynomial.coefficients
