-- Messages of elements, as polynomials over numbers.
use Rattle.std.specs.Prelude.{ℕ}
use Rattle.field_slices.specs.declared.rounds.RoundPolynomial.{RoundPolynomial}
use Rattle.field_slices.specs.Sumcheck.{Quadratic}

-- the polynomial of a message
abbrev pub quadratic_of : {F : Type 0} → (F → ℕ) → RoundPolynomial F → Quadratic
quadratic_of repr g = record { constant = repr g.constant; linear = repr g.linear; quadratic = repr g.quadratic }
