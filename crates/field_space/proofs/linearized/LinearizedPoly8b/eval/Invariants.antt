use Rattle.std.proofs.Common.{◌≡◌}
use Rattle.std.specs.Prelude.{slice_index}
use Rattle.field_base.specs.Basis.{sum_below}
use Rattle.field_base.specs.Powers.{repeated_square}
use Rattle.field_base.specs.Remainder.{aes_modulus, mul_mod}
use Rattle.field_element.specs.Element.{repr_of}
use Rattle.field_space.specs.Polynomial.{coefficients_of}
use Rattle.field_space.proofs.linearized.LinearizedPoly8b.eval.Given as goal

-- the sum of the terms before this place
abbrev pub invariant-loop-place : goal.invariant-loop-place
invariant-loop-place l =
    repr_of l.sum
    ≡ sum_below
    (λ j. mul_mod 8 aes_modulus (slice_index (coefficients_of l.self) j) (repeated_square 1 (mul_mod 8 aes_modulus) j (repr_of l.x)))
    l.place
