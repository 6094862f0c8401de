-- Linearized polynomials over the bytes of AES (R. Lidl and H. Niederreiter, Finite Fields, section 3.4).
use Rattle.std.specs.Prelude.{ℕ, List, slice_index}
use Rattle.field_base.specs.Basis.{sum_below}
use Rattle.field_base.specs.Powers.{repeated_square}
use Rattle.field_base.specs.Remainder.{aes_modulus, mul_mod}

-- the value at x of the polynomial with these eight coefficients: the sum of coefficient j times x squared j times
unfoldable pub linearized_value : List ℕ → ℕ → ℕ
linearized_value coefficients x =
    sum_below
    (λ j. mul_mod 8 aes_modulus (slice_index coefficients j) (repeated_square 1 (mul_mod 8 aes_modulus) j x)) 8
