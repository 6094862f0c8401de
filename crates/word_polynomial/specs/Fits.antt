-- The words of an element of three coefficients of 64 bits each.
use Rattle.std.specs.Prelude.{ℕ, ◌^◌, ◌<◌}

-- each coefficient has at most 64 bits
pub record FitsThree (c0 c1 c2 : ℕ) : Type 0 where
  -- c0, the constant term
  pub first : c0 < 2 ^ 64
  -- c1, the coefficient of y
  pub second : c1 < 2 ^ 64
  -- c2, the coefficient of y²
  pub third : c2 < 2 ^ 64
