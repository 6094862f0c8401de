-- Inverses of many elements of a field at once (P. L. Montgomery, Speeding the Pollard and elliptic curve methods of factorization,
-- 1987, section 10.3.1). An element is its number, and `times` is the product of the field.
use Rattle.std.specs.Prelude.{ℕ, zero, suc}
use Rattle.field_base.specs.Basis.{product_below}

-- the number itself, and 1 in place of 0
abbrev pub one_for_zero : ℕ → ℕ
one_for_zero zero = 1
one_for_zero (suc x) = suc x

-- the product of those of x 0, x 1, .., x (n - 1) that are not 0
abbrev pub nonzero_product : (ℕ → ℕ → ℕ) → (ℕ → ℕ) → ℕ → ℕ
nonzero_product times x n = product_below times (λ i. one_for_zero (x i)) n
