-- Primitive elements: those whose powers are all nonzero elements (R. Lidl and H. Niederreiter, Finite Fields, definition 2.9), and what a
-- test of them takes, the primes that divide the number of the nonzero elements.
use Rattle.std.specs.Prelude.{◌≡◌, ◌≢◌, ℕ, ◌<◌, List, length, slice_index}
use Rattle.field_base.specs.Orders.{HasFullOrder}
use Rattle.field_base.specs.Powers.{power}
use Rattle.field_base.specs.Remainder.{rem}
use Rattle.any_field.specs.Contexts.{IsFieldModulus, field_product, with_top}
use Rattle.any_field.specs.Rabin.{IsPrime}
use Rattle.any_field.specs.declared.extension.orders.literals.TheConstants.{PRIMES}

-- each number of a list is prime
abbrev pub ArePrime : List ℕ → Type 0
ArePrime qs = (i : ℕ) → i < length qs → IsPrime (slice_index qs i)

-- the numbers of the table of primes that divide 2^m - 1 for an m of 1 to 128 are prime
abbrev pub TableIsPrime : Type 0
TableIsPrime = ArePrime PRIMES

-- e is the order of x: the least exponent above 0 to which its power is 1 (Lidl and Niederreiter, chapter 1)
pub record IsOrder (times : ℕ → ℕ → ℕ) (x e : ℕ) : Type 0 where
  pub some : 0 < e
  pub one : power 1 times x e ≡ 1
  pub least : (k : ℕ) → 0 < k → k < e → power 1 times x k ≢ 1

-- x^degree + tail is a primitive polynomial: the modulus of a field in which x is primitive (Lidl and Niederreiter, definition 3.15)
abbrev pub IsPrimitiveModulus : ℕ → ℕ → Type 0
IsPrimitiveModulus degree tail =
    IsFieldModulus degree tail × HasFullOrder degree (field_product degree tail) (rem degree (with_top degree tail) 2)
