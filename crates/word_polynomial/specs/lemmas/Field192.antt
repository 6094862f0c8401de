-- The cubic extension of GF(2^64): it is a field, and 5 + 3 y + y² is an element.
use Rattle.std.specs.Prelude.{◌≢◌, ◌≤◌, ◌<◌, refl}
use Rattle.std.proofs.Common.{arith, lit<}
use Rattle.word_polynomial.specs.Cubic.{cubic, triple}
use Rattle.field_base.specs.Field.{IsField}
use Rattle.field_base.specs.Orders.{HasFullOrder}
use Rattle.field_base.specs.Remainder.{mul_mod, poly64_modulus}
use Rattle.word_polynomial.specs.lemmas.CubicField.{cubic_is_field}
use Rattle.word_tables.proofs.Isomorphisms.{field_64}

-- the cubic extension of GF(2^64) is a field, since 64 leaves 1 modulo 3
pub field_192 : IsField 192 (cubic 64 (mul_mod 64 poly64_modulus))
field_192 = cubic_is_field 64 (mul_mod 64 poly64_modulus) field_64 (lit< tt) refl

-- 5 + 3 y + y² is not 0
pub generator_nonzero_192 : triple 64 5 3 1 ≢ 0
generator_nonzero_192 e = absurd (omega (arith, e))

-- full order is claimed only at up to 16 bits, so here nothing is claimed
pub generator_order_192 : 192 ≤ 16 → HasFullOrder 192 (cubic 64 (mul_mod 64 poly64_modulus)) (triple 64 5 3 1)
generator_order_192 small = absurd (omega (arith, small))
