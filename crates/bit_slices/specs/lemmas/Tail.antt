-- The tails of two moduli.
use Rattle.std.proofs.Common.{refl, lit<, lit≤}
use Rattle.field_base.specs.Remainder.{ghash_modulus, poly64_modulus}
use Rattle.word_carryless.specs.Tail.{ghash_tail, poly64_tail}
use Rattle.bit_slices.specs.Tails.{IsTail}

-- x^64 + x^4 + x^3 + x + 1
pub tail_of_poly64 : IsTail 64 poly64_modulus poly64_tail
tail_of_poly64 = record { sum = refl; degree = refl; small = lit< tt; wide = lit≤ tt }

-- x^128 + x^7 + x^2 + x + 1
pub tail_of_ghash : IsTail 128 ghash_modulus ghash_tail
tail_of_ghash = record { sum = refl; degree = refl; small = lit< tt; wide = lit≤ tt }
