use Rattle.std.proofs.Common.{◌≡◌, ◌+◌, ◌*◌, ◌^◌, drop}
use Rattle.std.specs.Prelude.{bit_xor}
use Rattle.field_base.specs.Powers.{terms_from, value_of}
use Rattle.field_base.specs.Remainder.{rem, mul_mod, ghash_modulus}
use Rattle.field_element.specs.Element.{repr_of}
use Rattle.field_element.proofs.polynomial.Ghash128.dot_powers_of_x.Given as goal

-- the remainder so far, and the terms of the places from here on, are the whole
abbrev pub invariant-loop-place : goal.invariant-loop-place
invariant-loop-place l =
    bit_xor (rem 128 ghash_modulus (l.high * 2 ^ 128 + l.low))
    (terms_from 1 (mul_mod 128 ghash_modulus) repr_of 2 l.place (drop l.place l.values))
    ≡ value_of 1 (mul_mod 128 ghash_modulus) repr_of l.values 2
