use Rattle.std.proofs.lemmas.Nat.{xor_lt}
use Rattle.field_base.specs.Remainder.{mul_mod, poly64_modulus}
use Rattle.word_polynomial.specs.lemmas.CubicField.{cubic-square}
use Rattle.field_base.proofs.RemainderRing.{poly64_ring}
use Rattle.word_polynomial.proofs.cubic.square_192.Goals as goal

pub invariant_of-result : goal.invariant_of-result
invariant_of-result c =
    let s1 = c.square_mod_64-s1.type_inv in
    let s2 = c.square_mod_64-s2.type_inv in
    record { in_range = record { first = c.square_mod_64-s0.type_inv; second = s2; third = xor_lt 64 _ _ s1 s2 } }

pub returns : goal.returns
returns c =
    let x = c.args.x in
    let rule =
    cubic-square 64 (mul_mod 64 poly64_modulus) poly64_ring x.c0 x.c1 x.c2 x.in_range.first x.in_range.second x.in_range.third in
    cc (rule, c.square_mod_64-s0.ensures, c.square_mod_64-s1.ensures, c.square_mod_64-s2.ensures)
