use Rattle.std.proofs.Common.{sym, refl, lit<}
use Rattle.std.proofs.lemmas.Nat.{xor_lt}
use Rattle.field_base.specs.Remainder.{mul_mod, poly64_modulus}
use Rattle.word_tables.proofs.Isomorphisms.{field_64}
use Rattle.word_polynomial.specs.lemmas.CubicField.{cubic_frobenius}
use Rattle.word_polynomial.proofs.cubic.automorphism_192.Goals as goal

pub invariant_of-result : goal.invariant_of-result
invariant_of-result c =
    let r = c.args.x.in_range in
    record { in_range = record { first = r.first; second = r.third; third = xor_lt 64 _ _ r.second r.third } }

pub returns : goal.returns
returns c =
    let x = c.args.x in
    let r = x.in_range in
    sym (cubic_frobenius 64 (mul_mod 64 poly64_modulus) field_64 (lit< tt) refl x.c0 x.c1 x.c2 r.first r.second r.third)
