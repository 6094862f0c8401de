use Rattle.std.proofs.Common.{rules}
use Rattle.std.proofs.lemmas.Nat.{xor_lt}
use Rattle.field_base.specs.Remainder.{mul_mod, poly64_modulus}
use Rattle.field_base.proofs.RemainderRing.{poly64_ring}
use Rattle.word_polynomial.proofs.Products.{karatsuba}
use Rattle.word_polynomial.proofs.cubic.multiply_192.Goals as goal

pub invariant_of-result : goal.invariant_of-result
invariant_of-result c =
    let p0 = c.multiply_mod_64-p0.type_inv in
    let p1 = c.multiply_mod_64-p1.type_inv in
    let p2 = c.multiply_mod_64-p2.type_inv in
    let spill = xor_lt 64 _ _ (xor_lt 64 _ _ c.multiply_mod_64-p12.type_inv p1) p2 in
    record {
      in_range = record {
        first = xor_lt 64 _ _ p0 spill;
        second = xor_lt 64 _ _ (xor_lt 64 _ _ (xor_lt 64 _ _ (xor_lt 64 _ _ c.multiply_mod_64-p01.type_inv p0) p1) spill) p2;
        third = xor_lt 64 _ _ (xor_lt 64 _ _ c.multiply_mod_64-p02.type_inv p0) p1;
      };
    }

pub returns : goal.returns
returns c =
    let x = c.args.x in
    let y = c.args.y in
    let rule =
    karatsuba 64 (mul_mod 64 poly64_modulus) poly64_ring x.c0 x.c1 x.c2 y.c0 y.c1 y.c2 x.in_range.first x.in_range.second
    x.in_range.third y.in_range.first y.in_range.second y.in_range.third in
    search (rule, rules)
