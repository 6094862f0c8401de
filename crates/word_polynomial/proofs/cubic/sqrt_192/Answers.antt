use Rattle.field_base.specs.Remainder.{mul_mod, poly64_modulus}
use Rattle.field_base.proofs.RemainderRing.{poly64_ring}
use Rattle.word_polynomial.proofs.Products.{roots_square}
use Rattle.word_polynomial.proofs.cubic.sqrt_192.Goals as goal

pub returns : goal.returns
returns c =
    let x = c.args.x in
    roots_square 64 (mul_mod 64 poly64_modulus) poly64_ring c.sqrt_mod_64-r0.result c.sqrt_mod_64-r1.result c.sqrt_mod_64-r2.result
    x.c0 x.c1 x.c2 c.sqrt_mod_64-r0.type_inv c.sqrt_mod_64-r1.type_inv c.sqrt_mod_64-r2.type_inv
    c.sqrt_mod_64-r0.ensures c.sqrt_mod_64-r1.ensures c.sqrt_mod_64-r2.ensures
