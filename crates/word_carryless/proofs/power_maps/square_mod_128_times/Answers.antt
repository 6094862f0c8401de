use Rattle.std.proofs.Common.{arith, lit<}
use Rattle.field_base.specs.Remainder.{mul_mod, ghash_modulus}
use Rattle.field_base.proofs.RemainderRing.{ghash_ring}
use Rattle.word_carryless.proofs.Chains.{squared_more, squared_none}
use Rattle.word_carryless.proofs.power_maps.square_mod_128_times.Goals as goal

pub loop-init : goal.loop-init
loop-init c = squared_none 128 (mul_mod 128 ghash_modulus) ghash_ring (lit< tt) c.args.x (omega arith)

pub loop-preserved : goal.loop-preserved
loop-preserved c =
    squared_more 128 (mul_mod 128 ghash_modulus) ghash_ring (lit< tt) c.loop.counter c.args.x c.loop.square c.square_mod_128-square.result
    c.square_mod_128-square.ensures c.loop.invariant
