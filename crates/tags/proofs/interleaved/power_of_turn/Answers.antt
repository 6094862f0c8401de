use Rattle.std.proofs.Common.{arith, sym}
use Rattle.field_base.proofs.PowerLemmas.{repeated_square-none, repeated_square_more}
use Rattle.field_base.proofs.RemainderRing.{ghash_ring}
use Rattle.tags.specs.Reversed.{ghash_times}
use Rattle.tags.proofs.interleaved.power_of_turn.Goals as goal

pub loop-init : goal.loop-init
loop-init c = sym (repeated_square-none 128 1 ghash_times ghash_ring c.args.key (omega arith))

pub loop-preserved : goal.loop-preserved
loop-preserved c =
    let more = repeated_square_more 128 1 ghash_times ghash_ring c.loop.counter c.args.key in
    cc (more, c.square_mod_128-power.ensures, c.loop.invariant)
