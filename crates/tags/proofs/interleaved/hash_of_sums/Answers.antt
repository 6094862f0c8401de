use Rattle.std.proofs.Common.{arith}
use Rattle.tags.proofs.Turns.{four_more}
use Rattle.tags.proofs.interleaved.hash_of_sums.Goals as goal

pub loop-four-preserved : goal.loop-four-preserved
loop-four-preserved c = λ key are.
    four_more key c.loop-four.hash c.sum_of_products-hash.result c.loop-four.four c.args.sums.now c.args.powers.now are
    (omega (arith, c.well_formed)) (c.loop-four.invariant key are) c.sum_of_products-hash.ensures
