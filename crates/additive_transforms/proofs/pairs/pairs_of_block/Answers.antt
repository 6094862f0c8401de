use Rattle.std.proofs.Common.{arith}
use Rattle.ghash_slices.specs.LowStages.{ghash_product}
use Rattle.additive_transforms.proofs.Butterflies.{forward_values}
use Rattle.additive_transforms.proofs.pairs.pairs_of_block.Goals as goal

pub returns-clause-values : goal.returns-clause-values
returns-clause-values g c =
    let halves = c.split_at_mut-lower in
    forward_values g.P.PairKernel.value ghash_product c.args.twiddle c.args.half c.args.block.now halves.result.0.now
    halves.result.1.now _ _ halves.ensures.value halves.ensures.front_len (omega arith) c.run_pairs.ensures.low c.run_pairs.ensures.high
