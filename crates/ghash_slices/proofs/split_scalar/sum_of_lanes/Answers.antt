use Rattle.std.proofs.Common.{refl, ◌∙◌}
use Rattle.std.specs.Prelude.{bit_xor}
use Rattle.std.specs.Simd.Lanes.{zip2}
use Rattle.ghash_slices.proofs.SplitProducts.{summed}
use Rattle.ghash_slices.proofs.split_scalar.sum_of_lanes.Goals as goal

pub returns : goal.returns
returns c =
    c.join_128.ensures
    ∙ summed c.args.w0 c.args.w1 c.args.w2 (zip2 bit_xor c.args.w0 c.times_tail.result) (zip2 bit_xor c.args.w1 c.spill.result)
    c.times_tail.result c.spill.result c.fits-w0.0 c.fits-w1.0 c.fits-w2.0 c.fits-w0.1 c.fits-w1.1 c.fits-w2.1
    c.times_tail.ensures c.spill.ensures refl refl
