use Rattle.bit_slices.specs.Called.{lanes_8, lanes_16, lanes_32, lanes_64, lanes_128}
use Rattle.bit_slices.proofs.Reductions.{added_to_128}
use Rattle.bit_slices.proofs.moduli.Slices128PolynomialBlock.add_to_lowest.Goals as goal

pub returns : goal.returns
unfolding lanes_8 lanes_16 lanes_32 lanes_64 lanes_128
returns g c l = added_to_128 _ _ _ _ (c.holds_elements.ensures l) (c.holds_elements-2.ensures l) (c.add_to_lowest.ensures l)
