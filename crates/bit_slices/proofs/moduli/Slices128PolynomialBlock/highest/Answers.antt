use Rattle.std.proofs.Common.{sym, ◌∙◌}
use Rattle.bit_slices.specs.Called.{lanes_8, lanes_16, lanes_32, lanes_64, lanes_128}
use Rattle.bit_slices.proofs.Reductions.{top_of_pair}
use Rattle.bit_slices.proofs.moduli.Slices128PolynomialBlock.highest.Goals as goal

pub returns : goal.returns
unfolding lanes_8 lanes_16 lanes_32 lanes_64 lanes_128
returns g c l = c.highest.ensures l ∙ sym (top_of_pair 64 56 _ _ (c.holds_elements.ensures l))
