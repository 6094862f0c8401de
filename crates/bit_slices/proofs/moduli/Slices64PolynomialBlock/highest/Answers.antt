use Rattle.std.proofs.Common.{sym, ◌∙◌}
use Rattle.std.proofs.lemmas.Nat.{shr_high}
use Rattle.bit_slices.specs.Called.{lanes_8, lanes_16, lanes_32, lanes_64, lanes_128}
use Rattle.bit_slices.proofs.Reductions.{top_of_pair}
use Rattle.bit_slices.proofs.moduli.Slices64PolynomialBlock.highest.Goals as goal

pub returns : goal.returns
unfolding lanes_8 lanes_16 lanes_32 lanes_64 lanes_128
returns g c l =
    sym
    (top_of_pair 32 24 _ _ (c.holds_elements.ensures l) ∙ top_of_pair 16 8 _ _ (c.holds_elements-2.ensures l)
    ∙ shr_high _ 8 _ (c.holds_elements-3.ensures l))
