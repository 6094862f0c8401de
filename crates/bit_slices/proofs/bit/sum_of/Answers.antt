use Rattle.std.proofs.Common.{sym, ◌∙◌}
use Rattle.bit_slices.proofs.LaneBits.{bit_lane-xor}
use Rattle.bit_slices.proofs.bit.sum_of.Goals as goal

pub returns : goal.returns
returns g c l =
    let words = g.V.WordVector.words in
    rw (c.sum.ensures) (bit_lane-xor (words c.args.x) (words c.args.y) l (c.holds_words.ensures.count ∙ sym c.holds_words-2.ensures.count))
