use Rattle.std.proofs.Common.{sym, ◌∙◌}
use Rattle.bit_slices.proofs.LaneBits.{bit_lane-and}
use Rattle.bit_slices.proofs.bit.product_of.Goals as goal

pub returns : goal.returns
returns g c l =
    let words = g.V.WordVector.words in
    rw (c.product_of_bits.ensures)
    (bit_lane-and (words c.args.x) (words c.args.y) l (c.holds_words.ensures.count ∙ sym c.holds_words-2.ensures.count))
