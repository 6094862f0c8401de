use Rattle.word_carryless.proofs.MaskedLanes.{masked_lanes}
use Rattle.word_carryless.proofs.masked.masked_lanes.Goals as goal

pub returns : goal.returns
returns g c =
    rw (c.masked.ensures, c.product.ensures, c.filled.ensures)
    (masked_lanes g.V.WordVector.lanes c.args.i c.args.j c.args.y (g.V.WordVector.words c.args.xs) c.holds_words.ensures.count
    c.requires.i_in_range c.requires.j_in_range c.requires.xs_in_class c.requires.y_in_class)
