use Rattle.word_carryless.proofs.LaneReductions.{tails}
use Rattle.word_carryless.proofs.lanes.times_tail.Goals as goal

pub returns : goal.returns
returns g c =
    rw (c.sum-3.ensures, c.sum-2.ensures, c.sum.ensures, c.up.ensures, c.up-2.ensures, c.up-3.ensures)
    (tails (g.V.WordVector.words c.args.words) c.holds_words.ensures.fit)
