use Rattle.word_carryless.proofs.LaneReductions.{spills}
use Rattle.word_carryless.proofs.lanes.spill.Goals as goal

pub returns : goal.returns
returns g c =
    rw (c.sum-2.ensures, c.sum.ensures, c.down.ensures, c.down-2.ensures, c.down-3.ensures)
    (spills (g.V.WordVector.words c.args.words) c.holds_words.ensures.fit)
