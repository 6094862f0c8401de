use Rattle.word_carryless.proofs.LaneReductions.{remainders}
use Rattle.word_carryless.proofs.lanes.reduce.Goals as goal

pub returns : goal.returns
returns g c =
    let V = g.V.WordVector.words in
    rw (
      c.sum.ensures,
      c.sum-3.ensures,
      c.sum-2.ensures,
      c.times_tail.ensures,
      c.times_tail-2.ensures,
      c.spill-2.ensures,
      c.sum-next.ensures,
      c.spill.ensures,
    )
    (remainders (V c.args.w0) (V c.args.w1) (V c.args.w2) (V c.args.w3) c.holds_words.ensures.fit c.holds_words-2.ensures.fit
    c.holds_words-3.ensures.fit c.holds_words-4.ensures.fit)
