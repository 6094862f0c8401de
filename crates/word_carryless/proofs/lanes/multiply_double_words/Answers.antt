use Rattle.word_carryless.proofs.LaneReductions.{double_products}
use Rattle.word_carryless.proofs.lanes.multiply_double_words.Goals as goal

pub returns : goal.returns
returns g c =
    let V = g.V.WordVector.words in
    rw (
      c.sum-4.ensures,
      c.sum-3.ensures,
      c.sum-6.ensures,
      c.sum-5.ensures,
      c.sum-crossed.ensures,
      c.multiply_words-low_0.ensures.0,
      c.multiply_words-low_0.ensures.1,
      c.multiply_words-high_0.ensures.0,
      c.multiply_words-high_0.ensures.1,
      c.multiply_words-both_0.ensures.0,
      c.multiply_words-both_0.ensures.1,
      c.sum.ensures,
      c.sum-2.ensures,
    )
    (double_products (V c.args.x0) (V c.args.x1) (V c.args.y0) (V c.args.y1) c.holds_words.ensures.fit c.holds_words-2.ensures.fit
    c.holds_words-3.ensures.fit c.holds_words-4.ensures.fit)
