use Rattle.word_carryless.proofs.LaneReductions.{modular_products}
use Rattle.word_carryless.proofs.lanes.multiply_elements.Goals as goal

pub returns : goal.returns
returns g c =
    let V = g.V.WordVector.words in
    modular_products (V c.args.x0) (V c.args.x1) (V c.args.y0) (V c.args.y1) _ _ c.holds_words.ensures.fit c.holds_words-2.ensures.fit
    c.holds_words-3.ensures.fit c.holds_words-4.ensures.fit c.multiply_double_words-w0.ensures c.reduce.ensures
