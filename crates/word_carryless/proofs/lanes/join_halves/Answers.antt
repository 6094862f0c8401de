use Rattle.word_carryless.proofs.LaneProducts.{joined_products}
use Rattle.word_carryless.proofs.lanes.join_halves.Goals as goal

pub returns : goal.returns
returns g c left right left_fits right_fits are =
    let V = g.V.WordVector.words in
    rw (c.sum-2.ensures, c.sum-3.ensures, c.up.ensures, c.down.ensures, c.sum-middle.ensures, c.sum.ensures)
    (joined_products left right left_fits right_fits (V c.args.low) (V c.args.high) (V c.args.both) are)
