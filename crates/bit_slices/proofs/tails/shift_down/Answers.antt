use Rattle.bit_slices.specs.Called.{lanes_8}
use Rattle.bit_slices.specs.Lanes.{bit_lane}
use Rattle.bit_slices.proofs.TailSteps.{eight_down}
use Rattle.bit_slices.proofs.tails.shift_down.Goals as goal

pub returns : goal.returns
unfolding lanes_8
returns g c l =
    let words = g.V.WordVector.words in
    let before = c.args.carry.now.inner in
    eight_down (bit_lane (words before.low.low.low.words) l) (bit_lane (words before.low.low.high.words) l) (bit_lane (words before.low.high.low.words) l) (bit_lane (words before.low.high.high.words) l) (bit_lane (words before.high.low.low.words) l) (bit_lane (words before.high.low.high.words) l) (bit_lane (words before.high.high.low.words) l) (bit_lane (words before.high.high.high.words) l) _ (c.zeros-carry.ensures l)
