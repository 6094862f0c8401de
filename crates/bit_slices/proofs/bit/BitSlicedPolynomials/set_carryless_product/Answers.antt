use Rattle.bit_slices.specs.Lanes.{bit_lane}
use Rattle.bit_slices.specs.lemmas.Lane.{bit_lane-lt}
use Rattle.bit_slices.proofs.PolynomialPairs.{polynomial_of_bits}
use Rattle.bit_slices.proofs.bit.BitSlicedPolynomials.set_carryless_product.Goals as goal

pub returns : goal.returns
returns g c l =
    let x = g.V.WordVector.words c.args.x.now.words in
    let y = g.V.WordVector.words c.args.y.now.words in
    let product = polynomial_of_bits (bit_lane x l) (bit_lane y l) (bit_lane-lt x l) (bit_lane-lt y l) in
    cc (product, c.product_of-low.ensures l, c.zeros.ensures l)
