use Rattle.bit_slices.proofs.PolynomialPairs.{polynomial_of_pairs}
use Rattle.bit_slices.proofs.pair.PairSlicedPolynomials.set_carryless_product.Goals as goal

pub returns : goal.returns
returns g c l =
    let fits = g.T.Sliced.fits_law in
    let x = c.args.x.now in
    let y = c.args.y.now in
    let both = c.set_carryless_product.new in
    let low = c.set_carryless_product-2.new in
    let high = c.set_carryless_product-3.new in
    let product =
    polynomial_of_pairs g.T.Sliced.LEVEL _ _ (fits x.low l) (fits y.low l) (fits low.low l) (fits low.high l) (fits high.low l) (fits both.low l) (fits both.high l) (fits high.high l)
    (c.set_carryless_product-2.ensures l) (c.set_carryless_product-3.ensures l)
    (c.add.ensures l) (c.add-2.ensures l) (c.set_carryless_product.ensures l) in
    cc (product, c.add-3.ensures l, c.add-4.ensures l, c.add-5.ensures l, c.set_sum.ensures l, c.add-6.ensures l)
