use Rattle.bit_slices.proofs.PairProducts.{product_of_pairs}
use Rattle.bit_slices.proofs.pair.PairSliced.set_product.Goals as goal

pub returns : goal.returns
returns g c l =
    let fits = g.T.Sliced.fits_law in
    let x = c.args.x.now in
    let y = c.args.y.now in
    cc (
      product_of_pairs g.T.Sliced.LEVEL (fits x.low l) (fits x.high l) (fits y.low l) (fits y.high l),
      c.set_sum.ensures l,
      c.set_sum-2.ensures l,
      c.set_product.ensures l,
      c.set_product-2.ensures l,
      c.set_product-3.ensures l,
      c.add.ensures l,
      c.set_sum-3.ensures l,
      c.add_by_root.ensures l,
    )
