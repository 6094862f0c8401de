use Rattle.additive_transforms.specs.Halves.{are_of_halves, lane_of_halves}
use Rattle.additive_transforms.specs.Rows.{level_of}
use Rattle.additive_transforms.proofs.Scalars.{product_of_pairs}
use Rattle.additive_transforms.proofs.pair.PairPlanesHalfMultiples.set_product.Goals as goal

pub returns : goal.returns
unfolding are_of_halves lane_of_halves
returns g c s are l below =
    let lane = g.P.Planes.lane in
    let fits = g.met.P.Planes.fits_law in
    let x = c.args.factor.now in
    let products =
    product_of_pairs (level_of g.P.Planes.depth) s are.0 are.1 (lane x.low l) (lane x.high l) are.2 are.3 (fits x.low l) (fits x.high l)
    are.4 in
    cc (
      products,
      c.add.ensures l below,
      c.set_product.ensures are.1 are.5 l below,
      c.set_product-2.ensures _ are.6 l below,
      c.add-2.ensures l below,
      c.set_product-3.ensures _ are.7 l below,
      c.add-3.ensures l below,
    )
