use Rattle.std.proofs.Common.{◌^◌, ◌∙◌, ap₂}
use Rattle.std.specs.Int.{bit_at}
use Rattle.std.proofs.lemmas.Nat.Bits.{bit_at-lt}
use Rattle.field_base.specs.Quadratic.{pair}
use Rattle.additive_transforms.specs.Halves.{lane_of_halves}
use Rattle.additive_transforms.specs.Rows.{level_of}
use Rattle.additive_transforms.proofs.LaneProducts.{pair_added}
use Rattle.additive_transforms.proofs.lane_planes.PairLanePlanesHalfMultiples.add_product_where.Goals as goal

pub returns : goal.returns
unfolding lane_of_halves
returns g c v byte are l below =
    let lane = g.P.Planes.lane in
    let fits = g.met.P.Planes.fits_law in
    let x = c.args.self.now in
    let y = c.args.factor.now in
    ap₂ (pair (2 ^ level_of g.P.Planes.depth)) (c.add_product_where.ensures v byte are l below)
    (c.add_product_where-2.ensures v byte are l below)
    ∙ pair_added g.P.Planes.depth v (bit_at l c.args.bit) (lane x.low l) (lane x.high l) (lane y.low l) (lane y.high l) byte
    (bit_at-lt l c.args.bit) (fits x.low l) (fits y.low l) (fits y.high l)
