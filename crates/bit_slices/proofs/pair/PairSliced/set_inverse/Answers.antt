use Rattle.std.proofs.Common.{◌≡◌, ◌≢◌, ℕ, subst}
use Rattle.field_base.specs.Tower.{tower_mul}
use Rattle.bit_slices.proofs.PairProducts.{inverse_of_pair, inverse_of_zero_pair, norm_of}
use Rattle.bit_slices.proofs.pair.PairSliced.set_inverse.Goals as goal

pub returns : goal.returns
returns g c l =
    let k = g.T.Sliced.LEVEL in
    let lane = g.T.Sliced.lane in
    let fits = g.T.Sliced.fits_law in
    let x = c.args.x.now in
    let v = lane c.set_inverse.new.self l in
    let is_norm : lane c.add.new.self l ≡ norm_of k (lane x.low l) (lane x.high l) =
    cc (c.add_by_root.ensures l, c.square.ensures l, c.set_product.ensures l, c.add.ensures l) in (
      λ none.
          let zeros = inverse_of_zero_pair k (lane x.low l) (lane x.high l) v (fits x.low l) (fits x.high l) none in
          cc (zeros, c.add_by_root.ensures l, c.set_product-2.ensures l, c.set_product-3.ensures l),
      λ nonzero.
          let ones =
          inverse_of_pair k (lane x.low l) (lane x.high l) v (fits x.low l) (fits x.high l)
          (subst (λ (n : ℕ). n ≢ 0 → tower_mul k n v ≡ 1) is_norm (c.set_inverse.ensures l).1) nonzero in
          cc (ones, c.add_by_root.ensures l, c.set_product-2.ensures l, c.set_product-3.ensures l),
    )
