use Rattle.ghash_slices.proofs.FourProducts.{zipped_four}
use Rattle.ghash_slices.proofs.width.U64x4Width.add_four_products.Goals as goal

pub returns : goal.returns
returns c =
    zipped_four c.args.left c.args.right c.multiply_mod_128_four_times-products.result c.args.low c.args.high c.ranges.low.fits
    c.multiply_mod_128_four_times-products.ensures
