use Rattle.std.proofs.Common.{ℕ, ◌∙◌, ap, arith}
use Rattle.std.specs.Prelude.{bit_xor}
use Rattle.std.proofs.lemmas.Nat.{xor_lt}
use Rattle.ghash_slices.specs.LowStages.{ghash_product}
use Rattle.ghash_slices.proofs.FourProducts.{whole_added}
use Rattle.ghash_slices.proofs.width.add_two_products.Goals as goal

pub returns : goal.returns
returns c =
    let products = c.multiply_128_twice-a_low in
    let low_fits = c.ranges.low.fits in
    whole_added (bit_xor c.args.low products.result.0.0) (bit_xor c.args.high products.result.0.1) products.result.1.0 products.result.1.1
    c.args.b c.args.q c.ranges.b.fits c.ranges.q.fits (xor_lt 128 c.args.low products.result.0.0 low_fits (omega arith)) (omega arith)
    products.ensures.second
    ∙ ap (λ (x : ℕ). bit_xor x (ghash_product c.args.b c.args.q))
    (whole_added c.args.low c.args.high products.result.0.0 products.result.0.1 c.args.a c.args.p c.ranges.a.fits c.ranges.p.fits low_fits
    (omega arith) products.ensures.first)
