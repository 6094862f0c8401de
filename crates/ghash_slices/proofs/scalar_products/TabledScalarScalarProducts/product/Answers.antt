use Rattle.std.proofs.Common.{arith}
use Rattle.ghash_slices.proofs.TabledProducts.{tabled_product}
use Rattle.ghash_slices.proofs.scalar_products.TabledScalarScalarProducts.product.Goals as goal

pub returns : goal.returns
returns c =
    let tabled = c.args.self.now in
    tabled_product tabled.scalar c.split_128-low.result.0 c.split_128-low.result.1 c.args.value c.join_128.result _ _
    (c.sum_of_entries.ensures tabled.scalar tabled.are_products) (c.sum_of_entries-2.ensures tabled.scalar tabled.are_products)
    c.split_128-low.ensures (omega arith) c.join_128.ensures
