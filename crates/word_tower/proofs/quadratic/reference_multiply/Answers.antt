use Rattle.field_base.proofs.TowerProducts.{tower_mul-karatsuba}
use Rattle.word_tower.proofs.Halves.{product_lt}
use Rattle.word_tower.proofs.quadratic.reference_multiply.Goals as goal

pub join_products-requires-clause-low : goal.join_products-requires-clause-low
join_products-requires-clause-low g c = product_lt g.E.Below.Level.LEVEL _ _ _ c.reference_multiply-low.ensures

pub join_products-requires-clause-high : goal.join_products-requires-clause-high
join_products-requires-clause-high g c = product_lt g.E.Below.Level.LEVEL _ _ _ c.reference_multiply-high.ensures

pub join_products-requires-clause-mixed : goal.join_products-requires-clause-mixed
join_products-requires-clause-mixed g c = product_lt g.E.Below.Level.LEVEL _ _ _ c.reference_multiply-mixed.ensures

pub returns : goal.returns
returns g c =
    let karatsuba = tower_mul-karatsuba g.E.Below.Level.LEVEL (g.R.Stored.number c.args.a) (g.R.Stored.number c.args.b) in
    cc (
      karatsuba,
      c.low-a0.ensures,
      c.high-a1.ensures,
      c.low-b0.ensures,
      c.high-b1.ensures,
      c.reference_multiply-low.ensures,
      c.reference_multiply-high.ensures,
      c.xor.ensures,
      c.xor-2.ensures,
      c.reference_multiply-mixed.ensures,
      c.join_products.ensures,
    )
