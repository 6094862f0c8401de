use Rattle.field_base.proofs.TowerProducts.{tower_mul-square}
use Rattle.word_tower.proofs.Halves.{product_lt, sum_lt}
use Rattle.word_tower.proofs.quadratic.square.Goals as goal

pub join-requires-clause-low : goal.join-requires-clause-low
join-requires-clause-low g c =
    let k = g.E.Below.Level.LEVEL in
    sum_lt k _ _ _ (product_lt k _ _ _ c.square-low.ensures) (product_lt k _ _ _ c.square-high.ensures) c.xor.ensures

pub join-requires-clause-high : goal.join-requires-clause-high
join-requires-clause-high g c = product_lt g.E.Below.Level.LEVEL _ _ _ c.multiply_by_root-by_root.ensures

pub returns : goal.returns
returns g c =
    let square = tower_mul-square g.E.Below.Level.LEVEL (g.R.Stored.number c.args.a) in
    cc (
      square,
      c.low.ensures,
      c.high.ensures,
      c.square-low.ensures,
      c.square-high.ensures,
      c.multiply_by_root-by_root.ensures,
      c.xor.ensures,
      c.join.ensures,
    )
