use Rattle.field_base.proofs.TowerProducts.{tower_mul-root_suc}
use Rattle.word_tower.proofs.Halves.{high_lt, low_lt, product_lt, sum_lt}
use Rattle.word_tower.proofs.quadratic.multiply_by_root.Goals as goal

pub join-requires-clause-low : goal.join-requires-clause-low
join-requires-clause-low g c = high_lt g.E.Below.Level.LEVEL (g.R.Stored.number c.args.a) _ c.high-high.ensures

pub join-requires-clause-high : goal.join-requires-clause-high
join-requires-clause-high g c =
    let k = g.E.Below.Level.LEVEL in
    sum_lt k _ _ _ (low_lt k (g.R.Stored.number c.args.a) _ c.low-low.ensures) (product_lt k _ _ _ c.multiply_by_root.ensures) c.xor.ensures

pub returns : goal.returns
returns g c =
    let by_root = tower_mul-root_suc g.E.Below.Level.LEVEL (g.R.Stored.number c.args.a) in
    cc (by_root, c.low-low.ensures, c.high-high.ensures, c.multiply_by_root.ensures, c.xor.ensures, c.join.ensures)
