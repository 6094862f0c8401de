use Rattle.word_tower.proofs.Halves.{high_lt, low_lt, product_lt, root_quotient, sum_lt}
use Rattle.word_tower.proofs.quadratic.divide_by_root.Goals as goal

pub join-requires-clause-low : goal.join-requires-clause-low
join-requires-clause-low g c =
    let k = g.E.Below.Level.LEVEL in
    sum_lt k _ _ _ (high_lt k (g.R.Stored.number c.args.a) _ c.high-high.ensures) (product_lt k _ _ _ c.multiply_by_root.ensures) c.xor.ensures

pub join-requires-clause-high : goal.join-requires-clause-high
join-requires-clause-high g c = low_lt g.E.Below.Level.LEVEL (g.R.Stored.number c.args.a) _ c.low-low.ensures

pub returns : goal.returns
returns g c =
    let quotient = root_quotient g.E.Below.Level.LEVEL (g.R.Stored.number c.args.a) c.requires in
    cc (quotient, c.low-low.ensures, c.high-high.ensures, c.multiply_by_root.ensures, c.xor.ensures, c.join.ensures)
