use Rattle.additive_transforms.proofs.PairLoops.{pair_back, pair_on}
use Rattle.additive_transforms.proofs.elements.pairs.run_pair.Goals as goal

pub returns-then-inverse : goal.returns-then-inverse
returns-then-inverse g c =
    let is = c.inverse_pair.ensures in
    pair_back g.E.Represented.product (g.E.Represented.repr c.args.s) _ _ _ _ c.args.inverse c.if-inverse.true is.high is.low

pub returns-else-inverse : goal.returns-else-inverse
returns-else-inverse g c =
    let is = c.forward_pair.ensures in
    pair_on g.E.Represented.product (g.E.Represented.repr c.args.s) _ _ _ _ c.args.inverse c.if-inverse.false is.low is.high
