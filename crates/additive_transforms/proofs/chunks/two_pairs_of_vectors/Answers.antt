use Rattle.additive_transforms.proofs.chunks.two_pairs_of_vectors.Goals as goal

pub returns-then-inverse-clause-first : goal.returns-then-inverse-clause-first
returns-then-inverse-clause-first g c s are fits =
    c.low_before-low_first.ensures c.args.inverse c.if-inverse.true g.M.Scales.depth s fits c.sum-first.ensures
    (c.times_two-product.ensures.first s are)

pub returns-then-inverse-clause-second : goal.returns-then-inverse-clause-second
returns-then-inverse-clause-second g c s are fits =
    c.low_before-low_second.ensures c.args.inverse c.if-inverse.true g.M.Scales.depth s fits c.sum-second.ensures
    (c.times_two-product.ensures.second s are)

pub returns-else-inverse-clause-first : goal.returns-else-inverse-clause-first
returns-else-inverse-clause-first g c s are fits =
    c.pair_after.ensures c.args.inverse c.if-inverse.false g.M.Scales.depth s fits (c.times_two-product-else-inverse.ensures.first s are)

pub returns-else-inverse-clause-second : goal.returns-else-inverse-clause-second
returns-else-inverse-clause-second g c s are fits =
    c.pair_after-else-inverse.ensures c.args.inverse c.if-inverse.false g.M.Scales.depth s fits
    (c.times_two-product-else-inverse.ensures.second s are)
