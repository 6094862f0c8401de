use Rattle.additive_transforms.proofs.chunks.pair_of_vectors.Goals as goal

pub returns-then-inverse : goal.returns-then-inverse
returns-then-inverse g c s are fits =
    c.low_before.ensures c.args.inverse c.if-inverse.true g.M.Scales.depth s fits c.sum-high.ensures (c.times.ensures s are)

pub returns-else-inverse : goal.returns-else-inverse
returns-else-inverse g c s are fits =
    c.pair_after.ensures c.args.inverse c.if-inverse.false g.M.Scales.depth s fits (c.times-else-inverse.ensures s are)
