use Rattle.std.proofs.Common.{map, ◌∙◌, length, arith}
use Rattle.additive_transforms.proofs.WordSteps.{block_added, last_first, rest_below}
use Rattle.additive_transforms.proofs.scaled_words.add_multiples.Goals as goal

pub loop-block-preserved : goal.loop-block-preserved
loop-block-preserved g c =
    let within = c.loop-block-test.true in (
      c.scatter.ensures.length ∙ c.loop-block.invariant.0,
      λ s are.
          block_added g.P.Planes.depth g.W.WordBytes.size g.P.Planes.lanes c.lane_count-lanes.result c.loop-block.block s c.requires.size
          c.lane_count-lanes.ensures.count _ _ _ (map g.W.Reads.number c.args.words.now) (map g.W.Reads.number c.args.sums.now)
          (map g.W.Reads.number c.loop-block.sums) (map g.W.Reads.number c.scatter.new.words) c.requires.fit (c.loop-block.invariant.1 s are)
          (c.products_at-products.ensures s are) c.gather.ensures c.add.ensures c.scatter.ensures.words,
      omega (arith, within),
    )

pub returns-clause-products : goal.returns-clause-products
returns-clause-products g c s are =
    last_first _ _ _ _ _ _ (omega (arith, c.loop-block.invariant.2, c.loop-block-test.false)) (c.loop-block.invariant.1 s are)

pub returns-clause-rest : goal.returns-clause-rest
returns-clause-rest g c =
    let rest = rest_below (length c.args.words.now) _ _ c.lane_count-lanes.ensures.count c.lane_count-lanes.ensures.some in
    omega (arith, rest, c.requires.same)
