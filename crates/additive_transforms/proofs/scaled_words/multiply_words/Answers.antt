use Rattle.std.proofs.Common.{map, ◌∙◌, length, arith}
use Rattle.additive_transforms.proofs.WordSteps.{block_multiplied, last_first, rest_below}
use Rattle.additive_transforms.proofs.scaled_words.multiply_words.Goals as goal

pub loop-block-preserved : goal.loop-block-preserved
loop-block-preserved g c =
    let within = c.loop-block-test.true in (
      c.scatter.ensures.length ∙ c.loop-block.invariant.0,
      λ s are.
          block_multiplied g.P.Planes.depth g.W.WordBytes.size g.P.Planes.lanes c.lane_count-lanes.result c.loop-block.block s c.requires
          c.lane_count-lanes.ensures.count _ (map g.W.Reads.number c.args.words.now) (map g.W.Reads.number c.loop-block.words)
          (map g.W.Reads.number c.scatter.new.words) (c.loop-block.invariant.1 s are) (c.products_at-products.ensures s are) c.scatter.ensures.words,
      omega (arith, within),
    )

pub returns-clause-products : goal.returns-clause-products
returns-clause-products g c s are =
    last_first _ _ _ _ _ _ (omega (arith, c.loop-block.invariant.2, c.loop-block-test.false)) (c.loop-block.invariant.1 s are)

pub returns-clause-rest : goal.returns-clause-rest
returns-clause-rest g c = rest_below (length c.args.words.now) _ _ c.lane_count-lanes.ensures.count c.lane_count-lanes.ensures.some
