use Rattle.std.proofs.Common.{map, ◌∙◌, arith}
use Rattle.additive_transforms.proofs.WordSteps.{last_first}
use Rattle.many_words.proofs.MapSteps.{block_summed}
use Rattle.many_words.proofs.word_maps.add_images.Goals as goal

pub loop-block-preserved : goal.loop-block-preserved
loop-block-preserved g c = (
  c.scatter.ensures.length ∙ c.loop-block.invariant.0,
  λ f are.
      block_summed g.S.Planes.depth g.W.WordBytes.size g.S.Planes.lanes c.loop-block.block f c.requires.size g.met.S.Entries.sixteen_law
      (g.S.Planes.lane c.gather.result) (g.S.Planes.lane c.gather-next.result) _ (map g.W.Reads.number c.args.words.now)
      (map g.W.Reads.number c.args.sums.now) (map g.W.Reads.number c.loop-block.sums) (map g.W.Reads.number c.scatter.new.words)
      (c.loop-block.invariant.1 f are) c.gather-next.ensures c.gather.ensures (c.add_images.ensures f 0 are) c.scatter.ensures.words,
  omega (arith, c.loop-block-test.true),
)

pub returns-clause-images : goal.returns-clause-images
returns-clause-images g c f are =
    last_first _ _ _ _ _ _ (omega (arith, c.loop-block.invariant.2, c.loop-block-test.false)) (c.loop-block.invariant.1 f are)
