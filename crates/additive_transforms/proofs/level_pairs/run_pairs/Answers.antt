use Rattle.std.proofs.Common.{refl, sym, ◌∙◌, arith}
use Rattle.additive_transforms.proofs.PairLoops.{taken_pair}
use Rattle.field_base.specs.Tower.{tower_mul}
use Rattle.std.proofs.lemmas.List.{length-set}
use Rattle.additive_transforms.specs.Words.{level_element}
use Rattle.additive_transforms.proofs.WordRows.{next_pair}
use Rattle.additive_transforms.proofs.level_pairs.run_pairs.Goals as goal

pub loop-place-init : goal.loop-place-init
loop-place-init g c = (refl, refl, λ s is lower upper before. before)

pub loop-place-preserved : goal.loop-place-preserved
loop-place-preserved g c =
    let k = g.S.Multiplies.level in
    let so_far = c.loop-place.invariant in
    let below = c.loop-place-test.true in
    let low = so_far.0 in (
      length-set c.loop-place.lo c.loop-place.place c.run_pair.new.lo ∙ so_far.0,
      length-set c.loop-place.hi c.loop-place.place c.run_pair.new.hi ∙ so_far.1,
      λ s is lower upper before.
          next_pair (level_element g.W.Reads.number k) (taken_pair (g.S.Multiplies.inverse c.args.scalar.now) (tower_mul k) s) c.loop-place.place c.loop-place.lo
          c.loop-place.hi c.index-lo-place.result c.index-hi-place.result c.run_pair.new.lo c.run_pair.new.hi
          (so_far.0 ∙ c.requires.same ∙ sym so_far.1) (omega (arith, below, low)) (c.run_pair.ensures s is) lower upper
          (so_far.2 s is lower upper before),
    )
