use Rattle.std.proofs.Common.{◌≡◌, ℕ, ◌+◌, ◌-◌, ◌*◌, ◌/◌, length, map, ◌∙◌, subst, arith}
use Rattle.additive_transforms.proofs.PairLoops.{PairsSoFar, taken_pair}
use Rattle.field_base.specs.Tower.{tower_mul}
use Rattle.additive_transforms.specs.Words.{level_element}
use Rattle.additive_transforms.proofs.word_rows.run_vectors.Goals as goal

pub loop-block-preserved : goal.loop-block-preserved
loop-block-preserved g c =
    let so_far = c.loop-block.invariant in
    let inside = c.loop-block-test.true in
    let first = c.args.first in
    let count = c.words-count.result in
    let block = c.loop-block.block in
    let next : first + count * block + count ≡ first + count * (block + 1) = omega arith in (
      c.run_at.ensures.lower ∙ so_far.0,
      c.run_at.ensures.upper ∙ so_far.1,
      λ s are fits k within few lower upper before.
          subst (λ (m : ℕ). PairsSoFar (taken_pair c.args.scalar.now.inverse (tower_mul k) s) m lower upper
          (map (level_element g.W.Reads.number k) c.run_at.new.lo) (map (level_element g.W.Reads.number k) c.run_at.new.hi)) next
          (c.run_at.ensures.values s are fits k within few lower upper (so_far.2 s are fits k within few lower upper before)),
      omega (arith, inside),
    )

pub returns-clause-values : goal.returns-clause-values
returns-clause-values g c s are fits k within few lower upper before =
    let so_far = c.loop-block.invariant in
    let over = c.loop-block-test.false in
    let most = so_far.3 in
    let last : c.loop-block.block ≡ (length c.args.lo.now - c.args.first) / c.words-count.result = omega (arith, most, over) in
    subst (λ (b : ℕ). PairsSoFar (taken_pair c.args.scalar.now.inverse (tower_mul k) s) (c.args.first + c.words-count.result * b) lower upper
    (map (level_element g.W.Reads.number k) c.loop-block.lo) (map (level_element g.W.Reads.number k) c.loop-block.hi)) last
    (so_far.2 s are fits k within few lower upper before)
