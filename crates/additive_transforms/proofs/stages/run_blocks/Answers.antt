use Rattle.std.proofs.Common.{◌≡◌, ℕ, ◌+◌, ◌-◌, ◌*◌, ◌/◌, length, refl, ◌∙◌, ap, subst, arith}
use Rattle.std.specs.Prelude.{bit_xor}
use Rattle.field_base.specs.LinearMaps.{linear_image}
use Rattle.additive_transforms.specs.Elements.{twiddle_basis}
use Rattle.additive_transforms.proofs.BlockStages.{blocks_start, stage_step}
use Rattle.additive_transforms.proofs.PairCounts.{next_turn, no_turns, turn_room}
use Rattle.additive_transforms.proofs.stages.run_blocks.Goals as goal

pub loop-block-init : goal.loop-block-init
loop-block-init g c =
    (refl, blocks_start _ _ _, (λ above. absurd (omega (arith, above))), no_turns g.met.K.StageArithmetic.count_law _ _)

pub run_block-requires-clause-room : goal.run_block-requires-clause-room
run_block-requires-clause-room g c =
    turn_room g.met.K.StageArithmetic.count_law _ _ c.loop-block.block c.args.half (length c.args.values.now / (2 * c.args.half)) (omega arith)
    c.requires.room c.loop-block.invariant.3

pub loop-block-preserved : goal.loop-block-preserved
loop-block-preserved g c =
    let by = g.K.StageArithmetic in
    let twiddle : ℕ → ℕ =
    λ q. bit_xor (by.number c.args.shift) (linear_image (twiddle_basis by.width by.vector) q) in
    let last : c.loop-block.block ≡ c.loop-block.block + 1 - 1 = omega arith in
    let both =
    stage_step c.args.inverse by.product twiddle c.args.half by.value _ _ _
    c.args.values.now c.loop-block.values c.run_block.new.block c.start_of-start.ensures.start c.start_of-start.ensures.inside
    c.run_block.ensures.length c.block_twiddle-twiddle.ensures c.run_block.ensures.values c.loop-block.invariant.0
    c.loop-block.invariant.1 in (
      both.0,
      both.1,
      (λ above. ◌∙◌ {b = twiddle c.loop-block.block} c.block_twiddle-twiddle.ensures (ap twiddle last)),
      next_turn g.met.K.StageArithmetic.count_law _ _ _ _ _ c.loop-block.invariant.3 c.run_block.ensures.counted,
    )

pub returns-clause-blocks : goal.returns-clause-blocks
returns-clause-blocks g c q below = c.loop-block.invariant.1.done q (omega (arith, below))

pub returns-clause-counted : goal.returns-clause-counted
returns-clause-counted g c =
    let last : c.loop-block.block ≡ length c.args.values.now / (2 * c.args.half) = omega arith in
    subst (λ (n : ℕ). g.K.StageArithmetic.counted c.args.counter.now c.loop-block.counter (n * c.args.half)) last c.loop-block.invariant.3
