use Rattle.std.proofs.Common.{ℕ, ◌+◌, ◌-◌, ◌*◌, ◌^◌, false, ◌∙◌, ap, arith}
use Rattle.std.specs.Prelude.{bit_xor, slice_index}
use Rattle.field_base.specs.LinearMaps.{linear_image}
use Rattle.ghash_slices.specs.LowStages.{ghash_product}
use Rattle.additive_transforms.proofs.BlockStages.{stage_done, stage_step}
use Rattle.additive_transforms.proofs.pairs.low_stage.Goals as goal

pub loop-block-preserved : goal.loop-block-preserved
loop-block-preserved g c =
    let twiddle : ℕ → ℕ = λ b. bit_xor (slice_index c.args.shifts.now c.args.stage) (linear_image c.args.basis.now b) in
    stage_step false ghash_product (λ (q : ℕ). twiddle (c.args.first_run * 2 ^ (3 - c.args.stage) + q)) _
    g.P.PairKernel.value _ _ _ c.args.values.now c.loop-block.values c.pairs_of_block.new.block
    c.start_of-start.ensures.start c.start_of-start.ensures.inside c.pairs_of_block.ensures.length
    (ap (bit_xor (slice_index c.args.shifts.now c.args.stage)) c.sum_of_images.ensures
    ∙ ap (λ (b : ℕ). twiddle (b + c.loop-block.block)) c.first_block-first.ensures.first)
    c.pairs_of_block.ensures.values c.loop-block.invariant.0 c.loop-block.invariant.1

pub returns-clause-stage : goal.returns-clause-stage
returns-clause-stage g c =
    stage_done false _ _ _ c.args.stage c.half_of-half.ensures.half _ c.loop-block.block _ _ (omega arith) c.loop-block.invariant.1
