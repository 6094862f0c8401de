use Rattle.std.proofs.Common.{ℕ, length, sym, subst, arith}
use Rattle.std.proofs.lemmas.Nat.{pow_pos}
use Rattle.std.specs.Prelude.{bit_xor}
use Rattle.field_base.specs.LinearMaps.{linear_image}
use Rattle.additive_transforms.specs.Elements.{twiddle_basis}
use Rattle.additive_transforms.proofs.BlockStages.{stage_blocks, stage_taken}
use Rattle.additive_transforms.proofs.Counts.{stage_pairs}
use Rattle.additive_transforms.proofs.stages.run_stage.Goals as goal

pub run_blocks-requires-clause-half : goal.run_blocks-requires-clause-half
run_blocks-requires-clause-half g c =
    let some = pow_pos c.args.stage in
    omega (arith, some, c.half_of.ensures.half)

pub run_blocks-requires-clause-few : goal.run_blocks-requires-clause-few
run_blocks-requires-clause-few g c =
    let blocks = stage_blocks c.args.inverse g.K.StageArithmetic.product (λ (q : ℕ). q) _ c.args.stage c.half_of.ensures.half
    (length c.args.values.now) in
    omega (arith, blocks, c.requires.few)

pub run_blocks-requires-clause-room : goal.run_blocks-requires-clause-room
run_blocks-requires-clause-room g c =
    subst (λ (n : ℕ). g.K.StageArithmetic.has_room c.args.counter.now n)
    (sym (stage_pairs (length c.args.values.now) c.args.stage _ c.half_of.ensures.half c.requires.whole)) c.requires.room

pub returns-clause-counted : goal.returns-clause-counted
returns-clause-counted g c =
    subst (λ (n : ℕ). g.K.StageArithmetic.counted c.args.counter.now c.run_blocks.new.counter n)
    (stage_pairs (length c.args.values.now) c.args.stage _ c.half_of.ensures.half c.requires.whole) c.run_blocks.ensures.counted

pub returns-clause-stage : goal.returns-clause-stage
returns-clause-stage g c =
    let by = g.K.StageArithmetic in
    stage_taken c.args.inverse by.product
    (λ (q : ℕ). bit_xor (by.number c.args.shift) (linear_image (twiddle_basis by.width by.vector) q)) _ c.args.stage
    c.half_of.ensures.half _ _ _ c.run_blocks.ensures.blocks
