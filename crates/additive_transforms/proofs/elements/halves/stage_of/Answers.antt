use Rattle.std.proofs.Common.{ℕ, length, map, ◌+◌, ◌/◌, ◌^◌, sym, subst, ◌∙◌, arith}
use Rattle.additive_transforms.specs.Elements.{twiddle_basis}
use Rattle.additive_transforms.specs.Stages.{TakesStage}
use Rattle.additive_transforms.proofs.Counts.{whole_blocks}
use Rattle.additive_transforms.proofs.ElementStages.{few_blocks, shift_at}
use Rattle.additive_transforms.proofs.elements.halves.stage_of.Goals as goal

pub run_stage-requires-clause-whole : goal.run_stage-requires-clause-whole
run_stage-requires-clause-whole g c =
    whole_blocks c.args.stages c.args.stage (length c.args.values.now) c.requires.stage c.requires.stages.1

pub run_stage-requires-clause-few : goal.run_stage-requires-clause-few
run_stage-requires-clause-few g c =
    few_blocks g.K.StageArithmetic.width c.args.stages c.args.stage (length c.args.values.now) c.requires.stage c.requires.few
    c.requires.stages.1

pub run_stage-requires-clause-room : goal.run_stage-requires-clause-room
run_stage-requires-clause-room g c = g.met.K.Uncounted.room_law _ _

pub returns-clause-stage : goal.returns-clause-stage
returns-clause-stage g c =
    let by = g.K.StageArithmetic in
    subst (λ (shift : ℕ). TakesStage c.args.inverse by.product shift (twiddle_basis by.width by.vector) c.args.stage
    (length c.args.values.now / 2 ^ (c.args.stage + 1)) (map by.value c.args.values.now) (map by.value c.run_stage.new.values))
    (c.shift.ensures ∙ sym (shift_at by.width by.product (by.number c.args.z) c.args.stage (omega (arith, c.requires.stage, c.requires.few))))
    c.run_stage.ensures.stage
