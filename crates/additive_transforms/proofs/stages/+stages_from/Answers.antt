use Rattle.std.proofs.Common.{◌≡◌, ℕ, ◌-◌, ◌*◌, ◌^◌, length, map, ◌∙◌, subst, arith}
use Rattle.additive_transforms.specs.Elements.{level_shifts, twiddle_basis}
use Rattle.additive_transforms.proofs.Counts.{whole_blocks}
use Rattle.additive_transforms.proofs.ElementStages.{few_blocks}
use Rattle.additive_transforms.proofs.PairCounts.{lowest_first, lowest_last, no_turns, room_above, room_behind, room_first, room_last}
use Rattle.additive_transforms.proofs.StagesFrom.{none_from, stage_below, taken_back_from, taken_on_from}
use Rattle.additive_transforms.proofs.SubspaceSteps.{next_subspace_value}
use Rattle.additive_transforms.proofs.stages.+stages_from.Goals as goal

pub returns-then-stage-stages-clause-stages : goal.returns-then-stage-stages-clause-stages
returns-then-stage-stages-clause-stages g t c z is =
    let by = g.K.StageArithmetic in
    none_from by.product (level_shifts by.width by.product z) (twiddle_basis by.width by.vector) c.args.stages c.args.stage c.args.inverse
    (map by.value c.args.values.now) c.if-stage-stages.true

pub returns-then-stage-stages-clause-counted : goal.returns-then-stage-stages-clause-counted
returns-then-stage-stages-clause-counted g t c =
    let half : ℕ = 2 ^ (c.args.stages - 1) in
    let none : 0 ≡ c.args.stages - c.args.stage = omega (arith, c.if-stage-stages.true) in
    subst (λ (k : ℕ). g.K.StageArithmetic.counted c.args.counter.now c.args.counter.now (k * half)) none
    (no_turns g.met.K.StageArithmetic.count_law c.args.counter.now half)

-- ---- the inverse stages, from the lowest up

pub run_stage-requires-clause-whole : goal.run_stage-requires-clause-whole
run_stage-requires-clause-whole g t c =
    whole_blocks c.args.stages c.args.stage (length c.args.values.now) (omega (arith, c.requires.some, c.if-stage-stages.false)) c.requires.stages.1

pub run_stage-requires-clause-few : goal.run_stage-requires-clause-few
run_stage-requires-clause-few g t c =
    few_blocks g.K.StageArithmetic.width c.args.stages c.args.stage (length c.args.values.now)
    (omega (arith, c.requires.some, c.if-stage-stages.false)) c.requires.few c.requires.stages.1

pub run_stage-requires-clause-room : goal.run_stage-requires-clause-room
run_stage-requires-clause-room g t c =
    room_first g.met.K.StageArithmetic.count_law c.args.stages c.args.stage (omega (arith, c.requires.some, c.if-stage-stages.false)) _ c.requires.stages.1
    c.args.counter.now c.requires.room

pub stages_from-requires : goal.stages_from-requires
stages_from-requires g t c κs within = (
  omega (arith, c.decreases, c.requires.some, c.if-stage-stages.false),
  (
    within.0,
    (
      within.1.0,
      (
        within.1.1.0,
        (
          within.1.1.1,
          (
            omega (arith, c.requires.some, c.if-stage-stages.false),
            (
              (c.requires.stages.0, c.run_stage.ensures.length ∙ c.requires.stages.1),
              (
                c.requires.few,
                room_behind g.met.K.StageArithmetic.count_law c.args.stages c.args.stage (omega (arith, c.requires.some, c.if-stage-stages.false)) _ c.requires.stages.1
                    c.args.counter.now c.run_stage.new.counter c.requires.room c.run_stage.ensures.counted,
              ),
            ),
          ),
        ),
      ),
    ),
  ),
)

pub returns-then-inverse-clause-stages : goal.returns-then-inverse-clause-stages
returns-then-inverse-clause-stages g t c z is =
    let by = g.K.StageArithmetic in
    let laws = g.met.K.StageArithmetic in
    taken_back_from by.product (level_shifts by.width by.product z) (twiddle_basis by.width by.vector) c.args.stages c.args.stage c.args.inverse
    (map by.value c.args.values.now) (map by.value c.stages_from.new.values) c.if-inverse.true
    (stage_below by.vector laws.ring_law by.value laws.range_law z c.requires.few c.args.stage (by.number c.args.shift) (length c.args.values.now)
    (omega (arith, c.requires.some, c.if-stage-stages.false)) c.requires.stages.1 is c.stages_from.new.values c.run_stage.new.values
    c.args.values.now
    (c.stages_from.ensures.stages z (next_subspace_value by.product z c.args.stage _ _ _ is c.square.ensures c.sum-next.ensures))
    c.run_stage.ensures.stage)

pub returns-then-inverse-clause-counted : goal.returns-then-inverse-clause-counted
returns-then-inverse-clause-counted g t c =
    lowest_first g.met.K.StageArithmetic.count_law c.args.stages c.args.stage (omega (arith, c.requires.some, c.if-stage-stages.false)) _ c.requires.stages.1
    c.args.counter.now c.run_stage.new.counter c.stages_from.new.counter c.run_stage.ensures.counted c.stages_from.ensures.counted

-- ---- the forward ones, from the highest down

pub stages_from-requires-2 : goal.stages_from-requires-2
stages_from-requires-2 g t c κs within = (
  omega (arith, c.decreases, c.requires.some, c.if-stage-stages.false),
  (
    within.0,
    (
      within.1.0,
      (
        within.1.1.0,
        (
          within.1.1.1,
          (
            omega (arith, c.requires.some, c.if-stage-stages.false),
            (
              c.requires.stages,
              (
                c.requires.few,
                room_above g.met.K.StageArithmetic.count_law c.args.stages c.args.stage (omega (arith, c.requires.some, c.if-stage-stages.false)) c.args.counter.now c.requires.room,
              ),
            ),
          ),
        ),
      ),
    ),
  ),
)

pub run_stage-requires-2-clause-whole : goal.run_stage-requires-2-clause-whole
run_stage-requires-2-clause-whole g t c =
    whole_blocks c.args.stages c.args.stage (length c.stages_from-2.new.values) (omega (arith, c.requires.some, c.if-stage-stages.false))
    (c.stages_from-2.ensures.length ∙ c.requires.stages.1)

pub run_stage-requires-2-clause-few : goal.run_stage-requires-2-clause-few
run_stage-requires-2-clause-few g t c =
    few_blocks g.K.StageArithmetic.width c.args.stages c.args.stage (length c.stages_from-2.new.values)
    (omega (arith, c.requires.some, c.if-stage-stages.false)) c.requires.few (c.stages_from-2.ensures.length ∙ c.requires.stages.1)

pub run_stage-requires-2-clause-room : goal.run_stage-requires-2-clause-room
run_stage-requires-2-clause-room g t c =
    room_last g.met.K.StageArithmetic.count_law c.args.stages c.args.stage (omega (arith, c.requires.some, c.if-stage-stages.false)) _
    (c.stages_from-2.ensures.length ∙ c.requires.stages.1) c.args.counter.now c.stages_from-2.new.counter c.requires.room
    c.stages_from-2.ensures.counted

pub returns-clause-stages : goal.returns-clause-stages
returns-clause-stages g t c z is =
    let by = g.K.StageArithmetic in
    let laws = g.met.K.StageArithmetic in
    taken_on_from by.product (level_shifts by.width by.product z) (twiddle_basis by.width by.vector) c.args.stages c.args.stage c.args.inverse
    (map by.value c.args.values.now) (map by.value c.run_stage-2.new.values) c.if-inverse.false
    (stage_below by.vector laws.ring_law by.value laws.range_law z c.requires.few c.args.stage (by.number c.args.shift) (length c.stages_from-2.new.values)
    (omega (arith, c.requires.some, c.if-stage-stages.false)) (c.stages_from-2.ensures.length ∙ c.requires.stages.1) is c.args.values.now
    c.stages_from-2.new.values c.run_stage-2.new.values
    (c.stages_from-2.ensures.stages z (next_subspace_value by.product z c.args.stage _ _ _ is c.square.ensures c.sum-next.ensures))
    c.run_stage-2.ensures.stage)

pub returns-clause-counted : goal.returns-clause-counted
returns-clause-counted g t c =
    lowest_last g.met.K.StageArithmetic.count_law c.args.stages c.args.stage (omega (arith, c.requires.some, c.if-stage-stages.false)) _
    (c.stages_from-2.ensures.length ∙ c.requires.stages.1) c.args.counter.now c.stages_from-2.new.counter c.run_stage-2.new.counter
    c.stages_from-2.ensures.counted c.run_stage-2.ensures.counted
