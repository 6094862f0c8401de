use Rattle.std.proofs.Common.{◌-◌, ◌*◌, ◌^◌, length, map, ◌∙◌}
use Rattle.std.proofs.lemmas.List.{length-map}
use Rattle.field_base.proofs.WordValues.{values_fit}
use Rattle.additive_transforms.proofs.LowStageRuns.{low_stages_hold, stage-count}
use Rattle.additive_transforms.proofs.pairs.low_stages.Goals as goal

pub returns-clause-sums : goal.returns-clause-sums
returns-clause-sums g c =
    let value = g.P.PairKernel.value in
    let fits = values_fit 128 value g.P.PairKernel.range_law in
    let shifts = c.args.shifts.now in
    let basis = c.args.basis.now in
    let third = c.low_stage.ensures.length in
    let second = c.low_stage-2.ensures.length ∙ third in
    let first = c.low_stage-3.ensures.length ∙ second in
    low_stages_hold shifts basis c.args.first_run (length c.args.values.now) (map value c.args.values.now)
    (map value c.low_stage.new.values) (map value c.low_stage-2.new.values) (map value c.low_stage-3.new.values)
    (map value c.low_stage-4.new.values) (length-map c.args.values.now value) c.requires
    (fits c.args.values.now) (fits c.low_stage.new.values) (fits c.low_stage-2.new.values) (fits c.low_stage-3.new.values)
    (fits c.low_stage-4.new.values)
    c.low_stage.ensures.stage
    (stage-count shifts basis 2 (c.args.first_run * 2 ^ (3 - 2)) _ _ _ _ third c.low_stage-2.ensures.stage)
    (stage-count shifts basis 1 (c.args.first_run * 2 ^ (3 - 1)) _ _ _ _ second c.low_stage-3.ensures.stage)
    (stage-count shifts basis 0 (c.args.first_run * 2 ^ (3 - 0)) _ _ _ _ first c.low_stage-4.ensures.stage)
