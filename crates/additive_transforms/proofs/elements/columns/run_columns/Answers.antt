use Rattle.std.proofs.Common.{refl, ◌∙◌, arith}
use Rattle.std.proofs.lemmas.List.{length-map}
use Rattle.field_base.proofs.WordValues.{values_fit}
use Rattle.additive_transforms.specs.Elements.{level_shifts, twiddle_basis}
use Rattle.additive_transforms.proofs.ColumnStages.{column-fits, column_count, so_far-end, so_far-start, so_far-step, stages_of-rows}
use Rattle.additive_transforms.proofs.ElementStages.{basis_length, level_twiddles}
use Rattle.additive_transforms.proofs.elements.columns.run_columns.Goals as goal

pub loop-done-init : goal.loop-done-init
loop-done-init g c = (refl, λ column in_row. so_far-start c.args.inverse _ _ _ _ _)

pub loop-done-preserved : goal.loop-done-preserved
loop-done-preserved g c = (
  c.run_column_stage.ensures.length ∙ c.loop-done.invariant.0,
  λ column in_row.
      let by = g.K.StageArithmetic in
      let laws = g.met.K.StageArithmetic in
      let fit = values_fit by.width by.value laws.range_law in
      so_far-step by.width by.product laws.ring_law (level_shifts by.width by.product (by.number c.args.z)) (twiddle_basis by.width by.vector)
      c.stages_of-stages.result c.args.inverse c.stage_after-stage.result c.loop-done.done (omega arith) c.stage_after-stage.ensures _ _ _
      (column-fits c.args.columns column _ by.width (fit c.loop-done.values))
      (column-fits c.args.columns column _ by.width (fit c.run_column_stage.new.values))
      (c.run_column_stage.ensures.stage column in_row) (c.loop-done.invariant.1 column in_row),
)

pub returns-clause-values : goal.returns-clause-values
returns-clause-values g c column in_row =
    let by = g.K.StageArithmetic in
    let laws = g.met.K.StageArithmetic in
    let stages = c.stages_of-stages.result in
    let fit = values_fit by.width by.value laws.range_law in
    let rows = stages_of-rows by.width c.args.columns _ c.requires stages c.stages_of-stages.ensures.only in
    so_far-end by.width by.product by.vector laws.wide_law laws.ring_law laws.vector_law
    (level_shifts by.width by.product (by.number c.args.z)) (twiddle_basis by.width by.vector) (by.number c.args.z) by.width
    (level_twiddles laws.wide_law (by.number c.args.z)) (basis_length by.width by.vector laws.wide_law) stages rows.1 c.args.inverse
    c.loop-done.done (omega arith) _ _
    (column_count stages c.args.columns _ rows.0 column _ (length-map c.args.values.now by.value))
    (column_count stages c.args.columns _ rows.0 column _ (length-map c.loop-done.values by.value ∙ c.loop-done.invariant.0))
    (column-fits c.args.columns column _ by.width (fit c.args.values.now))
    (column-fits c.args.columns column _ by.width (fit c.loop-done.values)) (c.loop-done.invariant.1 column in_row)
