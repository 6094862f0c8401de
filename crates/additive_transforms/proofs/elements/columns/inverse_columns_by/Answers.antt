use Rattle.std.proofs.Common.{sym, ◌∙◌}
use Rattle.std.proofs.lemmas.List.{length-map}
use Rattle.field_base.proofs.WordValues.{values_fit}
use Rattle.additive_transforms.proofs.ColumnStages.{column-fits, column_count}
use Rattle.additive_transforms.proofs.ElementStages.{the_numbers}
use Rattle.additive_transforms.proofs.elements.columns.inverse_columns_by.Goals as goal

pub returns-clause-coefficients : goal.returns-clause-coefficients
returns-clause-coefficients g c column in_row =
    let by = g.K.StageArithmetic in
    let laws = g.met.K.StageArithmetic in
    let new = c.run_columns.new.values in
    let fits = c.requires in
    let count = column_count fits.0 c.args.columns _ fits.1 column _ (length-map c.args.values.now by.value) in
    let count' = column_count fits.0 c.args.columns _ fits.1 column _ (length-map new by.value ∙ c.run_columns.ensures.length) in
    the_numbers laws.wide_law laws.ring_law laws.vector_law (by.number c.args.z) _ _ (fits.0, (fits.1.0, count), fits.2)
    (count' ∙ sym count) (column-fits c.args.columns column _ by.width (values_fit by.width by.value laws.range_law new))
    (c.run_columns.ensures.values column in_row)
