use Rattle.std.proofs.Common.{◌∙◌}
use Rattle.word_tables.proofs.frobenius.square_by_table.Goals as goal

pub returns : goal.returns
returns c =
    c.sum_of_values.ensures
    ∙ c.table_of.ensures c.args.level c.digits_of.result c.args.x c.requires.few c.digits_of.ensures c.requires.fits
