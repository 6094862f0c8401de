use Rattle.std.proofs.Common.{arith}
use Rattle.bits_packed.proofs.WordRanges.{row_fits}
use Rattle.bits_packed.proofs.rows.place.Goals as goal

pub overflow_mul-result : goal.overflow_mul-result
overflow_mul-result c =
    let fits = row_fits c.args.shape.words c.args.shape.rows c.args.row c.args.shape.words c.requires.row_within (omega arith) in
    omega (arith, fits, c.requires.shape)

pub overflow_add-result : goal.overflow_add-result
overflow_add-result c =
    let fits = row_fits c.args.shape.words c.args.shape.rows c.args.row c.args.shape.words c.requires.row_within (omega arith) in
    omega (arith, fits, c.requires.shape, c.requires.column_within)

pub returns-clause-inside : goal.returns-clause-inside
returns-clause-inside c =
    let fits = row_fits c.args.shape.words c.args.shape.rows c.args.row c.args.shape.words c.requires.row_within (omega arith) in
    omega (arith, fits, c.requires.shape, c.requires.column_within)
