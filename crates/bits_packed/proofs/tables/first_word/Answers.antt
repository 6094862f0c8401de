use Rattle.std.proofs.Common.{◌+◌, arith}
use Rattle.bits_packed.proofs.WordRanges.{row_fits}
use Rattle.bits_packed.proofs.tables.first_word.Goals as goal

pub overflow_mul-result : goal.overflow_mul-result
overflow_mul-result c =
    let fits = row_fits c.args.strip.words c.args.rows c.args.row (c.args.strip.start + c.args.strip.width) c.requires.row c.requires.strip.within in
    omega (arith, fits, c.requires.len)

pub overflow_add-result : goal.overflow_add-result
overflow_add-result c =
    let fits = row_fits c.args.strip.words c.args.rows c.args.row (c.args.strip.start + c.args.strip.width) c.requires.row c.requires.strip.within in
    omega (arith, fits, c.requires.len)

pub returns-clause-inside : goal.returns-clause-inside
returns-clause-inside c =
    let fits = row_fits c.args.strip.words c.args.rows c.args.row (c.args.strip.start + c.args.strip.width) c.requires.row c.requires.strip.within in
    omega (arith, fits, c.requires.len)
