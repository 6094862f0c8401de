use Rattle.std.proofs.Common.{arith}
use Rattle.bits_packed.proofs.BitRows.{row_cleared}
use Rattle.bits_packed.proofs.rows.clear_row.Goals as goal

pub returns : goal.returns
returns c =
    row_cleared c.args.shape.words c.args.row c.args.word c.place-own.result c.args.matrix.now c.clear.new.words
    (omega (arith, c.requires.column_within)) c.place-own.ensures.is c.clear.ensures
