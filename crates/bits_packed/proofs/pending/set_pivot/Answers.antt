use Rattle.std.proofs.Common.{◌+◌, ◌*◌, arith}
use Rattle.bits_packed.proofs.WordColumns.{pivot_missing, pivot_set}
use Rattle.bits_packed.proofs.pending.set_pivot.Goals as goal

pub returns-then-row-shape : goal.returns-then-row-shape
returns-then-row-shape c =
    pivot_set c.args.shape.rows c.args.shape.words (64 * c.args.word + c.args.bit) c.args.row c.args.matrix.now c.add_bit.new.matrix
    c.if-row-shape.true (omega (arith, c.requires.word, c.requires.bit)) c.add_bit.ensures

pub returns-else-row-shape : goal.returns-else-row-shape
returns-else-row-shape c =
    pivot_missing c.args.shape.rows c.args.shape.words (64 * c.args.word + c.args.bit) c.args.row c.args.matrix.now c.if-row-shape.false
