use Rattle.std.proofs.Common.{◌+◌, ◌∙◌, ap, arith, sym}
use Rattle.std.specs.Prelude.{slice_index}
use Rattle.bits_packed.proofs.FourRowTables.{row_behind, row_inside}
use Rattle.bits_packed.proofs.transposes.word_from.Goals as goal

pub place-at-requires : goal.place-at-requires
place-at-requires c =
    record { shape = c.requires.source; row_within = omega (arith, c.if-offset-left.true); column_within = c.requires.word }

pub returns-then-offset-left : goal.returns-then-offset-left
returns-then-offset-left c =
    ap (slice_index c.args.source.now) c.place-at.ensures.is
    ∙ sym (row_inside c.args.shape.rows c.args.shape.words c.args.source.now (c.args.first + c.args.offset) c.args.word
    (omega (arith, c.if-offset-left.true)))

pub returns-else-offset-left : goal.returns-else-offset-left
returns-else-offset-left c =
    sym (row_behind c.args.shape.rows c.args.shape.words c.args.source.now (c.args.first + c.args.offset) c.args.word
    (omega (arith, c.if-offset-left.false, c.requires.first)))
