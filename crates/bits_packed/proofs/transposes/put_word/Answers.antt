use Rattle.std.proofs.Common.{◌+◌, arith, refl}
use Rattle.bits_packed.proofs.BitTransposes.{word_missing, word_put}
use Rattle.bits_packed.proofs.transposes.put_word.Goals as goal

pub place-at-requires : goal.place-at-requires
place-at-requires c =
    record { shape = c.requires.shape; row_within = omega (arith, c.if-offset-left.true); column_within = c.requires.word }

pub returns-then-offset-left : goal.returns-then-offset-left
returns-then-offset-left c =
    word_put c.args.shape.rows c.args.shape.words (c.args.first + c.args.offset) c.args.word c.place-at.result c.args.value c.args.target.now _
    c.place-at.ensures.is c.requires.word (omega (arith, c.place-at.ensures.inside, c.requires.word)) refl

pub returns-else-offset-left : goal.returns-else-offset-left
returns-else-offset-left c =
    word_missing c.args.shape.rows c.args.shape.words (c.args.first + c.args.offset) c.args.word c.args.value c.args.target.now
    (omega (arith, c.if-offset-left.false, c.requires.first))
