use Rattle.std.proofs.Common.{sym, ◌∙◌}
use Rattle.bit_slices.proofs.LaneBits.{first_exchanged, second_exchanged}
use Rattle.bit_slices.proofs.bit.exchange_blocks.Goals as goal

pub returns-clause-first : goal.returns-clause-first
returns-clause-first g c n =
    let words = g.V.WordVector.words in
    rw (c.sum-2.ensures, c.up.ensures, c.masked-change.ensures, c.sum.ensures, c.down.ensures)
    (first_exchanged c.args.block c.even_word-even.result (words c.args.x) (words c.args.y) n
    (c.holds_words.ensures.count ∙ sym c.holds_words-2.ensures.count) c.even_word-even.ensures.some c.even_word-even.ensures.even)

pub returns-clause-second : goal.returns-clause-second
returns-clause-second g c n =
    let words = g.V.WordVector.words in
    rw (c.sum-3.ensures, c.masked-change.ensures, c.sum.ensures, c.down.ensures)
    (second_exchanged c.args.block c.even_word-even.result (words c.args.x) (words c.args.y) n
    (c.holds_words.ensures.count ∙ sym c.holds_words-2.ensures.count) c.even_word-even.ensures.even)
