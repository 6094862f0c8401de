use Rattle.std.proofs.Common.{refl}
use Rattle.bit_slices.proofs.Exchanges.{block_size, blocks_exchanged, words_exchanged}
use Rattle.bit_slices.proofs.bit.BitSliced.exchange.Goals as goal

pub exchange_blocks-first-requires : goal.exchange_blocks-first-requires
exchange_blocks-first-requires g c = block_size c.args.level _ c.requires c.if-level-eq6.false refl

pub returns-then-level-eq6 : goal.returns-then-level-eq6
returns-then-level-eq6 g c =
    let words = g.V.WordVector.words in
    words_exchanged c.args.level (words c.args.x.now.words) (words c.args.y.now.words) (words c.exchange_words-even.result.0)
    (words c.exchange_words-even.result.1) c.if-level-eq6.true c.exchange_words-even.ensures

pub returns-else-level-eq6 : goal.returns-else-level-eq6
returns-else-level-eq6 g c =
    let words = g.V.WordVector.words in
    blocks_exchanged c.args.level _ (words c.args.x.now.words) (words c.args.y.now.words) (words c.exchange_blocks-first.result.0)
    (words c.exchange_blocks-first.result.1) c.requires c.if-level-eq6.false refl c.exchange_blocks-first.ensures.first
    c.exchange_blocks-first.ensures.second
