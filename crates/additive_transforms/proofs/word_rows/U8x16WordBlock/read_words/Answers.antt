use Rattle.std.proofs.Common.{map}
use Rattle.additive_transforms.proofs.WordRows.{chunks_are}
use Rattle.additive_transforms.proofs.word_rows.U8x16WordBlock.read_words.Goals as goal

pub returns : goal.returns
returns g c =
    chunks_are g.W.WordBytes.size c.args.start c.args.count 16 c.gather-bytes.result (map g.W.Reads.number c.args.words.now) c.requires.count
    c.holds_bytes.ensures.count c.holds_bytes.ensures.fit c.gather-bytes.ensures
