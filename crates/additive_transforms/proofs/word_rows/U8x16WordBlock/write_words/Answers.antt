use Rattle.std.proofs.Common.{map}
use Rattle.additive_transforms.proofs.WordRows.{chunks_are, others_kept}
use Rattle.additive_transforms.proofs.word_rows.U8x16WordBlock.write_words.Goals as goal

pub returns-clause-words : goal.returns-clause-words
returns-clause-words g c =
    chunks_are g.W.WordBytes.size c.args.start c.args.count 16 c.args.self (map g.W.Reads.number c.scatter.new.words) c.requires.count
    c.holds_bytes.ensures.count c.holds_bytes.ensures.fit c.scatter.ensures.words.put

pub returns-clause-kept : goal.returns-clause-kept
returns-clause-kept g c =
    others_kept g.W.WordBytes.size c.args.start c.args.count 16 _ _ _ c.requires.count c.scatter.ensures.words
