use Rattle.std.proofs.Common.{map, refl}
use Rattle.additive_transforms.proofs.UnitFacts.{half_count}
use Rattle.additive_transforms.proofs.WordRows.{two_chunks_put}
use Rattle.additive_transforms.proofs.word_rows.TwoVectorsWordBlock.write_words.Goals as goal

pub scatter-requires-clause-count : goal.scatter-requires-clause-count
scatter-requires-clause-count g c = (half_count g.W.WordBytes.size c.args.count 32 2 g.met.W.WordBytes.size_law refl c.requires.count).0

pub scatter-requires-2-clause-count : goal.scatter-requires-2-clause-count
scatter-requires-2-clause-count g c = (half_count g.W.WordBytes.size c.args.count 32 2 g.met.W.WordBytes.size_law refl c.requires.count).0

pub returns-clause-words : goal.returns-clause-words
returns-clause-words g c =
    let first = c.holds_bytes.ensures in
    let second = c.holds_bytes-2.ensures in
    (two_chunks_put g.W.WordBytes.size c.args.start c.args.count c.args.self.first c.args.self.second g.met.W.WordBytes.size_law
    c.requires.count first.count second.count first.fit second.fit _ (map g.W.Reads.number c.scatter.new.words)
    (map g.W.Reads.number c.scatter-2.new.words) c.scatter.ensures.words c.scatter-2.ensures.words).0

pub returns-clause-kept : goal.returns-clause-kept
returns-clause-kept g c =
    let first = c.holds_bytes.ensures in
    let second = c.holds_bytes-2.ensures in
    (two_chunks_put g.W.WordBytes.size c.args.start c.args.count c.args.self.first c.args.self.second g.met.W.WordBytes.size_law
    c.requires.count first.count second.count first.fit second.fit (map g.W.Reads.number c.args.words.now)
    (map g.W.Reads.number c.scatter.new.words) (map g.W.Reads.number c.scatter-2.new.words) c.scatter.ensures.words c.scatter-2.ensures.words).1
