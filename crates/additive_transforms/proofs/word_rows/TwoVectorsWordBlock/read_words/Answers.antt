use Rattle.std.proofs.Common.{map, refl}
use Rattle.additive_transforms.proofs.UnitFacts.{half_count}
use Rattle.additive_transforms.proofs.WordRows.{two_chunks_read}
use Rattle.additive_transforms.proofs.word_rows.TwoVectorsWordBlock.read_words.Goals as goal

pub gather-first-requires-clause-count : goal.gather-first-requires-clause-count
gather-first-requires-clause-count g c = (half_count g.W.WordBytes.size c.args.count 32 2 g.met.W.WordBytes.size_law refl c.requires.count).0

pub gather-second-requires-clause-count : goal.gather-second-requires-clause-count
gather-second-requires-clause-count g c = (half_count g.W.WordBytes.size c.args.count 32 2 g.met.W.WordBytes.size_law refl c.requires.count).0

pub returns : goal.returns
returns g c =
    let first = c.holds_bytes.ensures in
    let second = c.holds_bytes-2.ensures in
    two_chunks_read g.W.WordBytes.size c.args.start c.args.count c.gather-first.result c.gather-second.result g.met.W.WordBytes.size_law
    c.requires.count first.count second.count first.fit second.fit (map g.W.Reads.number c.args.words.now) c.gather-first.ensures
    c.gather-second.ensures
