use Rattle.std.proofs.Common.{arith}
use Rattle.additive_transforms.specs.Rows.{level_of}
use Rattle.additive_transforms.proofs.WordRows.{depth_within, vector_taken}
use Rattle.additive_transforms.proofs.word_rows.run_at.Goals as goal

pub returns-clause-values : goal.returns-clause-values
returns-clause-values g c s are fits k within few =
    let size = g.W.WordBytes.size in
    let depth = g.M.Scales.depth in
    vector_taken g.W.Reads.number c.args.scalar.now.inverse (level_of depth) k size c.args.start c.args.count s _ _ _ _ c.args.lo.now c.args.hi.now
    c.write_words.new.words c.write_words-2.new.words within few fits c.read_words-lower.ensures c.read_words-upper.ensures
    (c.butterflies-low.ensures s are fits (depth_within depth size (omega (arith, within, few))))
    c.write_words.ensures.length c.write_words.ensures.words c.write_words.ensures.kept
    c.write_words-2.ensures.length c.write_words-2.ensures.words c.write_words-2.ensures.kept
