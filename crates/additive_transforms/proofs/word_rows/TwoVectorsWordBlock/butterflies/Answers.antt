use Rattle.additive_transforms.proofs.WordRows.{taken_both}
use Rattle.additive_transforms.proofs.word_rows.TwoVectorsWordBlock.butterflies.Goals as goal

pub returns : goal.returns
returns g c s are fits few =
    let both = c.two_pairs_of_vectors.ensures in
    let size = g.W.WordBytes.size in
    taken_both c.args.scalar.now.inverse size s _ _ _ _ _ _ _ _ g.met.W.WordBytes.size_law c.holds_bytes.ensures.count c.holds_bytes-2.ensures.count
    c.holds_bytes-3.ensures.count c.holds_bytes-4.ensures.count (both.first s are fits size few) (both.second s are fits size few)
