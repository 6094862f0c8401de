use Rattle.additive_transforms.proofs.word_rows.U8x16WordBlock.butterflies.Goals as goal

pub returns : goal.returns
returns g c s are fits few = c.pair_of_vectors.ensures s are fits g.W.WordBytes.size few
