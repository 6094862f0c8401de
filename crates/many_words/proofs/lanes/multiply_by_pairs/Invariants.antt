use Rattle.std.proofs.Common.{◌+◌, ◌*◌, map}
use Rattle.ghash_slices.specs.Blocks.{HoldsPlaces}
use Rattle.ghash_slices.specs.Fours.{product_at}
use Rattle.many_words.proofs.lanes.multiply_by_pairs.Given as goal

-- the places before hold their products
abbrev pub invariant-pairs : goal.invariant-pairs
invariant-pairs g l =
    let old = map g.W.Reads.number l.fn.words in
    HoldsPlaces (product_at old (map g.W.Reads.number l.others)) l.start (l.start + 2 * l.pair) old (map g.W.Reads.number l.words)

abbrev pub invariant-rest : goal.invariant-rest
invariant-rest g l =
    let old = map g.W.Reads.number l.fn.words in
    HoldsPlaces (product_at old (map g.W.Reads.number l.others)) l.start l.at old (map g.W.Reads.number l.words)
