use Rattle.std.proofs.Common.{◌*◌, map}
use Rattle.ghash_slices.specs.Blocks.{HoldsPlaces}
use Rattle.ghash_slices.specs.Fours.{product_at}
use Rattle.many_words.proofs.lanes.multiply_each.Given as goal

-- the places of the fours before hold their products
abbrev pub invariant-fours : goal.invariant-fours
invariant-fours g l =
    let old = map g.W.Reads.number l.fn.words in
    HoldsPlaces (product_at old (map g.W.Reads.number l.others)) 0 (4 * l.four) old (map g.W.Reads.number l.words)
