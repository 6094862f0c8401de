use Rattle.std.proofs.Common.{arith}
use Rattle.packed_lanes.proofs.BlockLemmas.{block_some, even_in_word}
use Rattle.packed_lanes.proofs.bits.even_word.Goals as goal

pub even_blocks-requires : goal.even_blocks-requires
even_blocks-requires g c =
    let narrow = g.met.W.Word.narrow_law in
    let less = c.requires.2 in
    (c.requires.0, c.requires.1, omega (arith, narrow, less))

pub returns-clause-some : goal.returns-clause-some
returns-clause-some g c = block_some g.W.Word.BITS c.args.block c.requires

pub returns-clause-even : goal.returns-clause-even
returns-clause-even g c =
    even_in_word g.W.Word.BITS c.args.block c.even_blocks.result (g.W.Word.number c.from_u64.result) g.met.W.Word.narrow_law
    c.even_blocks.ensures c.from_u64.ensures
