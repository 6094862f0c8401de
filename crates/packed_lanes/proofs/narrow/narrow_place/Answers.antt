use Rattle.packed_lanes.proofs.NarrowParts.{start_fits, word_inside}
use Rattle.packed_lanes.proofs.narrow.narrow_place.Goals as goal

pub returns-clause-inside : goal.returns-clause-inside
returns-clause-inside g c =
    word_inside g.W.Word.BITS g.U.Word.Word.BITS _ c.args.index g.met.U.Word.Word.bits_law c.requires.divides c.BITS.ensures c.BITS-2.ensures
    _ _ g.met.U.Underlier.bits_law c.requires.inside

pub returns-clause-fits : goal.returns-clause-fits
returns-clause-fits g c =
    start_fits g.W.Word.BITS g.U.Word.Word.BITS _ c.args.index g.met.U.Word.Word.bits_law c.requires.divides c.BITS.ensures c.BITS-2.ensures
    c.BITS-3.ensures
