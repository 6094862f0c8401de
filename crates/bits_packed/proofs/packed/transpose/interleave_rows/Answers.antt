use Rattle.bits_packed.proofs.LaneAccess.{row_bits}
use Rattle.bits_packed.proofs.Rounds.{count_eight, pass_by, two_done}
use Rattle.bits_packed.proofs.packed.transpose.interleave_rows.Goals as goal

pub returns-then-count-eq2 : goal.returns-then-count-eq2
returns-then-count-eq2 g c =
    let power = row_bits g.U.Underlier.BITS _ _ _ _ g.met.U.Underlier.bits_law g.met.U.Word.Word.bits_law g.met.U.Underlier.words_law in
    two_done g.U.Underlier.BITS _ c.args.block c.args.i c.args.count _ _ power c.requires.rounds.0 c.if-count-eq2.true c.requires.first c.requires.inside
    c.interleave_pair.ensures

pub returns-else-count-eq2 : goal.returns-else-count-eq2
returns-else-count-eq2 g c =
    pass_by g.U.Underlier.BITS c.args.block c.args.i c.args.count 8 _ _ (count_eight c.args.count c.requires.rounds.1 c.if-count-eq2.false) c.interleave_eight.ensures
