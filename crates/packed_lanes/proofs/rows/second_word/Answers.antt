use Rattle.std.proofs.Common.{arith}
use Rattle.std.proofs.lemmas.Nat.{mul-le}
use Rattle.packed_lanes.proofs.BlockLemmas.{room_for_words}
use Rattle.packed_lanes.proofs.LaneLemmas.{power_some}
use Rattle.packed_lanes.proofs.rows.second_word.Goals as goal

pub overflow_add-i : goal.overflow_add-i
overflow_add-i g c =
    let row = g.U.Underlier in
    let word = g.U.Word.Word in
    let some = power_some _ _ g.met.U.Word.Word.bits_law in
    let room = room_for_words row.WORD_COUNT row.log_words c.args.block c.args.i g.met.U.Underlier.words_law c.requires.block c.requires.inside c.if-i-block-eq0.true in
    let least = mul-le 1 row.WORD_COUNT word.BITS row.WORD_COUNT (omega (arith, some)) (omega arith) in
    let bits = g.met.U.Underlier.bits_law in
    let narrow = g.met.U.Underlier.narrow_law in
    omega (arith, room, least, bits, narrow)

pub word-requires : goal.word-requires
word-requires g c =
    room_for_words g.U.Underlier.WORD_COUNT g.U.Underlier.log_words c.args.block c.args.i g.met.U.Underlier.words_law
    c.requires.block c.requires.inside c.if-i-block-eq0.true
