use Rattle.std.proofs.Common.{◌≡◌, ◌<◌, ◌*◌, ◌%◌, ◌^◌, ℕ, ◌∙◌, ap, sym, arith, rules}
use Rattle.std.specs.Prelude.{count_ones}
use native.Mathlib.Nat.{mod-eq_of_lt}
use Rattle.packed_lanes.proofs.BlockLemmas.{ones_fit, ones_more, ones_none, places_up}
use Rattle.packed_lanes.proofs.rows.count_bits.Goals as goal

pub loop-i-init : goal.loop-i-init
loop-i-init g c = ones_none g.U.Word.Word.BITS (g.U.Underlier.number c.args.row.now)

pub overflow_add-count : goal.overflow_add-count
overflow_add-count g c =
    let row = g.U.Underlier in
    let word = g.U.Word.Word in
    let n = row.number c.args.row.now in
    let inside : c.loop-i.i < row.WORD_COUNT = search rules in
    let more = ones_more word.BITS n c.loop-i.i in
    let fits = ones_fit word.BITS n c.loop-i.i in
    let up = places_up word.BITS c.loop-i.i row.WORD_COUNT inside in
    let bits = g.met.U.Underlier.bits_law in
    let narrow = g.met.U.Underlier.narrow_law in
    let here = c.count_ones-count.ensures ∙ ap count_ones c.word-word.ensures in
    let before = c.loop-i.invariant in
    omega (arith, more, fits, up, bits, narrow, here, before)

pub loop-i-preserved : goal.loop-i-preserved
loop-i-preserved g c =
    let row = g.U.Underlier in
    let word = g.U.Word.Word in
    let n = row.number c.args.row.now in
    let more = ones_more word.BITS n c.loop-i.i in
    let here = c.count_ones-count.ensures ∙ ap count_ones c.word-word.ensures in
    let before = c.loop-i.invariant in
    omega (arith, more, here, before)

pub returns : goal.returns
returns g c =
    let row = g.U.Underlier in
    let word = g.U.Word.Word in
    let n = row.number c.args.row.now in
    let bits = g.met.U.Underlier.bits_law in
    let fits = g.U.Underlier.range_law c.args.row.now c.requires in
    let whole : c.loop-i.i ≡ row.WORD_COUNT = omega arith in
    c.loop-i.invariant
    ∙ ap (λ (k : ℕ). count_ones (n % 2 ^ k)) (ap (λ (k : ℕ). word.BITS * k) whole ∙ sym bits)
    ∙ ap count_ones (mod-eq_of_lt fits)
