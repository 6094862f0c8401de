use Rattle.std.proofs.Common.{◌/◌, ◌%◌, ◌^◌, ℕ, ◌∙◌, ap}
use Rattle.packed_lanes.proofs.LaneLemmas.{power_some}
use Rattle.packed_lanes.proofs.NarrowParts.{count_some, read_part}
use Rattle.packed_lanes.proofs.narrow.narrow_word.Goals as goal

pub returns : goal.returns
returns g c =
    let wide = g.U.Word.Word.BITS in
    let w = g.W.Word.BITS in
    let word = g.U.Word.Word.number in
    let some = power_some _ _ g.met.U.Word.Word.bits_law in
    read_part w (wide / w) wide (g.U.Underlier.number c.args.row.now) c.args.index c.narrow_place-i.result.0 c.narrow_place-i.result.1
    (word c.word-word.result) (word c.shr.result) (g.W.Word.number c.from_u64.result) (count_some w wide some c.requires.divides)
    c.requires.divides c.narrow_place-i.ensures.word c.narrow_place-i.ensures.start c.word-word.ensures
    (g.met.U.Word.Word.shr_law c.word-word.result c.narrow_place-i.result.1 c.shr.result c.shr.ensures)
    (c.from_u64.ensures ∙ ap (λ (z : ℕ). z % 2 ^ w) c.to_u64.ensures.value)
