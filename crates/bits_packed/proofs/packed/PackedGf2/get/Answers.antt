use Rattle.std.proofs.Common.{◌%◌, ℕ, ◌∙◌, ap}
use Rattle.packed_lanes.proofs.LaneLemmas.{power_some}
use Rattle.bits_packed.proofs.LaneAccess.{lane_get_at}
use Rattle.bits_packed.proofs.packed.PackedGf2.get.Goals as goal

pub returns : goal.returns
returns g c =
    let some = power_some _ _ g.met.U.Word.Word.bits_law in
    lane_get_at g.U.Word.Word.BITS (g.U.Underlier.number c.args.self.now.bits) c.args.lane c.place_of-index.result.0 c.place_of-index.result.1
    (g.U.Word.Word.number c.word-word.result) (g.U.Word.Word.number c.field-bit.result) _ some c.place_of-index.ensures.word
    c.place_of-index.ensures.bit c.word-word.ensures c.field-bit.ensures
    (c.from_repr.ensures ∙ ap (λ (z : ℕ). z % 2) c.to_u64.ensures.value)
