use Rattle.std.proofs.Common.{◌≡◌, ◌<◌, ◌%◌, ◌*◌, ◌^◌, ℕ, ◌∙◌, sym, subst, arith}
use native.Mathlib.Nat.{mod-eq_of_lt}
use Rattle.field_base.specs.Bit.{bit_number}
use Rattle.packed_lanes.proofs.LaneLemmas.{power_some}
use Rattle.bits_packed.specs.Lanes.{IsWithLane}
use Rattle.bits_packed.proofs.LaneAccess.{lane_set_at, two_fit}
use Rattle.bits_packed.proofs.packed.PackedGf2.set.Goals as goal

pub returns : goal.returns
returns g c =
    let some = power_some _ _ g.met.U.Word.Word.bits_law in
    let word = g.U.Word.Word in
    let n = g.U.Underlier.number c.args.self.now.bits in
    let r = g.U.Underlier.number c.set_word.new.self in
    let two = two_fit word.BITS some in
    let small = c.args.value.in_range in
    let fits : bit_number c.args.value < 2 ^ word.BITS = omega (arith, two, small) in
    let e1 = c.from_u64-bit.ensures in
    let e2 = c.from.ensures in
    let e3 = c.to_repr.ensures in
    let cut : word.number c.from_u64-bit.result ≡ bit_number c.args.value % 2 ^ word.BITS = cc in
    let bit : word.number c.from_u64-bit.result ≡ bit_number c.args.value = cut ∙ mod-eq_of_lt fits in
    let less : c.args.lane < word.BITS * g.U.Underlier.WORD_COUNT = subst (λ (z : ℕ). c.args.lane < z) g.met.U.Underlier.bits_law c.requires in
    subst (λ (z : ℕ). IsWithLane z n c.args.lane (bit_number c.args.value) r) (sym g.met.U.Underlier.bits_law)
    (subst (λ (z : ℕ). IsWithLane (word.BITS * g.U.Underlier.WORD_COUNT) n c.args.lane z r) bit
    (lane_set_at word.BITS g.U.Underlier.WORD_COUNT n c.args.lane c.place_of-index.result.0 c.place_of-index.result.1
    (word.number c.word-word.result) (word.number c.from_u64-bit.result) (word.number c.with_field.result) r
    some less (subst (λ (z : ℕ). z < 2) (sym bit) small) c.place_of-index.ensures.word c.place_of-index.ensures.bit c.word-word.ensures
    c.with_field.ensures c.set_word.ensures.replaced))
