use Rattle.std.proofs.Common.{◌≡◌, ◌/◌, ◌%◌, ◌^◌, ℕ, ◌∙◌, ap, subst}
use native.Mathlib.Nat.{mod-eq_of_lt}
use Rattle.packed_lanes.specs.Parts.{IsWithField}
use Rattle.packed_lanes.proofs.LaneLemmas.{power_some}
use Rattle.packed_lanes.proofs.NarrowParts.{count_some, narrow_fits, write_part}
use Rattle.packed_lanes.proofs.narrow.set_narrow_word.Goals as goal

pub returns-clause-replaced : goal.returns-clause-replaced
returns-clause-replaced g c =
    let wide = g.U.Word.Word.BITS in
    let w = g.W.Word.BITS in
    let word = g.U.Word.Word.number in
    let v = g.W.Word.number c.args.word in
    let some = power_some _ _ g.met.U.Word.Word.bits_law in
    let count = count_some w wide some c.requires.divides in
    let fits = narrow_fits w wide v count c.requires.divides c.to_u64.ensures.fits in
    let value : word c.from_u64-value.result ≡ v =
    c.from_u64-value.ensures ∙ ap (λ (z : ℕ). z % 2 ^ wide) c.to_u64.ensures.value ∙ mod-eq_of_lt fits in
    write_part w (wide / w) wide g.U.Underlier.WORD_COUNT (g.U.Underlier.number c.args.row.now) c.args.index c.narrow_place-i.result.0
    c.narrow_place-i.result.1 (word c.word-old.result) v (word c.with_field.result) (g.U.Underlier.number c.set_word.new.self) count
    c.to_u64.ensures.fits c.requires.divides c.narrow_place-i.ensures.word c.narrow_place-i.ensures.start c.word-old.ensures
    (subst (λ (z : ℕ). IsWithField wide c.narrow_place-i.result.1 w (word c.word-old.result) z (word c.with_field.result)) value
    (subst (λ (z : ℕ). IsWithField wide c.narrow_place-i.result.1 z (word c.word-old.result) (word c.from_u64-value.result) (word c.with_field.result))
    c.BITS.ensures c.with_field.ensures))
    c.set_word.ensures.replaced
