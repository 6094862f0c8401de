use Rattle.std.proofs.Common.{ℕ, ◌∙◌, ◌*◌, ◌%◌, ◌^◌, ap, ap₂, sym, subst}
use Rattle.std.specs.Prelude.{bit_and, bit_xor}
use Rattle.packed_lanes.specs.Parts.{IsWithField}
use Rattle.packed_lanes.proofs.LaneLemmas.{field_bits}
use Rattle.packed_lanes.proofs.bits.with_field.Goals as goal

pub returns : goal.returns
returns g c =
    let word = g.met.W.Word in
    let number = g.W.Word.number in
    let width = g.W.Word.BITS in
    let moved =
    word.xor_law c.shr.result c.args.value c.bitxor.result c.bitxor.ensures
    ∙ ap (λ (n : ℕ). bit_xor n (number c.args.value)) (word.shr_law c.args.word c.args.start c.shr.result c.shr.ensures) in
    let change =
    word.and_law c.bitxor.result c.low_ones.result c.bitand-change.result c.bitand-change.ensures
    ∙ ap₂ bit_and moved c.low_ones.ensures in
    let result =
    word.xor_law c.args.word c.shl.result c.bitxor-2.result c.bitxor-2.ensures
    ∙ ap (bit_xor (number c.args.word))
    (word.shl_law c.bitand-change.result c.args.start c.shl.result c.shl.ensures ∙ ap (λ (n : ℕ). n * 2 ^ c.args.start % 2 ^ width) change) in
    subst (IsWithField width c.args.start c.args.count (number c.args.word) (number c.args.value)) (sym result)
    (field_bits width c.args.start c.args.count (number c.args.word) (number c.args.value) c.requires.fits)
