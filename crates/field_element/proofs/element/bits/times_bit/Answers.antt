use Rattle.std.proofs.Common.{◌≡◌, ℕ, ◌%◌, ◌^◌, sym, ◌∙◌, ap, arith}
use native.Mathlib.Nat.{zero-mod}
use Rattle.field_base.specs.Bit.{bit_number as bit_of}
use Rattle.field_element.specs.lemmas.BitProduct.{times_none, times_one}
use Rattle.field_element.specs.Element.{repr_of}
use Rattle.field_element.proofs.element.bits.times_bit.Goals as goal

pub returns-then-to_repr-eq0 : goal.returns-then-to_repr-eq0
returns-then-to_repr-eq0 g c =
    let field = g.K.FieldKernel.field_law in
    c.of_word.ensures
    ∙ ap (λ (n : ℕ). n % 2 ^ g.K.FieldKernel.width) (ap g.R.Stored.number c.ZERO.ensures ∙ g.R.Stored.zero_number)
    ∙ zero-mod (2 ^ g.K.FieldKernel.width)
    ∙ times_none g.K.FieldKernel.width g.K.FieldKernel.product field.ring g.K.FieldKernel.wide_law (repr_of c.args.x)
    ∙ ap (g.K.FieldKernel.product (repr_of c.args.x)) (sym c.if-to_repr-eq0.true ∙ c.to_repr.ensures)

pub returns-else-to_repr-eq0 : goal.returns-else-to_repr-eq0
returns-else-to_repr-eq0 g c =
    let field = g.K.FieldKernel.field_law in
    let some = c.if-to_repr-eq0.false in
    let is = c.to_repr.ensures in
    let fits = c.args.bit.in_range in
    let one : 1 ≡ bit_of c.args.bit = omega (arith, some, is, fits) in
    times_one g.K.FieldKernel.width g.K.FieldKernel.product field.ring g.K.FieldKernel.wide_law (repr_of c.args.x) c.args.x.in_range
    ∙ ap (g.K.FieldKernel.product (repr_of c.args.x)) one
