use Rattle.std.proofs.Common.{ℕ, ◌∙◌, ap, arith}
use Rattle.std.specs.Prelude.{bit_xor}
use Rattle.field_base.proofs.Horner.{horner_start, horner_step}
use Rattle.field_slices.proofs.horner.value_one_by_one.Goals as goal

pub loop-place-init : goal.loop-place-init
loop-place-init g c =
    let number = g.S.Scalars.number c.args.field in
    let ring = (g.met.S.Scalars.field_law c.args.field).ring in
    horner_start _ 1 _ ring number (number c.args.x)
    (number c.zero-value.result) _ c.args.coefficients.now (omega arith) c.zero-value.ensures

pub loop-place-preserved : goal.loop-place-preserved
loop-place-preserved g c =
    let number = g.S.Scalars.number c.args.field in
    let ring = (g.met.S.Scalars.field_law c.args.field).ring in
    let law = g.met.S.Scalars in
    let coefficient = c.index-coefficients-place.result in
    horner_step _ 1 _ ring number (number c.args.x) (number c.loop-place.value)
    (number c.add-value.result) c.loop-place.place c.args.coefficients.now coefficient (omega arith) (omega arith)
    ((law.range_law c.args.field) coefficient) c.index-coefficients-place.is c.loop-place.invariant
    (c.add-value.ensures ∙ ap (λ (n : ℕ). bit_xor n (number coefficient)) c.multiply.ensures)
