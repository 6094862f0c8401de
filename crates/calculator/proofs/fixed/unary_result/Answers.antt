-- The inverse and the root that the field answers are the powers of the definition.
use Rattle.std.proofs.Common.{refl}
use Rattle.std.proofs.lemmas.Bool.{true≢false}
use Rattle.calculator.proofs.FermatLemmas.{by_answer_of, inverse-some, inverse-none, root-some}
use Rattle.calculator.proofs.fixed.unary_result.Goals as goal

pub returns-in-Inv : goal.returns-in-Inv
returns-in-Inv g c =
    let field = g.K.FieldKernel in
    let number = g.R.Stored.number in
    let answered = c.inverse_of.ensures in
    let x = number c.args.operand in
    rw c.in-Inv.is (by_answer_of number c.inverse_of.result _
    (λ none. inverse-none field.width field.product field.field_law field.wide_law x ((rw none at answered.none).0 refl))
    (λ y some. inverse-some field.width field.product field.field_law field.wide_law x (number y) (number y)
    c.requires (λ nothing. true≢false ((rw some at answered.none).1 nothing)) (rw some at answered.fits)
    (rw some at answered.inverse) refl))

pub returns-in-Sqrt : goal.returns-in-Sqrt
returns-in-Sqrt g c =
    let field = g.K.FieldKernel in
    let number = g.R.Stored.number in
    let x = number c.args.operand in
    let root = number c.sqrt.result in
    rw c.in-Sqrt.is (root-some field.width field.product field.field_law field.wide_law x root root c.sqrt.ensures.fits c.sqrt.ensures.root refl)
