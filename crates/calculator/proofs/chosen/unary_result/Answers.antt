-- The inverse and the root that the field answers are the powers of the definition.
use Rattle.std.proofs.Common.{refl, ◌∙◌}
use Rattle.std.proofs.lemmas.Bool.{true≢false}
use native.Mathlib.Nat.{mod-eq_of_lt}
use Rattle.any_field.proofs.ContextFields.{field-at}
use Rattle.any_field.specs.Contexts.{field_product}
use Rattle.calculator.proofs.FermatLemmas.{by_answer, inverse-some, inverse-none, root-some}
use Rattle.calculator.proofs.chosen.unary_result.Goals as goal

pub returns-in-Inv : goal.returns-in-Inv
returns-in-Inv c =
    let s = c.args.field in
    let field = field-at s.degree s.tail s.ratio s.context s.irreducible in
    let times = field_product s.degree s.tail in
    let answered = c.inverse_of.ensures in
    let x = c.args.operand in
    rw c.in-Inv.is (by_answer c.inverse_of.result _
    (λ none. inverse-none s.degree times field s.context.wide x ((rw none at answered.none).0 refl))
    (λ y some. inverse-some s.degree times field s.context.wide x y y c.requires
    (λ nothing. true≢false ((rw some at answered.none).1 nothing)) (rw some at answered.fits) (rw some at answered.inverse) refl))

pub returns-in-Sqrt : goal.returns-in-Sqrt
returns-in-Sqrt c =
    let s = c.args.field in
    let field = field-at s.degree s.tail s.ratio s.context s.irreducible in
    let root = c.square_root.result in
    rw c.in-Sqrt.is (root-some s.degree (field_product s.degree s.tail) field s.context.wide c.args.operand root root
    c.square_root.ensures.fits (c.square_root.ensures.root ∙ mod-eq_of_lt c.requires) refl)
