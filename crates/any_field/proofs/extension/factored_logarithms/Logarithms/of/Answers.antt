use Rattle.std.proofs.Common.{◌≡◌, ◌≢◌, ◌%◌, ◌^◌, ℕ, ap, sym, ◌∙◌, subst}
use Rattle.std.proofs.Math.Nat.{mod-mod}
use Rattle.std.proofs.lemmas.Option.{IfSome_then}
use Rattle.std.specs.Prelude.{IfNone, IfSome}
use native.Mathlib.Nat.{mod-lt}
use Rattle.field_base.specs.Powers.{power}
use Rattle.any_field.specs.Contexts.{field_product}
use Rattle.any_field.proofs.ContextFields.{field-at}
use Rattle.any_field.proofs.LogarithmSteps.{least-logarithm, no-power, some-order}
use Rattle.any_field.proofs.extension.factored_logarithms.Logarithms.of.Goals as goal

pub returns-then-power-ne1-clause-none : goal.returns-then-power-ne1-clause-none
returns-then-power-ne1-clause-none c =
    let to = c.args.self in
    let s = to.field in
    let times = field_product s.degree s.tail in
    λ k is.
    no-power s.degree times s.context.wide (field-at s.degree s.tail s.ratio s.context s.irreducible) to.base c.low_bits-element.result to.order
    (to.one (some-order to.order c.if-self-ne0.true)) (λ e. c.if-power-ne1.true (c.power.ensures ∙ e)) k (is ∙ sym c.low_bits-element.ensures)

pub returns-then-power-element-clause-least : goal.returns-then-power-element-clause-least
returns-then-power-element-clause-least c =
    let to = c.args.self in
    let s = to.field in
    let times = field_product s.degree s.tail in
    let some = some-order to.order c.if-self-ne0.true in
    λ prime k less is.
    least-logarithm s.degree times s.context.wide (field-at s.degree s.tail s.ratio s.context s.irreducible) to.base c.low_bits-element.result
    to.order (to.least prime some) _ (mod-lt c.likely_logarithm-likely.result some)
    (sym c.power-then-self-ne0.ensures ∙ c.if-power-element.true) k less (is ∙ sym c.low_bits-element.ensures)

pub returns-clause-found : goal.returns-clause-found
returns-clause-found c =
    let to = c.args.self in
    let s = to.field in
    subst (λ (z : ℕ). IfSome c.logarithm.result (λ e. power 1 (field_product s.degree s.tail) to.base e ≡ z))
    (ap (λ (z : ℕ). z % 2 ^ s.degree) c.low_bits-element.ensures ∙ mod-mod c.args.x (2 ^ s.degree)) c.logarithm.ensures.found

pub returns-clause-least : goal.returns-clause-least
returns-clause-least c =
    let s = c.args.self.field in
    let same : c.low_bits-element.result % 2 ^ s.degree ≡ c.args.x % 2 ^ s.degree =
    ap (λ (z : ℕ). z % 2 ^ s.degree) c.low_bits-element.ensures ∙ mod-mod c.args.x (2 ^ s.degree) in
    IfSome_then c.logarithm.result c.logarithm.ensures.least (λ e before prime k less is. before k less (is ∙ sym same))

pub returns-clause-none : goal.returns-clause-none
returns-clause-none c =
    let to = c.args.self in
    let s = to.field in
    subst (λ (z : ℕ). IfNone c.logarithm.result ((k : ℕ) → power 1 (field_product s.degree s.tail) to.base k ≢ z))
    (ap (λ (z : ℕ). z % 2 ^ s.degree) c.low_bits-element.ensures ∙ mod-mod c.args.x (2 ^ s.degree)) c.logarithm.ensures.none
