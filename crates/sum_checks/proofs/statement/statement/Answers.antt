use Rattle.std.proofs.Common.{◌<◌, ◌≤◌, ◌^◌, ◌∷◌, ◌++◌, [], ℕ, length, map, ap₂, ◌∙◌, sym, subst, arith, lit<}
use Rattle.std.proofs.Math.Nat.{pow-le-pow_right}
use Rattle.std.proofs.lemmas.List.{length-map}
use Rattle.sum_checks.specs.Products.{term_product}
use Rattle.sum_checks.proofs.Refusals.{within-greater}
use Rattle.sum_checks.proofs.SumcheckSteps.{statement-numbers}
use Rattle.sum_checks.proofs.TermSteps.{below-four, below-power}
use Rattle.sum_checks.proofs.statement.statement.Goals as goal

pub push_numbers-requires : goal.push_numbers-requires
push_numbers-requires g c =
    let width = g.F.Represented.width in
    below-four c.bits.result c.args.rounds c.args.count _ (2 ^ width) (subst (λ (n : ℕ). n < 2 ^ width) (sym c.bits.ensures) (below-power width))
    (c.can_be_stated.ensures.0 c.if-not-can_be_stated.false).rounds_fit (c.can_be_stated.ensures.0 c.if-not-can_be_stated.false).count_fits
    (subst (λ (n : ℕ). n < 2 ^ width) (length-map c.args.terms.now (term_product g.F.Represented.repr)) (c.can_be_stated.ensures.0 c.if-not-can_be_stated.false).terms_fit)

pub interpolation_node-two-requires : goal.interpolation_node-two-requires
interpolation_node-two-requires g c =
    let power : 2 ^ 3 ≤ 2 ^ g.F.Represented.width = pow-le-pow_right (lit< tt) (c.can_be_stated.ensures.0 c.if-not-can_be_stated.false).field in omega (arith, power)

pub push_terms-requires-clause-within : goal.push_terms-requires-clause-within
push_terms-requires-clause-within g c =
    within-greater (map (term_product g.F.Represented.repr) c.args.terms.now) c.args.count (2 ^ g.F.Represented.width)
    (let below = (c.can_be_stated.ensures.0 c.if-not-can_be_stated.false).count_fits in omega (arith, below)) (c.can_be_stated.ensures.0 c.if-not-can_be_stated.false).within

pub returns-clause-numbers : goal.returns-clause-numbers
returns-clause-numbers g c =
    let field = g.F.Represented in
    statement-numbers field.repr c.new-elements.result.items c.push_numbers.new.elements.items c.push.new.self.items
    c.push_terms.new.elements.items c.push-2.new.self.items c.mul-square.result c.args.claim field.width c.args.rounds c.args.count
    (length (map (term_product field.repr) c.args.terms.now)) (field.product 2 2) (map (term_product field.repr) c.args.terms.now)
    c.new-elements.ensures.items
    (c.in_ok-push_numbers.ensures
    ∙ ap₂ (λ (w n : ℕ). map field.repr c.new-elements.result.items ++ w ∷ c.args.rounds ∷ c.args.count ∷ n ∷ []) c.bits.ensures (sym (length-map c.args.terms.now (term_product field.repr))))
    c.in_ok-push.ensures.items
    (g.met.F.Represented.mul_law c.interpolation_node-two.result c.interpolation_node-two.result c.mul-square.result c.mul-square.ensures
    ∙ ap₂ field.product c.interpolation_node-two.ensures c.interpolation_node-two.ensures)
    c.in_ok-push_terms.ensures c.in_ok-push-2.ensures.items
