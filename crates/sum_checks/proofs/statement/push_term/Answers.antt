use Rattle.std.proofs.Common.{◌≤◌, ◌^◌, ◌++◌, ◌∷◌, [], ℕ, List, length, map, refl, ap, ◌∙◌, sym, subst, arith, lit<}
use Rattle.sum_checks.specs.Products.{factors_of}
use Rattle.std.proofs.Math.Nat.{pow-le-pow_right}
use Rattle.sum_checks.proofs.SumcheckSteps.{appended-two, pushed-number}
use Rattle.sum_checks.proofs.TermSteps.{AreBelow}
use Rattle.sum_checks.proofs.statement.push_term.Goals as goal

pub interpolation_node-size-requires : goal.interpolation_node-size-requires
interpolation_node-size-requires g c =
    let power : 2 ^ 3 ≤ 2 ^ g.F.Represented.width = pow-le-pow_right (lit< tt) c.requires.field in
    let few = c.factors-factors.ensures.few in
    omega (arith, power, few)

pub push_numbers-requires : goal.push_numbers-requires
push_numbers-requires g c =
    subst (λ (ns : List ℕ). AreBelow (2 ^ g.F.Represented.width) ns) (sym c.factors-factors.ensures.are) c.requires.within

pub returns : goal.returns
returns g c =
    let repr = g.F.Represented.repr in
    let factors = factors_of c.args.term in
    let size =
    pushed-number repr c.args.elements.now.items c.push.new.self.items c.interpolation_node-size.result (length factors) c.in_ok-push.ensures.items
    (c.interpolation_node-size.ensures ∙ ap length c.factors-factors.ensures.are) in
    let numbers = c.in_ok-push_numbers.ensures ∙ ap (λ (ns : List ℕ). map repr c.push.new.self.items ++ ns) c.factors-factors.ensures.are in
    let last =
    pushed-number repr c.push_numbers.new.elements.items c.push-2.new.self.items c.args.term.coefficient (repr c.args.term.coefficient)
    c.in_ok-push-2.ensures.items refl in
    appended-two (map repr c.args.elements.now.items) (map repr c.push_numbers.new.elements.items) (map repr c.push-2.new.self.items)
    (length factors ∷ factors) (repr c.args.term.coefficient ∷ [])
    (appended-two (map repr c.args.elements.now.items) (map repr c.push.new.self.items) (map repr c.push_numbers.new.elements.items)
    (length factors ∷ []) factors size numbers)
    last
