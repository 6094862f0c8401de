use Rattle.std.proofs.Common.{◌≡◌, refl, ap, ◌∙◌, subst}
use Rattle.std.specs.Prelude.{IsTrue}
use Rattle.sum_checks.proofs.TermSteps.{one-scaled}
use Rattle.sum_checks.proofs.terms.Term.scaled.Goals as goal

-- a coefficient that is 1 is no factor
pub returns-then-eq : goal.returns-then-eq
returns-then-eq g c =
    let field = g.F.Represented in
    let law = g.met.F.PrimeCharacteristicRing in
    let coefficient = c.args.self.now.coefficient in
    let one : field.repr coefficient ≡ 1 =
    (law.eq_law coefficient c.ONE.result).0 (subst IsTrue c.eq.ensures c.if-eq.true) ∙ ap field.repr c.ONE.ensures ∙ law.one_law ∙ g.met.F.Field.unit_law in
    one-scaled field.width field.product g.met.F.Field.field_law.ring (field.repr coefficient) (field.repr c.args.value) (field.repr c.args.value) one
    (field.range_law c.args.value) refl

pub returns : goal.returns
returns g c = g.met.F.Represented.mul_law c.args.self.now.coefficient c.args.value _ c.mul.ensures
