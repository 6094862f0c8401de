use Rattle.std.proofs.Common.{refl, ℕ, length, ap, ap₂, ◌∙◌, subst, sym}
use Rattle.std.specs.Prelude.{◌<◌, ◌≤◌, max}
use Rattle.std.proofs.Math.Nat.{le-max_right, max-le, lt_of_lt_of_le}
use Rattle.field_slices.proofs.CubeTables.{none-if_empty, some-unless_empty}
use Rattle.sum_checks.specs.Products.{term_product}
use Rattle.sum_checks.proofs.TermSteps.{degree-more, degree-none, first-rest}
use Rattle.sum_checks.proofs.terms.+degree.Goals as goal

pub returns-then-is_empty-clause-is : goal.returns-then-is_empty-clause-is
returns-then-is_empty-clause-is g t c =
    degree-none (term_product g.F.Represented.repr) c.args.terms.now (none-if_empty _ _ c.is_empty.ensures c.if-is_empty.true)

pub returns-clause-is : goal.returns-clause-is
returns-clause-is g t c =
    c.max.ensures ∙ ap₂ max (ap length c.factors-factors.ensures.are) c.degree-others.ensures.is
    ∙ degree-more (term_product g.F.Represented.repr) c.args.terms.now _ c.index-terms-0.result
    (first-rest c.args.terms.now c.index-terms-0.result _ (some-unless_empty _ _ c.is_empty.ensures c.if-is_empty.false) c.index-terms-0.is refl)

pub returns-clause-some : goal.returns-clause-some
returns-clause-some g t c =
    subst (λ (n : ℕ). 0 < n) (sym c.max.ensures)
    (lt_of_lt_of_le c.degree-others.ensures.some (le-max_right (length c.factors-factors.result.now) c.degree-others.result))

pub returns-clause-few : goal.returns-clause-few
returns-clause-few g t c =
    subst (λ (n : ℕ). n ≤ 4) (sym c.max.ensures) (max-le c.factors-factors.ensures.few c.degree-others.ensures.few)
