use Rattle.std.proofs.Common.{refl, subst}
use Rattle.std.specs.Prelude.{IsTrue, ◌↔◌, List, ℕ}
use Rattle.field_slices.proofs.CubeTables.{none-if_empty, some-unless_empty}
use Rattle.sum_checks.specs.Products.{term_product}
use Rattle.sum_checks.proofs.TermSteps.{AreBelow, first-rest, within-more, within-none, within-not}
use Rattle.sum_checks.proofs.terms.+are_within.Goals as goal

pub returns-then-is_empty : goal.returns-then-is_empty
returns-then-is_empty g t c =
    within-none (term_product g.F.Represented.repr) c.args.count c.args.terms.now (none-if_empty _ _ c.is_empty.ensures c.if-is_empty.true)

pub returns-then-not-are_below : goal.returns-then-not-are_below
returns-then-not-are_below g t c =
    within-not (term_product g.F.Represented.repr) c.args.count c.args.terms.now _ c.index-terms-0.result c.are_below.result
    (first-rest c.args.terms.now c.index-terms-0.result _ (some-unless_empty _ _ c.is_empty.ensures c.if-is_empty.false) c.index-terms-0.is refl)
    (subst (λ (ns : List ℕ). IsTrue c.are_below.result ↔ AreBelow c.args.count ns) c.factors-factors.ensures.are c.are_below.ensures)
    c.if-not-are_below.true

pub returns : goal.returns
returns g t c =
    within-more (term_product g.F.Represented.repr) c.args.count c.args.terms.now _ c.index-terms-0.result c.are_below.result c.are_within.result
    (first-rest c.args.terms.now c.index-terms-0.result _ (some-unless_empty _ _ c.is_empty.ensures c.if-is_empty.false) c.index-terms-0.is refl)
    (subst (λ (ns : List ℕ). IsTrue c.are_below.result ↔ AreBelow c.args.count ns) c.factors-factors.ensures.are c.are_below.ensures)
    c.if-not-are_below.false c.are_within.ensures
