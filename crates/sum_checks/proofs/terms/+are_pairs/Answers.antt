use Rattle.std.proofs.Common.{refl, ap, length}
use Rattle.field_slices.proofs.CubeTables.{none-if_empty, some-unless_empty}
use Rattle.sum_checks.specs.Products.{term_product}
use Rattle.sum_checks.proofs.TermSteps.{first-rest, pairs-more, pairs-none, pairs-not}
use Rattle.sum_checks.proofs.terms.+are_pairs.Goals as goal

pub returns-then-is_empty : goal.returns-then-is_empty
returns-then-is_empty g t c =
    pairs-none (term_product g.F.Represented.repr) c.args.terms.now (none-if_empty _ _ c.is_empty.ensures c.if-is_empty.true)

pub returns-then-factors-ne2 : goal.returns-then-factors-ne2
returns-then-factors-ne2 g t c =
    pairs-not (term_product g.F.Represented.repr) c.args.terms.now _ c.index-terms-0.result (length c.factors-factors.result.now)
    (first-rest c.args.terms.now c.index-terms-0.result _ (some-unless_empty _ _ c.is_empty.ensures c.if-is_empty.false) c.index-terms-0.is refl)
    (ap length c.factors-factors.ensures.are) c.if-factors-ne2.true

pub returns : goal.returns
returns g t c =
    pairs-more (term_product g.F.Represented.repr) c.args.terms.now _ c.index-terms-0.result (length c.factors-factors.result.now) c.are_pairs.result
    (first-rest c.args.terms.now c.index-terms-0.result _ (some-unless_empty _ _ c.is_empty.ensures c.if-is_empty.false) c.index-terms-0.is refl)
    (ap length c.factors-factors.ensures.are) c.if-factors-ne2.false c.are_pairs.ensures
