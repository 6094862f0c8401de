use Rattle.std.proofs.Common.{◌≡◌, refl, ap, ◌∙◌, length, map, rules, arith}
use Rattle.sum_checks.specs.Products.{term_product}
use Rattle.field_slices.proofs.CubeTables.{none-if_empty, some-unless_empty}
use Rattle.sum_checks.proofs.BlockSums.{rows_sum-more, rows_sum-none}
use Rattle.sum_checks.proofs.TermSteps.{first-rest, within-first, within-rest}
use Rattle.sum_checks.proofs.terms.+terms_sum.Goals as goal

pub sum_over-first-requires-clause-within : goal.sum_over-first-requires-clause-within
sum_over-first-requires-clause-within g t c =
    within-first (term_product g.F.Represented.repr) c.args.count c.args.terms.now _ c.index-terms-0.result
    (first-rest c.args.terms.now c.index-terms-0.result _ (some-unless_empty _ _ c.is_empty.ensures c.if-is_empty.false) c.index-terms-0.is refl)
    c.requires.within

pub terms_sum-others-requires : goal.terms_sum-others-requires
terms_sum-others-requires g t c =
    let rest =
    within-rest (term_product g.F.Represented.repr) c.args.count c.args.terms.now _ c.index-terms-0.result
    (first-rest c.args.terms.now c.index-terms-0.result _ (some-unless_empty _ _ c.is_empty.ensures c.if-is_empty.false) c.index-terms-0.is refl)
    c.requires.within in
    search rules

pub returns-then-is_empty : goal.returns-then-is_empty
returns-then-is_empty g t c =
    let field = g.F.Represented in
    ap field.repr c.ZERO.ensures ∙ g.met.F.PrimeCharacteristicRing.zero_law
    ∙ rows_sum-none (term_product field.repr) field.product c.args.count (length c.args.left.now) (map field.repr c.args.rows.now) c.args.terms.now
    (none-if_empty _ _ c.is_empty.ensures c.if-is_empty.true)

pub returns : goal.returns
returns g t c =
    let field = g.F.Represented in
    let long : length c.sum_over-first.new.left ≡ length c.args.left.now = omega arith in
    g.met.F.Represented.add_law c.sum_over-first.result c.terms_sum-others.result c.add.result c.add.ensures
    ∙ rows_sum-more (term_product field.repr) field.product c.args.count (length c.args.left.now) (map field.repr c.args.rows.now) c.args.terms.now _
    c.index-terms-0.result _ _ _
    (first-rest c.args.terms.now c.index-terms-0.result _ (some-unless_empty _ _ c.is_empty.ensures c.if-is_empty.false) c.index-terms-0.is refl)
    long c.sum_over-first.ensures c.terms_sum-others.ensures
