use Rattle.std.proofs.Common.{refl, ap, ap₂, ◌∙◌, length, map, rules}
use Rattle.std.specs.Prelude.{bit_xor, slice_index}
use Rattle.field_slices.proofs.CubeTables.{none-if_empty, some-unless_empty}
use Rattle.sum_checks.specs.Products.{term_product}
use Rattle.sum_checks.proofs.TermSteps.{first-rest, terms_value-more, terms_value-none, within-first, within-rest}
use Rattle.sum_checks.proofs.terms.+terms_at.Goals as goal

pub value_at-first-requires : goal.value_at-first-requires
value_at-first-requires g t c =
    within-first (term_product g.F.Represented.repr) (length c.args.row.now) c.args.terms.now _ c.index-terms-0.result
    (first-rest c.args.terms.now c.index-terms-0.result _ (some-unless_empty _ _ c.is_empty.ensures c.if-is_empty.false) c.index-terms-0.is refl)
    c.requires

pub terms_at-others-requires : goal.terms_at-others-requires
terms_at-others-requires g t c =
    let rest =
    within-rest (term_product g.F.Represented.repr) (length c.args.row.now) c.args.terms.now _ c.index-terms-0.result
    (first-rest c.args.terms.now c.index-terms-0.result _ (some-unless_empty _ _ c.is_empty.ensures c.if-is_empty.false) c.index-terms-0.is refl)
    c.requires in
    search rules

pub returns-then-is_empty : goal.returns-then-is_empty
returns-then-is_empty g t c =
    ap g.F.Represented.repr c.ZERO.ensures ∙ g.met.F.PrimeCharacteristicRing.zero_law
    ∙ terms_value-none (term_product g.F.Represented.repr) g.F.Represented.product c.args.terms.now
    (slice_index (map g.F.Represented.repr c.args.row.now)) (none-if_empty _ _ c.is_empty.ensures c.if-is_empty.true)

pub returns : goal.returns
returns g t c =
    g.met.F.Represented.add_law c.value_at-first.result c.terms_at-others.result c.add.result c.add.ensures
    ∙ ap₂ bit_xor c.value_at-first.ensures c.terms_at-others.ensures
    ∙ terms_value-more (term_product g.F.Represented.repr) g.F.Represented.product c.args.terms.now _ c.index-terms-0.result
    (slice_index (map g.F.Represented.repr c.args.row.now))
    (first-rest c.args.terms.now c.index-terms-0.result _ (some-unless_empty _ _ c.is_empty.ensures c.if-is_empty.false) c.index-terms-0.is refl)
