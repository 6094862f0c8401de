use Rattle.std.proofs.Common.{◌<◌, ◌^◌, ℕ, map, ap, ◌∙◌, sym, subst, arith}
use Rattle.std.specs.Prelude.{slice_index}
use Rattle.field_base.specs.Basis.{product_below}
use Rattle.field_slices.proofs.CubeTables.{none-if_empty, some-unless_empty}
use Rattle.field_base.proofs.Places.{number-at}
use Rattle.sum_checks.proofs.TermSteps.{product-first, product-more, product-none}
use Rattle.sum_checks.proofs.terms.product_of.Goals as goal

pub returns-then-is_empty : goal.returns-then-is_empty
returns-then-is_empty g c =
    let factor = λ (k : ℕ). slice_index (map g.F.Represented.repr c.args.row.now) (slice_index c.args.factors.now k) in
    ap g.F.Represented.repr c.ONE.ensures ∙ g.met.F.PrimeCharacteristicRing.one_law ∙ g.met.F.Field.unit_law
    ∙ product-none g.F.Represented.product factor
    ∙ ap (product_below g.F.Represented.product factor) (sym (none-if_empty _ _ c.is_empty.ensures c.if-is_empty.true))

pub loop-place-init : goal.loop-place-init
loop-place-init g c =
    let field = g.F.Represented in
    let first = c.index-row-factors.result in
    let factor = λ (k : ℕ). slice_index (map field.repr c.args.row.now) (slice_index c.args.factors.now k) in
    let is =
    number-at field.repr c.args.row.now (slice_index c.args.factors.now 0) first
    (c.requires 0 (some-unless_empty _ _ c.is_empty.ensures c.if-is_empty.false)) c.index-row-factors.is in
    sym is
    ∙ product-first field.width field.product g.met.F.Field.field_law.ring factor
    (subst (λ (n : ℕ). n < 2 ^ field.width) (sym is) (field.range_law first))

pub loop-place-preserved : goal.loop-place-preserved
loop-place-preserved g c =
    let field = g.F.Represented in
    let factor = λ (k : ℕ). slice_index (map field.repr c.args.row.now) (slice_index c.args.factors.now k) in
    product-more field.product factor c.loop-place.place (field.repr c.loop-place.product) (field.repr c.mul-product.result) c.loop-place.invariant
    (g.met.F.Represented.mul_law c.loop-place.product c.index-row-factor.result c.mul-product.result c.mul-product.ensures
    ∙ ap (field.product (field.repr c.loop-place.product))
    (sym (number-at field.repr c.args.row.now (slice_index c.args.factors.now c.loop-place.place) c.index-row-factor.result
    (c.requires c.loop-place.place (omega arith)) c.index-row-factor.is)))
