use Rattle.std.proofs.Common.{◌≡◌, below_none, map, sym, ◌∙◌, ap, arith}
use Rattle.std.specs.Prelude.{slice_index}
use Rattle.std.proofs.lemmas.Bool.{true≢false}
use Rattle.field_slices.proofs.BatchInversion.{product-none, products-nonzero, products-zero, products-more, products-step}
use Rattle.field_slices.specs.Inverses.{nonzero_product}
use Rattle.field_base.proofs.Places.{numbers-lt}
use Rattle.field_slices.proofs.inversion.products_before.Goals as goal
use Rattle.field_slices.proofs.inversion.products_before.Goals.{then-not-is_zero, else-not-is_zero}

pub loop-place-init : goal.loop-place-init
loop-place-init g c =
    let number = g.S.Scalars.number c.args.field in
    let times = g.S.Scalars.product c.args.field in
    let law = g.met.S.Scalars in (
      below_none (λ i. slice_index (map number c.args.products.now) i ≡ nonzero_product times
          (slice_index (map number c.args.values.now)) i),
      c.one-product.ensures
          ∙ sym (product-none _ _ (law.field_law c.args.field) (law.wide_law c.args.field)
          (slice_index (map number c.args.values.now))
          (numbers-lt _ _ (law.range_law c.args.field) c.args.values.now)),
    )

pub loop-place-preserved : goal.loop-place-preserved
loop-place-preserved g c =
    let number = g.S.Scalars.number c.args.field in
    let law = g.met.S.Scalars in
    products-step _ _ (law.field_law c.args.field) (law.wide_law c.args.field) _
    (law.range_law c.args.field) c.args.values.now c.loop-place.products
    c.loop-place.place c.loop-place.product c.if-not-is_zero.product (omega arith) c.loop-place.invariant.0 c.loop-place.invariant.1
    (elim c.if-not-is_zero.branch [
      | then-not-is_zero w ↦
          products-more _ _ (law.field_law c.args.field) (law.wide_law c.args.field) _
          (law.range_law c.args.field) c.args.values.now c.loop-place.place
          c.loop-place.product c.if-not-is_zero.product c.index-values-place.result c.loop-place-test.true c.index-values-place.is
          (λ e. true≢false (sym (c.is_zero.ensures.1 e) ∙ w.if-not-is_zero.true)) c.loop-place.invariant.1
          (ap number w.product-is ∙ w.multiply-product.ensures)
      | else-not-is_zero w ↦
          ap number w.product-is
          ∙ products-zero _ _ (law.field_law c.args.field) (law.wide_law c.args.field) _
          (law.range_law c.args.field) c.args.values.now c.loop-place.place
          c.loop-place.product c.index-values-place.result c.loop-place-test.true c.index-values-place.is
          (c.is_zero.ensures.0 w.if-not-is_zero.false)
          c.loop-place.invariant.1
    ])

pub returns-clause-nonzero : goal.returns-clause-nonzero
returns-clause-nonzero g c =
    let law = g.met.S.Scalars in
    products-nonzero _ _ (law.field_law c.args.field) (law.wide_law c.args.field) _
    (law.range_law c.args.field) c.args.values.now c.loop-place.place
    c.loop-place.product c.loop-place.invariant.1
