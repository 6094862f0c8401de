use Rattle.std.proofs.Common.{◌≡◌, ◌-◌, ◌+◌, ◌<◌, length, sym, ◌∙◌, arith}
use Rattle.std.proofs.lemmas.Bool.{true≢false}
use Rattle.field_slices.proofs.BatchInversion.{inverted-at, inverted-start, inverted-end, inverted-zero, inverted-more}
use Rattle.field_slices.proofs.inversion.inverses_from_products.Goals as goal

pub loop-place-init : goal.loop-place-init
loop-place-init g c =
    let law = g.met.S.Scalars in
    inverted-start _ _ (law.field_law c.args.field) (law.wide_law c.args.field) _
    (law.range_law c.args.field) c.args.values.now c.args.products.now c.args.inverse c.requires.before c.requires.inverse

pub loop-place-preserved-then-is_zero : goal.loop-place-preserved-then-is_zero
loop-place-preserved-then-is_zero g c =
    let law = g.met.S.Scalars in
    let place = c.loop-place.place - 1 in
    let next : c.loop-place.place ≡ place + 1 = omega arith in
    let inside : place < length c.args.values.now = omega arith in
    inverted-zero _ _ (law.field_law c.args.field) (law.wide_law c.args.field) _
    (law.range_law c.args.field) c.args.values.now c.loop-place.products place
    c.loop-place.rest c.zero.result c.index-values-place.result inside (omega arith) c.index-values-place.is
    (c.is_zero.ensures.0 c.if-is_zero.true) c.zero.ensures
    (inverted-at _ _ (law.field_law c.args.field) (law.wide_law c.args.field) _
    (law.range_law c.args.field) c.args.values.now c.loop-place.products c.loop-place.place (place + 1) c.loop-place.rest next
    c.loop-place.invariant)

pub loop-place-preserved : goal.loop-place-preserved
loop-place-preserved g c =
    let law = g.met.S.Scalars in
    let place = c.loop-place.place - 1 in
    let value = c.index-values-place.result in
    let before = c.index-products-place.result in
    let next : c.loop-place.place ≡ place + 1 = omega arith in
    let inside : place < length c.args.values.now = omega arith in
    inverted-more _ _ (law.field_law c.args.field) (law.wide_law c.args.field) _
    (law.range_law c.args.field) c.args.values.now c.loop-place.products place
    c.loop-place.rest c.multiply-rest.result before c.multiply.result value inside (omega arith) c.index-values-place.is
    c.index-products-place.is (λ e. true≢false (sym (c.is_zero.ensures.1 e) ∙ c.if-is_zero.false))
    c.multiply.ensures c.multiply-rest.ensures
    (inverted-at _ _ (law.field_law c.args.field) (law.wide_law c.args.field) _
    (law.range_law c.args.field) c.args.values.now c.loop-place.products c.loop-place.place (place + 1) c.loop-place.rest next
    c.loop-place.invariant)

pub returns : goal.returns
returns g c =
    let law = g.met.S.Scalars in
    inverted-end _ _ (law.field_law c.args.field) (law.wide_law c.args.field) _
    (law.range_law c.args.field) c.args.values.now c.loop-place.products c.loop-place.place c.loop-place.rest c.loop-place-test.false
    (c.loop-place.auto.products ∙ c.requires.length) c.loop-place.invariant
