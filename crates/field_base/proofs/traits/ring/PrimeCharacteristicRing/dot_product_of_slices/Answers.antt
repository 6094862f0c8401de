use Rattle.std.proofs.Common.{◌<◌, length, ◌∙◌, ap, arith}
use Rattle.std.specs.Prelude.{bit_xor}
use Rattle.field_base.specs.Powers.{dot_of}
use Rattle.field_base.proofs.DotLemmas.{dot_of-drop, dot_step, dot_end}
use Rattle.field_base.proofs.traits.ring.PrimeCharacteristicRing.dot_product_of_slices.Goals as goal

pub loop-place-init : goal.loop-place-init
loop-place-init g c =
    let ring = g.Self.Represented in
    ap (λ s. bit_xor s (dot_of ring.product ring.repr c.args.left.now c.args.right.now))
    (ap ring.repr c.ZERO-sum.ensures ∙ g.met.Self.PrimeCharacteristicRing.zero_law)

pub loop-place-preserved : goal.loop-place-preserved
loop-place-preserved g c =
    let ring = g.Self.Represented in
    let laws = g.met.Self.Represented in
    let x = c.index-left-place.result in
    let y = c.index-right-place.result in
    let within : c.loop-place.place < length c.args.left.now = omega arith in
    let within_right : c.loop-place.place < length c.args.right.now = omega arith in
    let splits =
    dot_of-drop ring.product ring.repr c.args.left.now c.args.right.now c.loop-place.place x y within within_right
    c.index-left-place.is c.index-right-place.is in
    let added =
    laws.add_law c.loop-place.sum c.mul.result c.add-sum.result c.add-sum.ensures
    ∙ ap (bit_xor (ring.repr c.loop-place.sum)) (laws.mul_law x y c.mul.result c.mul.ensures) in
    dot_step ring.product ring.repr _ _ _ _ _ _ c.loop-place.invariant splits added

pub returns : goal.returns
returns g c =
    let ring = g.Self.Represented in
    dot_end ring.product ring.repr c.args.left.now c.args.right.now c.loop-place.place _ _ c.loop-place-test.false
    c.loop-place.invariant
