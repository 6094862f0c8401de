use Rattle.std.proofs.Common.{ℕ, map, ◌∙◌, ap, arith}
use Rattle.std.specs.Prelude.{bit_xor}
use Rattle.std.specs.Simd.Lanes.{zip2}
use Rattle.field_base.proofs.Written.{written_start, written_step, written-read, written-end, both-at, both-length}
use Rattle.field_base.proofs.traits.ring.PrimeCharacteristicRing.add_scaled.Goals as goal

pub loop-place-init : goal.loop-place-init
loop-place-init g c =
    let ring = g.Self.Represented in
    let f = λ (x y : ℕ). bit_xor x (ring.product (ring.repr c.args.scalar) y) in
    written_start ring.repr (zip2 f (map ring.repr c.args.sums.now) (map ring.repr c.args.values.now)) c.args.sums.now c.args.sums.now

pub loop-place-preserved : goal.loop-place-preserved
loop-place-preserved g c =
    let ring = g.Self.Represented in
    let law = g.met.Self.Represented in
    let f = λ (x y : ℕ). bit_xor x (ring.product (ring.repr c.args.scalar) y) in
    let old = c.args.sums.now in
    let values = c.args.values.now in
    let wanted = zip2 f (map ring.repr old) (map ring.repr values) in
    let place = c.loop-place.place in
    let x = c.index-sums-place.result in
    let y = c.index-values-place.result in
    written_step ring.repr wanted old c.loop-place.sums place c.add.result (omega arith)
    (law.add_law x c.mul.result c.add.result c.add.ensures
    ∙ ap (bit_xor (ring.repr x)) (law.mul_law c.args.scalar y c.mul.result c.mul.ensures)
    ∙ both-at ring.repr ring.repr f old values place (ring.repr x) y (omega arith) (omega arith)
    (written-read ring.repr wanted old c.loop-place.sums place x (omega arith) c.index-sums-place.is c.loop-place.invariant)
    c.index-values-place.is)
    c.loop-place.invariant

pub returns : goal.returns
returns g c =
    let ring = g.Self.Represented in
    let f = λ (x y : ℕ). bit_xor x (ring.product (ring.repr c.args.scalar) y) in
    written-end ring.repr (zip2 f (map ring.repr c.args.sums.now) (map ring.repr c.args.values.now)) c.args.sums.now c.loop-place.sums
    c.loop-place.place c.loop-place.auto.sums (both-length ring.repr ring.repr f c.args.sums.now c.args.values.now c.requires)
    (omega arith) c.loop-place.invariant
