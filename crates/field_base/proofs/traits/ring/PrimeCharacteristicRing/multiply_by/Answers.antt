use Rattle.std.proofs.Common.{ℕ, map, ◌∙◌, arith}
use Rattle.field_base.proofs.Written.{written_start, written_step, written-read, written-end, each-at, each-length}
use Rattle.field_base.proofs.traits.ring.PrimeCharacteristicRing.multiply_by.Goals as goal

pub loop-place-init : goal.loop-place-init
loop-place-init g c =
    let ring = g.Self.Represented in
    let f = λ (x : ℕ). ring.product (ring.repr c.args.scalar) x in
    written_start ring.repr (map f (map ring.repr c.args.values.now)) c.args.values.now c.args.values.now

pub loop-place-preserved : goal.loop-place-preserved
loop-place-preserved g c =
    let ring = g.Self.Represented in
    let f = λ (x : ℕ). ring.product (ring.repr c.args.scalar) x in
    let old = c.args.values.now in
    let wanted = map f (map ring.repr old) in
    let place = c.loop-place.place in
    let x = c.index-values-place.result in
    written_step ring.repr wanted old c.loop-place.values place c.mul.result (omega arith)
    (g.met.Self.Represented.mul_law c.args.scalar x c.mul.result c.mul.ensures
    ∙ each-at ring.repr f old place (ring.repr x) (omega arith)
    (written-read ring.repr wanted old c.loop-place.values place x (omega arith) c.index-values-place.is c.loop-place.invariant))
    c.loop-place.invariant

pub returns : goal.returns
returns g c =
    let ring = g.Self.Represented in
    let f = λ (x : ℕ). ring.product (ring.repr c.args.scalar) x in
    written-end ring.repr (map f (map ring.repr c.args.values.now)) c.args.values.now c.loop-place.values
    c.loop-place.place c.loop-place.auto.values (each-length ring.repr f c.args.values.now) (omega arith) c.loop-place.invariant
