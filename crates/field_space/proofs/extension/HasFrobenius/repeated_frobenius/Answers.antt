use Rattle.std.proofs.Common.{◌≡◌, ◌%◌, ◌*◌, ℕ, refl, ◌∙◌, ap, arith}
use Rattle.field_base.specs.Powers.{repeated_square}
use Rattle.field_space.proofs.FrobeniusRounds.{no_round, one_round, rounds_count}
use Rattle.field_space.proofs.extension.HasFrobenius.repeated_frobenius.Goals as goal

pub loop-init : goal.loop-init
loop-init g c =
    let ring = g.Self.Represented in
    no_round ring.width ring.product g.met.Self.Field.field_law g.F.Represented.width (ring.repr c.args.self.now) (ring.repr c.args.self.now)
    0 refl (g.Self.Represented.range_law c.args.self.now)

pub loop-preserved : goal.loop-preserved
loop-preserved g c =
    let ring = g.Self.Represented in
    one_round ring.width ring.product g.met.Self.Field.field_law g.F.Represented.width c.loop.counter (ring.repr c.loop.value)
    (ring.repr c.args.self.now) (ring.repr c.frobenius-value.result) c.frobenius-value.ensures c.loop.invariant

pub returns : goal.returns
returns g c =
    let ring = g.Self.Represented in
    let x = ring.repr c.args.self.now in
    let done : c.loop.counter ≡ c.args.count % c.DIMENSION.result = omega (arith, c.loop-test.false, c.loop.auto.counter-end) in
    let left : c.loop.counter ≡ c.args.count % g.Self.BasedVectorSpace.DIMENSION =
    done ∙ ap (λ (n : ℕ). c.args.count % n) c.DIMENSION.ensures in
    c.loop.invariant ∙ ap (λ (n : ℕ). repeated_square 1 ring.product (g.F.Represented.width * n) x) left
    ∙ rounds_count ring.width ring.product g.met.Self.Field.field_law g.F.Represented.width g.Self.BasedVectorSpace.DIMENSION
    c.args.count x g.met.Self.BasedVectorSpace.space_law
