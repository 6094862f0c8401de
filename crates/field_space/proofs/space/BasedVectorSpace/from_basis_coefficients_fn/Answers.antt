use Rattle.std.proofs.Common.{◌≡◌, ◌<◌, ◌∙◌, ap, arith, rules}
use Rattle.field_base.specs.Chunks.{chunks}
use Rattle.field_base.proofs.Calls.{may_go_on}
use Rattle.field_space.proofs.Spaces.{more_coefficients, no_coefficients}
use Rattle.field_space.proofs.space.BasedVectorSpace.from_basis_coefficients_fn.Goals as goal

pub loop-i-init : goal.loop-i-init
loop-i-init g c =
    (c.requires, no_coefficients _ _ _ _ g.Self.Represented.repr _ _ c.ZERO-element.ensures g.met.Self.PrimeCharacteristicRing.zero_law)

pub loop-i-preserved : goal.loop-i-preserved
loop-i-preserved g c =
    let inside : c.loop-i.i < g.Self.BasedVectorSpace.DIMENSION = search rules in (
      may_go_on _ c.loop-i.i inside c.loop-i.invariant.0 _ (c.f.result, c.f.ensures),
      more_coefficients g.F.Represented.width g.F.Represented.repr _ _ c.loop-i.i _ _ _ _ c.f.result c.loop-i.invariant.1
          (g.F.Represented.range_law c.f.result) c.f.ensures c.with_basis_coefficient-element.ensures,
    )

pub returns : goal.returns
returns g c =
    let done = c.loop-i.invariant.1 in
    let all : c.loop-i.i ≡ g.Self.BasedVectorSpace.DIMENSION =
    omega (arith, c.loop-i-test.false, c.loop-i.auto.i-end, c.DIMENSION-i-end.ensures) in (
      done.taken,
      c.loop-i.f,
      done.fills,
      done.are ∙ ap (λ n. chunks g.F.Represented.width n (g.Self.Represented.repr c.loop-i.element)) all,
    )
