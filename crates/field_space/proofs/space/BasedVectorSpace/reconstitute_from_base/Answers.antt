use Rattle.std.proofs.Common.{◌≡◌, ◌≢◌, ◌+◌, ◌%◌, ℕ, length, refl, sym, ◌∙◌, ap, arith, map, take, subst}
use Rattle.std.proofs.lemmas.List.{take_all}
use Rattle.field_space.proofs.Spaces.{Joining, joining_end, joining_more, joining_start, joining_whole, map_next}
use Rattle.field_space.proofs.space.BasedVectorSpace.reconstitute_from_base.Goals as goal
use Rattle.field_space.proofs.space.BasedVectorSpace.reconstitute_from_base.Goals.{then-i-DIMENSION+in_ok-push, else-i-DIMENSION}

pub loop-place-init : goal.loop-place-init
loop-place-init g c =
    joining_start g.F.Represented.width g.Self.BasedVectorSpace.DIMENSION g.Self.Represented.repr _ _
    g.met.Self.BasedVectorSpace.dimension_law c.new-elements.ensures.items
    (ap g.Self.Represented.repr c.ZERO-element.ensures ∙ g.met.Self.PrimeCharacteristicRing.zero_law)

pub loop-place-preserved : goal.loop-place-preserved
loop-place-preserved g c =
    let v = c.index-coefficients-place.result in
    let fits = g.F.Represented.range_law v in
    let longer =
    map_next g.F.Represented.repr c.args.coefficients.now c.loop-place.place v c.loop-place-test.true c.index-coefficients-place.is in
    let made = c.with_basis_coefficient-element.ensures in
    elim c.if-i-DIMENSION.branch [
      | then-i-DIMENSION+in_ok-push w ↦
          let full : c.loop-place.i + 1 ≡ g.Self.BasedVectorSpace.DIMENSION = w.if-i-DIMENSION.true ∙ c.DIMENSION.ensures in
          let next =
          joining_whole g.F.Represented.width g.Self.BasedVectorSpace.DIMENSION g.Self.Represented.repr _ _ _ _ _ _ _ _ _ _ _
          c.loop-place.invariant fits made longer full (ap (λ v. v.items) w.elements-is ∙ w.in_ok-push.ensures.items) refl
          (ap g.Self.Represented.repr (w.element-is ∙ w.ZERO-element-then-i-DIMENSION.ensures) ∙ g.met.Self.PrimeCharacteristicRing.zero_law)
          g.met.Self.BasedVectorSpace.dimension_law in
          subst (λ (i : ℕ). Joining g.F.Represented.width g.Self.BasedVectorSpace.DIMENSION g.Self.Represented.repr c.if-i-DIMENSION.elements.items i
          (g.Self.Represented.repr c.if-i-DIMENSION.element) (c.loop-place.place + 1)
          (map g.F.Represented.repr (take (c.loop-place.place + 1) c.args.coefficients.now))) (sym w.i-is) next
      | else-i-DIMENSION w ↦
          let other : c.loop-place.i + 1 ≢ g.Self.BasedVectorSpace.DIMENSION =
          λ e. absurd (w.if-i-DIMENSION.false (e ∙ sym c.DIMENSION.ensures)) in
          let next =
          joining_more g.F.Represented.width g.Self.BasedVectorSpace.DIMENSION g.Self.Represented.repr c.if-i-DIMENSION.elements.items c.loop-place.i
          _ (g.Self.Represented.repr c.if-i-DIMENSION.element) _ _ _ _
          (subst (λ es. Joining g.F.Represented.width g.Self.BasedVectorSpace.DIMENSION g.Self.Represented.repr es c.loop-place.i
          (g.Self.Represented.repr c.loop-place.element) c.loop-place.place
          (map g.F.Represented.repr (take c.loop-place.place c.args.coefficients.now))) (sym (ap (λ v. v.items) w.elements-is)) c.loop-place.invariant)
          fits (ap g.Self.Represented.repr w.element-is ∙ made) longer other in
          subst (λ (i : ℕ). Joining g.F.Represented.width g.Self.BasedVectorSpace.DIMENSION g.Self.Represented.repr c.if-i-DIMENSION.elements.items i
          (g.Self.Represented.repr c.if-i-DIMENSION.element) (c.loop-place.place + 1)
          (map g.F.Represented.repr (take (c.loop-place.place + 1) c.args.coefficients.now))) (sym w.i-is) next
    ]

pub returns : goal.returns
returns g c =
    let all : c.loop-place.place ≡ length c.args.coefficients.now =
    omega (arith, c.loop-place-test.false, c.loop-place.auto.place-end) in
    joining_end g.F.Represented.width g.Self.BasedVectorSpace.DIMENSION g.Self.Represented.repr _ _ _ _ _ c.loop-place.invariant
    (ap (λ (n : ℕ). n % g.Self.BasedVectorSpace.DIMENSION) all ∙ c.requires)
    ∙ ap (map g.F.Represented.repr) (take_all _ _ c.loop-place-test.false)
