use Rattle.std.proofs.Common.{ℕ, map, refl, set, sym, subst, ◌∙◌, ap, arith, below_more}
use Rattle.std.specs.Prelude.{slice_index}
use Rattle.std.proofs.lemmas.Bool.{true≢false}
use Rattle.field_base.specs.Field.{IsInverseOrZero}
use Rattle.field_base.proofs.Places.{number-at, number-set_same, number-set_other}
use Rattle.field_base.proofs.traits.field.Field.invert_each.Goals as goal
use Rattle.field_base.proofs.traits.field.Field.invert_each.Goals.{in-Some, in-None}

pub loop-place-preserved : goal.loop-place-preserved
loop-place-preserved g c =
    let ring = g.Self.Represented in
    let values = c.args.values.now in
    let place = c.loop-place.place in
    let x = c.index-values-place.result in
    let y = c.match-try_inverse.inverses in
    below_more _ place
    (λ i below. subst (IsInverseOrZero ring.product (slice_index (map ring.repr values) i))
    (sym (number-set_other ring.repr c.loop-place.inverses place i y (λ e. absurd (omega (arith, e, below))))) (c.loop-place.invariant i below))
    (subst (λ (a : ℕ). IsInverseOrZero ring.product a (slice_index (map ring.repr (set c.loop-place.inverses place y)) place))
    (sym (number-at ring.repr values place x (omega arith) c.index-values-place.is))
    (subst (IsInverseOrZero ring.product (ring.repr x)) (sym (number-set_same ring.repr c.loop-place.inverses place y (omega arith)))
    (elim c.match-try_inverse.branch [
      | in-Some w ↦ (
        (λ e. absurd (true≢false (w.in-Some.ensures.none.1 e))),
        (λ other. ap (λ (z : _). ring.product (ring.repr x) (ring.repr z)) w.inverses-is ∙ w.in-Some.ensures.inverse),
      )
      | in-None w ↦ (
        (λ e. ap ring.repr (w.inverses-is ∙ w.ZERO.ensures) ∙ g.met.Self.PrimeCharacteristicRing.zero_law),
        (λ other. absurd (other (w.in-None.ensures.none.0 refl))),
      )
    ])))
