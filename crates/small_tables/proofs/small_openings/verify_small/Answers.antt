use Rattle.std.proofs.Common.{◌≡◌, ◌≤◌, ◌∷◌, ◌++◌, ℕ, List, length, map, take, drop, refl, ◌∙◌, ap, ap₂, subst, arith}
use Rattle.std.specs.Prelude.{◌↔◌, IsTrue, slice_index}
use Rattle.field_slices.specs.Multilinear.{multilinear_value}
use Rattle.protocols.specs.ProductSums.{IsReducedSum}
use Rattle.small_tables.specs.SmallOpenings.{IsPointDrawn}
use Rattle.small_tables.specs.SmallTables.{mixed_sum, mixed_weights, point_scalars}
use Rattle.protocols.proofs.ProductSums.{rounds-fit}
use Rattle.protocols.proofs.SchemeRuns.{decided, memory-alone}
use Rattle.small_tables.proofs.small_openings.verify_small.Goals as goal

pub power_of_two-requires : goal.power_of_two-requires
power_of_two-requires g c = omega (arith, c.args.small.now.few)

pub split_at-requires : goal.split_at-requires
split_at-requires g c = omega (arith, c.requires.coordinates)

pub returns-clause-verdict : goal.returns-clause-verdict
returns-clause-verdict g c =
    let field = g.F.Represented in
    let sizes = c.args.parameters.now in
    let m = sizes.queries in
    let n = sizes.variables in
    let small = c.args.small.now in
    let w = small.width in
    let k = small.levels in
    let opened = c.args.opened.now in
    let point = c.args.point.now in
    let parts = opened.parts.items in
    let same = c.as_slice-parts.ensures.value in
    let observes = g.C.CanObserve.observes in
    let gives = g.C.CanSample.gives in
    let draw = c.in_ok-scalars.ensures.drawn in
    let mix = draw.0 in
    let at = c.in_ok-reduced.reduced.point.items in
    let scalars : map field.repr c.as_slice-scalars.result.now ≡ point_scalars field.product (map field.repr mix) =
    ap (map field.repr) c.as_slice-scalars.ensures.value ∙ draw.2 in
    let front = c.split_at.ensures.front in
    let back = c.split_at.ensures.back in
    let adds : IsTrue c.eq-adds.result ↔ (field.repr opened.value ≡ multilinear_value field.product (map field.repr parts) (map field.repr (drop n point))) =
    decided _ _ _ _ _ _ c.eq-adds.ensures (g.met.F.PrimeCharacteristicRing.eq_law opened.value c.evaluate_multilinear.result) refl
    (c.evaluate_multilinear.ensures ∙ ap₂ (λ (ps ls : List _). multilinear_value field.product (map field.repr ps) (map field.repr ls)) same back) in
    let claims : List ℕ → List _ → Type 0 =
    λ (ss : List ℕ) (f : List _).
    IsTrue c.in_ok-holds.holds
    ↔ (field.repr c.in_ok-reduced.reduced.claim
    ≡ field.product (multilinear_value field.product (mixed_weights field.product w ss (map field.repr f)) (map field.repr at))
    (slice_index (map field.repr opened.packed.values.items) 0)) in
    let left : claims (map field.repr c.as_slice-scalars.result.now) c.split_at.result.0.now =
    subst
    (λ (value : ℕ). IsTrue c.in_ok-holds.holds
    ↔ (field.repr c.in_ok-reduced.reduced.claim
    ≡ field.product (multilinear_value field.product (mixed_weights field.product w (map field.repr c.as_slice-scalars.result.now)
    (map field.repr c.split_at.result.0.now)) (map field.repr at)) value))
    (c.first_value-left.ensures ∙ ap (λ (l : List _). slice_index (map field.repr l) 0) c.as_slice.ensures.value) c.in_ok-holds.ensures in
    let holds : claims (point_scalars field.product (map field.repr mix)) (take n point) =
    subst (λ (f : List _). claims (point_scalars field.product (map field.repr mix)) f) front
    (subst (λ (ss : List ℕ). claims ss c.split_at.result.0.now) scalars left) in
    record {
      mix = mix;
      mixing = c.draw_scalars.new.challenger;
      at = at;
      claim = field.repr c.in_ok-reduced.reduced.claim;
      between = c.reduce_sum.new.challenger;
      opens = c.in_ok-opens.opens;
      new = c.opens_packed.new.challenger;
      drawn =
          subst (λ (l : List _). IsPointDrawn observes gives c.args.challenger.now (point ++ opened.value ∷ l) k mix c.draw_scalars.new.challenger) same
          draw.1;
      reduced =
          subst
          (λ (s : ℕ). IsReducedSum observes gives field.repr field.width field.product n s opened.messages.items c.draw_scalars.new.challenger at
          (field.repr c.in_ok-reduced.reduced.claim) c.reduce_sum.new.challenger)
          (c.mixed_sum-sum.ensures
          ∙ ap₂ (λ (ss : List ℕ) (ps : List _). mixed_sum field.product w ss (map field.repr ps)) scalars same)
          (subst
          (λ (ms : List _). IsReducedSum observes gives field.repr field.width field.product n (field.repr c.mixed_sum-sum.result) ms
          c.draw_scalars.new.challenger at (field.repr c.in_ok-reduced.reduced.claim) c.reduce_sum.new.challenger) c.as_slice-messages.ensures.value
          c.in_ok-reduced.ensures.reduced);
      opened = c.in_ok-opens.ensures.verdict;
      count =
          let many = c.if-parts-power_of_two.false in
          let long = ap length same in
          omega (arith, many, long, c.power_of_two.ensures.power);
      decided = (
        λ whole.
            let outer = c.both-2.ensures.0 whole in
            let inner = c.both.ensures.0 outer.1 in
            (outer.0, adds.0 inner.0, holds.0 inner.1),
        λ each. c.both-2.ensures.1 (each.0, c.both.ensures.1 (adds.1 each.1, holds.1 each.2)),
      );
    }

pub returns-in_err-reduced-clause-memory : goal.returns-in_err-reduced-clause-memory
returns-in_err-reduced-clause-memory g c going parts messages =
    let width = g.F.Represented.width in
    let wide : 3 ≤ width = omega (arith, c.requires.points) in
    let fits = rounds-fit width c.args.parameters.now.variables c.requires.points c.args.parameters.now.few in
    memory-alone _ c.from_residual-in_err-reduced.ensures.1
    (λ error is. is ∙ c.in_err-reduced.ensures.memory wide fits (ap length c.as_slice-messages.ensures.value ∙ messages) c.in_ok-scalars.ensures.goes_on)
