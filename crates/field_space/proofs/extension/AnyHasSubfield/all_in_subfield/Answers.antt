use Rattle.std.proofs.Common.{◌≡◌, ◌⊎◌, inl, inr, ℕ, ◌+◌, ◌<◌, ◌≤◌, ◌^◌, slice_index_or, refl, subst, ◌∙◌, arith}
use Rattle.std.proofs.lemmas.Bool.{cases_lt}
use Rattle.std.proofs.lemmas.List.{get_or_default}
use Rattle.field_space.proofs.extension.AnyHasSubfield.all_in_subfield.Goals as goal

pub loop-place-init : goal.loop-place-init
loop-place-init g c = λ k d few. absurd (omega (arith, few))

pub loop-place-preserved : goal.loop-place-preserved
loop-place-preserved g c = λ k d few. pick k d few (cases_lt k c.loop-place.place)
  where
    pick : (k : ℕ) (d : g.row.E.Denot) → k < c.loop-place.place + 1 → (k < c.loop-place.place) ⊎ (c.loop-place.place ≤ k)
        → g.E.Represented.repr (slice_index_or c.args.values.now k d) < 2 ^ g.F.Represented.width
    pick k d few (inl earlier) = c.loop-place.invariant k d earlier
    pick k d few (inr last) =
        let same : c.loop-place.place ≡ k = omega (arith, few, last) in
        let here : g.E.Represented.repr c.index-values-place.result < 2 ^ g.F.Represented.width =
        c.is_in_basefield.ensures.0 c.if-not-is_in_basefield.false in
        subst (λ (n : ℕ). g.E.Represented.repr (slice_index_or c.args.values.now n d) < 2 ^ g.F.Represented.width) same
        (subst (λ x. g.E.Represented.repr x < 2 ^ g.F.Represented.width)
        (c.index-values-place.is ∙ get_or_default c.args.values.now c.loop-place.place c.index-values-place.result d c.loop-place-test.true) here)

pub returns : goal.returns
returns g c = ((λ true k d few. c.loop-place.invariant k d (let past = c.loop-place-test.false in omega (arith, few, past))), (λ all. refl))
