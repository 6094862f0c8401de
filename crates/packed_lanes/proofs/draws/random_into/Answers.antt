use Rattle.std.proofs.Common.{◌≡◌, ◌+◌, ◌<◌, ◌≤◌, length, take, subst, sym, ◌∙◌, arith}
use Rattle.std.proofs.lemmas.List.{length-set, length-take, take_all, take_more_set}
use Rattle.std.specs.Array.{FillsFrom}
use Rattle.field_base.proofs.Calls.{fills_more}
use Rattle.packed_lanes.proofs.draws.random_into.Goals as goal

pub loop-place-preserved : goal.loop-place-preserved
loop-place-preserved g c =
    let place = c.loop-place.place in
    let target = c.loop-place.target in
    let drawn = c.sample_standard.result in
    let start = g.R.Rng.stream c.args.rng.now in
    let before = g.R.Rng.stream c.loop-place.rng in
    let after = g.R.Rng.stream c.sample_standard.new.rng in
    let within : place < length target = omega (arith, c.loop-place.invariant.0, c.loop-place-test.true) in
    let so_far = length-take place target in
    let at : place ≡ 0 + length (take place target) = omega (arith, so_far, within) in (
      length-set target place drawn ∙ c.loop-place.invariant.0,
      subst (λ xs. FillsFrom (λ s i x t. g.T.SampleStandard.draws s x t) start 0 xs after) (sym (take_more_set target place drawn within))
          (fills_more (λ s i x t. g.T.SampleStandard.draws s x t) start 0 (take place target) before after drawn place at
          c.loop-place.invariant.1 c.sample_standard.ensures.drawn),
    )

pub returns-clause-drawn : goal.returns-clause-drawn
returns-clause-drawn g c =
    let place = c.loop-place.place in
    let target = c.loop-place.target in
    let start = g.R.Rng.stream c.args.rng.now in
    let last = g.R.Rng.stream c.loop-place.rng in
    let all : length target ≤ place = omega (arith, c.loop-place.invariant.0, c.loop-place-test.false) in
    subst (λ xs. FillsFrom (λ s i x t. g.T.SampleStandard.draws s x t) start 0 xs last) (take_all place target all) c.loop-place.invariant.1
