use Rattle.std.proofs.Common.{◌∙◌, ap}
use Rattle.sum_checks.specs.Refusals.{error_of_call, error_of_search}
use Rattle.protocols.specs.CommitmentScheme.{block_places, place_bits}
use Rattle.protocols.proofs.SchemeRuns.{memory-alone, places-drawn}
use Rattle.protocols.proofs.commitment_scheme.draw_places.Goals as goal

pub returns-clause-drawn : goal.returns-clause-drawn
returns-clause-drawn g c =
    let sizes = c.args.parameters.now in
    let drawn = c.in_ok-works.ensures in
    places-drawn g.C.CanObserve.observes g.C.CanSample.gives g.C.GrindingChallenger.passing g.C.GrindingChallenger.checks
    g.C.CanSampleBits.gives_bits sizes.queries sizes.variables c.in_ok-works.numbers.items sizes.bits_are c.in_ok-observe_slice.ensures.ok
    c.in_ok-_challenge.ensures.ok drawn.drawn (drawn.count ∙ c.place_count-count.ensures.count)
    (c.in_ok-places.ensures ∙ ap (block_places (place_bits sizes.queries sizes.variables)) c.as_slice.ensures.value)

pub returns-in_err-observe_slice-clause-memory : goal.returns-in_err-observe_slice-clause-memory
returns-in_err-observe_slice-clause-memory g c going =
    memory-alone _ c.from_residual.ensures.1 (λ error is. is ∙ ap error_of_call (c.in_err-observe_slice.ensures.answer.memory going).0)

pub returns-in_err-_challenge-clause-memory : goal.returns-in_err-_challenge-clause-memory
returns-in_err-_challenge-clause-memory g c going =
    memory-alone _ c.from_residual-in_err-_challenge.ensures.1
    (λ error is. is ∙ ap error_of_call (c.in_err-_challenge.ensures.answer.memory c.in_ok-observe_slice.ensures.answer.goes_on).0)

pub returns-in_err-works-clause-memory : goal.returns-in_err-works-clause-memory
returns-in_err-works-clause-memory g c going =
    memory-alone _ c.from_residual-in_err-works.ensures.1
    (λ error is. is ∙ ap error_of_search (c.in_err-works.ensures.answer.errors c.in_ok-_challenge.ensures.answer.goes_on))
