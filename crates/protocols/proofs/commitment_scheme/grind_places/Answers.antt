use Rattle.std.proofs.Common.{◌^◌, ℕ, List, inl, length, sym, ◌∙◌, ap, subst}
use Rattle.transcripts.specs.Openings.{AreAscending}
use Rattle.sum_checks.specs.Refusals.{error_of_call}
use Rattle.protocols.specs.CommitmentScheme.{block_places, place_bits, word_levels}
use Rattle.protocols.proofs.BlockPlaces.{ascending, blocks-whole}
use Rattle.protocols.proofs.SchemeRuns.{fails-so, places-drawn, search-stops}
use Rattle.protocols.proofs.commitment_scheme.grind_places.Goals as goal

pub places-requires : goal.places-requires
places-requires g c = ap length c.as_slice.ensures.value ∙ c.in_ok-witness.ensures.count ∙ c.place_count-count.ensures.count

pub returns-clause-drawn : goal.returns-clause-drawn
returns-clause-drawn g c =
    let sizes = c.args.parameters.now in
    places-drawn g.C.CanObserve.observes g.C.CanSample.gives g.C.GrindingChallenger.passing g.C.GrindingChallenger.checks
    g.C.CanSampleBits.gives_bits sizes.queries sizes.variables c.in_ok-witness.numbers.items sizes.bits_are c.in_ok-observe_slice.ensures.ok
    c.in_ok-_challenge.ensures.ok c.in_ok-witness.ensures.drawn (c.in_ok-witness.ensures.count ∙ c.place_count-count.ensures.count)
    (c.in_ok-places.ensures ∙ ap (block_places (place_bits sizes.queries sizes.variables)) c.as_slice.ensures.value)

pub returns-clause-ascending : goal.returns-clause-ascending
returns-clause-ascending g c =
    let sizes = c.args.parameters.now in
    subst (λ (l : List ℕ). AreAscending (2 ^ word_levels sizes.queries sizes.variables) l) (sym c.in_ok-places.ensures)
    (ascending (place_bits sizes.queries sizes.variables) _ (word_levels sizes.queries sizes.variables)
    (blocks-whole sizes.queries sizes.variables) c.as_slice.result.now
    (ap length c.as_slice.ensures.value ∙ c.in_ok-witness.ensures.count ∙ c.place_count-count.ensures.count))

pub returns-in_err-observe_slice-clause-error : goal.returns-in_err-observe_slice-clause-error
returns-in_err-observe_slice-clause-error g c going =
    fails-so _ c.from_residual.ensures.1 (λ error is. inl (is ∙ ap error_of_call (c.in_err-observe_slice.ensures.answer.memory going).0))

pub returns-in_err-_challenge-clause-error : goal.returns-in_err-_challenge-clause-error
returns-in_err-_challenge-clause-error g c going =
    fails-so _ c.from_residual-in_err-_challenge.ensures.1
    (λ error is. inl (is ∙ ap error_of_call (c.in_err-_challenge.ensures.answer.memory c.in_ok-observe_slice.ensures.answer.goes_on).0))

pub returns-in_err-witness-clause-error : goal.returns-in_err-witness-clause-error
returns-in_err-witness-clause-error g c going =
    fails-so _ c.from_residual-in_err-witness.ensures.1
    (λ error is.
    search-stops g.C.GrindingChallenger.passing g.C.GrindingChallenger.witness_bits _ _ error is
    (c.in_err-witness.ensures.answer.errors c.in_ok-_challenge.ensures.answer.goes_on))
