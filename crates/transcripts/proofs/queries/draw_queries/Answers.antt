use Rattle.std.proofs.Common.{inl, sym, ◌∙◌}
use Rattle.transcripts.proofs.Outcomes.{outcome-stops, search-stops}
use Rattle.transcripts.proofs.queries.draw_queries.Goals as goal

pub returns-in_err-witness-clause-answer : goal.returns-in_err-witness-clause-answer
returns-in_err-witness-clause-answer g c =
    let going = sym c.failed.ensures ∙ c.if-failed.false in
    outcome-stops _ _ _ _ c.from_residual.result c.from_residual.ensures.1
    (λ error is. search-stops _ _ _ error is (c.in_err-witness.ensures.err going)) going

pub places_of-requires-clause-going : goal.places_of-requires-clause-going
places_of-requires-clause-going g c = c.in_ok-witness.ensures.goes_on

pub returns-in_err-places-clause-answer : goal.returns-in_err-places-clause-answer
returns-in_err-places-clause-answer g c =
    outcome-stops _ _ _ _ c.from_residual-in_err-places.result c.from_residual-in_err-places.ensures.1
    (λ error is. inl (is ∙ c.in_err-places.ensures.memory)) (sym c.failed.ensures ∙ c.if-failed.false)
