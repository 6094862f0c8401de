use Rattle.transcripts.proofs.queries.check_queries.Goals as goal

pub places_of-requires-clause-going : goal.places_of-requires-clause-going
places_of-requires-clause-going g c = c.in_ok-works.ensures.answer.goes_on
