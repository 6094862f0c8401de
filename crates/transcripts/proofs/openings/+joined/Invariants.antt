use Rattle.transcripts.proofs.openings.+joined.Given as goal

abbrev pub decreases-joined : goal.decreases-joined
decreases-joined g l = l.levels
