use Rattle.transcripts.proofs.openings.+push_nodes.Given as goal

abbrev pub decreases-push_nodes : goal.decreases-push_nodes
decreases-push_nodes g l = l.levels
