use Rattle.sum_checks.proofs.sumcheck.+prove_rounds.Given as goal

abbrev pub decreases-prove_rounds : goal.decreases-prove_rounds
decreases-prove_rounds g l = l.rounds
