use Rattle.sum_checks.proofs.sumcheck.+verify_rounds.Given as goal

abbrev pub decreases-verify_rounds : goal.decreases-verify_rounds
decreases-verify_rounds g l = l.rounds
