use Rattle.prove_sums.proofs.commands.commit_report.Goals as goal

pub returns : goal.returns
returns g c = (c.in_ok-report.ensures.status, (c.in_ok-root.root, c.in_ok-root.ensures, c.in_ok-report.ensures.line))
