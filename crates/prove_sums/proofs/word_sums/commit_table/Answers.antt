use Rattle.prove_sums.proofs.word_sums.commit_table.Goals as goal

pub commit-requires-clause-count : goal.commit-requires-clause-count
commit-requires-clause-count g c = c.args.table.size
