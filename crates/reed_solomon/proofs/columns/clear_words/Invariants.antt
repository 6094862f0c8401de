use Rattle.reed_solomon.specs.Columns.{ArePutWords}
use Rattle.reed_solomon.proofs.columns.clear_words.Given as goal

abbrev pub invariant-loop-c : goal.invariant-loop-c
invariant-loop-c g l = ArePutWords g.R.Stored.ZERO l.place l.c (λ c. g.R.Stored.ZERO) l.initial.target l.target
