use Rattle.std.proofs.Common.{sym, ◌∙◌}
use Rattle.std.proofs.lemmas.Bool.{false≢true, true≢false}
use Rattle.shard_files.proofs.layout.Layout.of.Goals as goal

pub returns-then-not-has_lengths-clause-accepted : goal.returns-then-not-has_lengths-clause-accepted
returns-then-not-has_lengths-clause-accepted c = (
  λ is. absurd (false≢true is),
  λ possible. absurd (true≢false (sym (c.has_lengths.ensures.1 (possible.some_size, possible.small_size, possible.small_length))
      ∙ c.if-not-has_lengths.true)),
)

pub returns-in-None-clause-accepted : goal.returns-in-None-clause-accepted
returns-in-None-clause-accepted c = (
  λ is. absurd (false≢true is),
  λ possible. absurd (false≢true (c.in-None.ensures.accepted.1
      (possible.some_data, possible.some_parity, possible.some_size, possible.has_code))),
)
