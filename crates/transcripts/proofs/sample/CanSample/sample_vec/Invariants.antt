use Rattle.std.proofs.Common.{◌≡◌, ◌≤◌, false, length, vec_capacity, vec_len}
use Rattle.transcripts.specs.Lists.{InTurn}
use Rattle.transcripts.proofs.sample.CanSample.sample_vec.Given as goal

-- as many values as the counter says were sampled, there is room for all, and nothing has failed
abbrev pub invariant-values : goal.invariant-values
invariant-values g l = record {
  goes_on : g.Self.Transcript.has_failed l.self ≡ false;
  run : InTurn g.Self.CanSample.gives l.values.items l.initial.self l.self;
  count : length l.values.items ≡ l.counter;
  len : vec_len l.values ≡ l.counter;
  room : l.count ≤ vec_capacity l.values;
}
