use Rattle.std.proofs.Common.{◌≡◌, false, length, take}
use Rattle.transcripts.specs.Lists.{InTurn}
use Rattle.transcripts.proofs.sample.AnySampleArray.sample_array.Given as goal

-- the values before the index were sampled, and nothing has failed
abbrev pub invariant-values : goal.invariant-values
invariant-values g l = record {
  goes_on : g.C.Transcript.has_failed l.self ≡ false;
  run : InTurn g.C.CanSample.gives (take l.index l.values) l.initial.self l.self;
  length : length l.values ≡ g.row.N;
}
