use Rattle.std.proofs.Common.{◌≡◌, false, take}
use Rattle.transcripts.specs.Lists.{InTurn}
use Rattle.transcripts.proofs.observe.CanObserve.observe_slice.Given as goal

-- the values before the index were observed, and nothing has failed
abbrev pub invariant-values : goal.invariant-values
invariant-values g l = record {
  goes_on : g.Self.Transcript.has_failed l.self ≡ false;
  run : InTurn g.Self.CanObserve.observes (take l.index l.values) l.initial.self l.self;
}
