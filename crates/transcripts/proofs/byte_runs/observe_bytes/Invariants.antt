use Rattle.std.proofs.Common.{◌≡◌, take}
use Rattle.transcripts.specs.ByteCalls.{after, observing}
use Rattle.transcripts.proofs.byte_runs.observe_bytes.Given as goal

-- the bytes before the index have been observed, and nothing was refused
abbrev pub invariant-bytes : goal.invariant-bytes
invariant-bytes g l = record {
  run : g.C.ByteChallenger.state l.challenger
      ≡ after g.C.ByteChallenger.transitions (take l.index (observing l.bytes)) (g.C.ByteChallenger.state l.initial.challenger);
  kept : g.C.ByteChallenger.has_refused l.challenger ≡ g.C.ByteChallenger.has_refused l.initial.challenger;
}
