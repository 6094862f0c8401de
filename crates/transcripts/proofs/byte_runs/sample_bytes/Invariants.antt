use Rattle.std.proofs.Common.{◌≡◌, take}
use Rattle.transcripts.specs.ByteCalls.{after, sampling, squeezed}
use Rattle.transcripts.proofs.byte_runs.sample_bytes.Given as goal

-- the bytes before the index have been sampled, and nothing was refused
abbrev pub invariant-bytes : goal.invariant-bytes
invariant-bytes g l = record {
  run : g.C.ByteChallenger.state l.challenger
      ≡ after g.C.ByteChallenger.transitions (sampling l.index) (g.C.ByteChallenger.state l.initial.challenger);
  bytes : take l.index l.bytes
      ≡ squeezed g.C.ByteChallenger.transitions (sampling l.index) (g.C.ByteChallenger.state l.initial.challenger);
  kept : g.C.ByteChallenger.has_refused l.challenger ≡ g.C.ByteChallenger.has_refused l.initial.challenger;
}
