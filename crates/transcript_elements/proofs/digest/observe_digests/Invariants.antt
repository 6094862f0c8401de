use Rattle.std.proofs.Common.{◌≡◌, false, take}
use Rattle.std.specs.List.{flat_map}
use Rattle.transcripts.specs.ByteCalls.{observing}
use Rattle.transcripts.specs.Guarded.{guarded_after, guarded_failed, guarded_state}
use Rattle.transcript_elements.proofs.digest.observe_digests.Given as goal

-- the digests before the index were observed, and nothing has failed
abbrev pub invariant-digests : goal.invariant-digests
invariant-digests g l = record {
  goes_on : guarded_failed l.guarded ≡ false;
  run : guarded_state l.guarded ≡ guarded_after (observing (flat_map g.D.Digest.bytes (take l.index l.digests))) l.initial.guarded;
}
