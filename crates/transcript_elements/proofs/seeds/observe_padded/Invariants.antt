use Rattle.std.proofs.Common.{◌≡◌, ◌<◌, ℕ, false, get_or, length}
use Rattle.transcript_elements.proofs.SeedLemmas.{Absorbed}
use Rattle.transcript_elements.proofs.seeds.observe_padded.Given as goal

-- the elements of the bytes before the rest were observed, and nothing has failed
abbrev pub invariant-elements : goal.invariant-elements
invariant-elements g l = record {
  goes_on : g.C.Transcript.has_failed l.challenger ≡ false;
  fits : (k : ℕ) → get_or l.rest k 0 < 256;
  seen : Absorbed g.F.RawDataSerializable.NUM_BYTES g.F.Represented.repr g.C.CanObserve.observes l.bytes l.rest
      l.initial.challenger l.challenger;
}

abbrev pub decreases-elements : goal.decreases-elements
decreases-elements g l = length l.rest
