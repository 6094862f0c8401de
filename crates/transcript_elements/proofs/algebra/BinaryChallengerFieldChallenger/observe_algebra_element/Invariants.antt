use Rattle.std.proofs.Common.{◌≡◌, false}
use Rattle.transcripts.specs.ByteCalls.{observing}
use Rattle.transcript_elements.specs.Challengers.{challenger_failed, state_after, state_of}
use Rattle.transcript_elements.specs.Sampled.{coefficient_bytes}
use Rattle.transcript_elements.proofs.algebra.BinaryChallengerFieldChallenger.observe_algebra_element.Given as goal

-- the coefficients before i were observed, and nothing has failed
abbrev pub invariant-coefficients : goal.invariant-coefficients
invariant-coefficients g l = record {
  goes_on : challenger_failed l.self ≡ false;
  run : state_of l.self
      ≡ state_after (observing (coefficient_bytes g.F.RawDataSerializable.NUM_BYTES g.F.Represented.width l.i (g.E.Represented.repr l.element)))
      l.initial.self;
}
