use Rattle.std.proofs.Common.{◌≡◌, false}
use Rattle.transcript_elements.proofs.ManyCalls.{Sampling}
use Rattle.transcript_elements.specs.Challengers.{challenger_failed, state_of}
use Rattle.transcript_elements.proofs.sample.BinaryChallengerCanSample.sample.Given as goal

-- the coefficients before i were sampled, and nothing has failed
abbrev pub invariant-coefficients : goal.invariant-coefficients
invariant-coefficients g l = record {
  goes_on : challenger_failed l.self ≡ false;
  seen : Sampling g.Inner.ByteChallenger.transitions g.F.RawDataSerializable.NUM_BYTES g.F.Represented.width l.i
      (g.E.Represented.repr l.element) (state_of l.initial.self) (state_of l.self);
}
