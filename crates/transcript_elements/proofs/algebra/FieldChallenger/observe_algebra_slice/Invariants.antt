use Rattle.std.proofs.Common.{◌≡◌, false, take}
use Rattle.transcripts.specs.Lists.{InTurn}
use Rattle.transcript_elements.proofs.algebra.FieldChallenger.observe_algebra_slice.Given as goal

-- the elements before the index were observed, and nothing has failed
abbrev pub invariant-elements : goal.invariant-elements
invariant-elements g l = record {
  goes_on : g.Self.Transcript.has_failed l.self ≡ false;
  run : InTurn
      (λ old element new. g.Self.FieldChallenger.observes_algebra old g.E.BasedVectorSpace.DIMENSION (g.E.Represented.repr element) new)
      (take l.index l.elements) l.initial.self l.self;
}
