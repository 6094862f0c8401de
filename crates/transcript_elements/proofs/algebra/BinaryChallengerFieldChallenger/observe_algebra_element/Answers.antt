use Rattle.std.proofs.Common.{◌≡◌, ◌∙◌, ℕ, ap, le_antisymm, sym}
use Rattle.transcripts.specs.ByteCalls.{observing}
use Rattle.transcript_elements.specs.Challengers.{state_after, state_of}
use Rattle.transcript_elements.specs.Sampled.{coefficient_bytes}
use Rattle.transcript_elements.proofs.ManyCalls.{no_coefficient_observed, one_more_coefficient}
use Rattle.transcript_elements.proofs.algebra.BinaryChallengerFieldChallenger.observe_algebra_element.Goals as goal

pub coefficients-init : goal.coefficients-init
coefficients-init g c = record {
  goes_on = sym c.failed.ensures ∙ c.if-failed.false;
  run = no_coefficient_observed _ g.F.RawDataSerializable.NUM_BYTES g.F.Represented.width _ _;
}

pub coefficients-preserved : goal.coefficients-preserved
coefficients-preserved g c = record {
  goes_on = c.in_ok-observe_element.ensures.answer.goes_on;
  run =
      one_more_coefficient g.Inner.ByteChallenger.transitions g.F.RawDataSerializable.NUM_BYTES g.F.Represented.width
      c.coefficients.i (g.E.Represented.repr c.args.element) (g.F.Represented.repr c.basis_coefficient.result)
      (state_of c.args.self.now) (state_of c.coefficients.self) (state_of c.observe_element.new.self)
      c.coefficients.invariant.run c.basis_coefficient.ensures c.in_ok-observe_element.ensures.state;
}

pub returns-clause-ok : goal.returns-clause-ok
returns-clause-ok g c =
    let all : c.coefficients.i ≡ g.E.BasedVectorSpace.DIMENSION =
    le_antisymm c.coefficients.auto.i-end c.coefficients-test.false ∙ c.DIMENSION-i-end.ensures in
    c.coefficients.invariant.run
    ∙ ap (λ (k : ℕ). state_after
    (observing (coefficient_bytes g.F.RawDataSerializable.NUM_BYTES g.F.Represented.width k (g.E.Represented.repr c.args.element)))
    c.args.self.now) all
