use Rattle.std.proofs.Common.{◌≡◌, ◌*◌, ◌∙◌, ℕ, ap, le_antisymm, sym}
use Rattle.field_base.specs.Chunks.{chunks}
use Rattle.transcripts.specs.ByteCalls.{after, sampling}
use Rattle.transcript_elements.specs.Challengers.{state_of}
use Rattle.transcript_elements.specs.Sampled.{squeezed_elements}
use Rattle.transcript_elements.proofs.ManyCalls.{none_sampled, one_more_sampled}
use Rattle.transcript_elements.proofs.sample.BinaryChallengerCanSample.sample.Goals as goal

pub coefficients-init : goal.coefficients-init
coefficients-init g c = record {
  goes_on = sym c.failed.ensures ∙ c.if-failed.false;
  seen =
      none_sampled g.Inner.ByteChallenger.transitions g.F.RawDataSerializable.NUM_BYTES g.F.Represented.width _ _
      (ap g.E.Represented.repr c.ZERO-element.ensures ∙ g.met.E.PrimeCharacteristicRing.zero_law);
}

pub coefficients-preserved : goal.coefficients-preserved
coefficients-preserved g c = record {
  goes_on = c.in_ok-coefficient.ensures.answer.goes_on;
  seen =
      one_more_sampled g.Inner.ByteChallenger.transitions g.F.RawDataSerializable.NUM_BYTES g.F.Represented.width
      c.coefficients.i (g.E.Represented.repr c.coefficients.element) (g.F.Represented.repr c.in_ok-coefficient.coefficient)
      (g.E.Represented.repr c.with_basis_coefficient-element.result) (state_of c.args.self.now)
      (state_of c.coefficients.self) (state_of c.sample_element.new.self) c.coefficients.invariant.seen
      (g.F.Represented.range_law c.in_ok-coefficient.coefficient) c.in_ok-coefficient.ensures.state c.in_ok-coefficient.ensures.element
      c.with_basis_coefficient-element.ensures;
}

pub with_basis_coefficient-element-requires-clause-below : goal.with_basis_coefficient-element-requires-clause-below
with_basis_coefficient-element-requires-clause-below g c = c.coefficients.invariant.seen.below

pub returns-clause-ok : goal.returns-clause-ok
returns-clause-ok g c =
    let size = g.F.RawDataSerializable.NUM_BYTES in
    let width = g.F.Represented.width in
    let old = state_of c.args.self.now in
    let all : c.coefficients.i ≡ g.E.BasedVectorSpace.DIMENSION =
    le_antisymm c.coefficients.auto.i-end c.coefficients-test.false ∙ c.DIMENSION-i-end.ensures in (
      c.coefficients.invariant.seen.run
          ∙ ap (λ (k : ℕ). after g.Inner.ByteChallenger.transitions (sampling (size * k)) old) all,
      sym (ap (λ (k : ℕ). chunks width k (g.E.Represented.repr c.coefficients.element)) all)
          ∙ c.coefficients.invariant.seen.are
          ∙ ap (λ (k : ℕ). squeezed_elements g.Inner.ByteChallenger.transitions size width k old) all,
    )
