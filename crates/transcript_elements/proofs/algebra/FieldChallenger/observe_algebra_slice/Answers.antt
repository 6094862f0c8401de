use Rattle.std.proofs.Common.{◌∙◌, subst, sym}
use Rattle.std.proofs.lemmas.List.{take_all}
use Rattle.transcripts.specs.Lists.{InTurn}
use Rattle.transcripts.proofs.ListLemmas.{next_in_turn, none_in_turn}
use Rattle.transcript_elements.proofs.algebra.FieldChallenger.observe_algebra_slice.Goals as goal

pub elements-init : goal.elements-init
elements-init g c = record {
  goes_on = sym c.failed.ensures ∙ c.if-failed.false;
  run = none_in_turn _ _;
}

pub elements-preserved : goal.elements-preserved
elements-preserved g c = record {
  goes_on = c.in_ok-observe_algebra_element.ensures.answer.goes_on;
  run =
      next_in_turn
      (λ old element new. g.Self.FieldChallenger.observes_algebra old g.E.BasedVectorSpace.DIMENSION (g.E.Represented.repr element) new)
      c.args.elements.now c.elements.index c.index-elements-index.result c.index-elements-index.result c.args.self.now
      c.elements.self c.observe_algebra_element.new.self c.elements-test.true c.index-elements-index.is c.elements.invariant.run
      c.in_ok-observe_algebra_element.ensures.ok;
}

pub returns-clause-ok : goal.returns-clause-ok
returns-clause-ok g c =
    subst
    (λ elements. InTurn
    (λ old element new. g.Self.FieldChallenger.observes_algebra old g.E.BasedVectorSpace.DIMENSION (g.E.Represented.repr element) new)
    elements c.args.self.now c.elements.self)
    (take_all c.elements.index c.args.elements.now c.elements-test.false) c.elements.invariant.run
