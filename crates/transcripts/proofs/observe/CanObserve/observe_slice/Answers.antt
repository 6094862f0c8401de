use Rattle.std.proofs.Common.{◌∙◌, subst, sym}
use Rattle.std.proofs.lemmas.List.{take_all}
use Rattle.transcripts.specs.Lists.{InTurn}
use Rattle.transcripts.proofs.GuardedLemmas.{on_err}
use Rattle.transcripts.proofs.ListLemmas.{next_in_turn, none_in_turn}
use Rattle.transcripts.proofs.observe.CanObserve.observe_slice.Goals as goal

pub values-init : goal.values-init
values-init g c = record {
  goes_on = sym c.failed.ensures ∙ c.if-failed.false;
  run = none_in_turn g.Self.CanObserve.observes _;
}

pub values-preserved : goal.values-preserved
values-preserved g c = record {
  goes_on = c.in_ok-observe.ensures.answer.goes_on;
  run =
      next_in_turn g.Self.CanObserve.observes c.args.values.now c.values.index c.index-values-index.result
      c.index-values-index.result c.args.self.now c.values.self c.observe.new.self c.values-test.true
      c.index-values-index.is c.values.invariant.run c.in_ok-observe.ensures.ok;
}

pub returns-in_err-observe-clause-err : goal.returns-in_err-observe-clause-err
returns-in_err-observe-clause-err g c goes_on =
    on_err c.from_residual.result
    (c.values.index, c.values.self, c.values-test.true, c.values.invariant.run, c.in_err-observe.ensures.err)

pub returns-clause-ok : goal.returns-clause-ok
returns-clause-ok g c =
    subst (λ values. InTurn g.Self.CanObserve.observes values c.args.self.now c.values.self)
    (take_all c.values.index c.args.values.now c.values-test.false) c.values.invariant.run
