use Rattle.std.proofs.Common.{◌∙◌, ap}
use Rattle.std.proofs.lemmas.List.{take_all}
use Rattle.std.specs.List.{flat_map}
use Rattle.transcripts.specs.ByteCalls.{observing}
use Rattle.transcripts.specs.Guarded.{guarded_after, guarded_state}
use Rattle.transcripts.proofs.ObservedLists.{none_observed, one_more_observed}
use Rattle.transcript_elements.proofs.digest.observe_digests.Goals as goal

pub digests-init : goal.digests-init
digests-init g c = record { goes_on = c.requires; run = none_observed _ _ }

pub digests-preserved : goal.digests-preserved
digests-preserved g c = record {
  goes_on = c.in_ok-observe_in.ensures.answer.goes_on;
  run =
      one_more_observed g.C.ByteChallenger.transitions g.D.Digest.bytes c.args.digests.now c.digests.index
      c.index-digests-index.result c.index-digests-index.result (guarded_state c.args.guarded.now)
      (guarded_state c.digests.guarded) (guarded_state c.observe_in.new.guarded)
      c.digests-test.true c.index-digests-index.is c.digests.invariant.run c.in_ok-observe_in.ensures.ok;
}

pub returns-clause-ok : goal.returns-clause-ok
returns-clause-ok g c =
    c.digests.invariant.run
    ∙ ap (λ digests. guarded_after (observing (flat_map g.D.Digest.bytes digests)) c.args.guarded.now)
    (take_all c.digests.index c.args.digests.now c.digests-test.false)
