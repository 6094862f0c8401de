use Rattle.std.proofs.Common.{◌∙◌, ap, get_or, refl}
use Rattle.std.proofs.lemmas.List.{take_all}
use Rattle.std.specs.Int.{to_le_bytes, w64}
use Rattle.std.specs.List.{flat_map}
use Rattle.transcripts.specs.ByteCalls.{observing}
use Rattle.transcripts.specs.Guarded.{guarded_after, guarded_state}
use Rattle.transcripts.proofs.ObservedLists.{none_observed, one_more_observed}
use Rattle.transcripts.proofs.digest.U64DigestWord.observe_words.Goals as goal

pub words-init : goal.words-init
words-init g c = record { goes_on = c.requires; run = none_observed _ _ }

pub words-preserved : goal.words-preserved
words-preserved g c =
    let word = get_or c.args.words.now c.words.index 0 in
    record {
      goes_on = c.in_ok-observe_bytes.ensures.answer.goes_on;
      run =
          one_more_observed g.C.ByteChallenger.transitions (λ w. to_le_bytes w64 w) c.args.words.now c.words.index word 0
          (guarded_state c.args.guarded.now) (guarded_state c.words.guarded)
          (guarded_state c.observe_bytes.new.self) c.words-test.true refl c.words.invariant.run
          (c.in_ok-observe_bytes.ensures.ok
          ∙ ap (λ bytes. guarded_after (observing bytes) c.words.guarded) c.to_le_bytes.ensures);
    }

pub returns-clause-ok : goal.returns-clause-ok
returns-clause-ok g c =
    c.words.invariant.run
    ∙ ap (λ words. guarded_after (observing (flat_map (λ w. to_le_bytes w64 w) words)) c.args.guarded.now)
    (take_all c.words.index c.args.words.now c.words-test.false)
