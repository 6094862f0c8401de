use Rattle.std.proofs.Common.{inl, inr, length, refl, ◌∙◌, ap}
use Rattle.std.proofs.lemmas.Bool.{cases_Bool}
use mir.Val.{bool_byte}
use Rattle.additive_transforms.specs.Words.{level_element}
use Rattle.c_calls.specs.Erasure.{VerifiesAt}
use Rattle.c_calls.proofs.ErasureCounts.{at_code, refused}
use Rattle.c_calls.proofs.erasure.erasure_verify.Goals as goal

pub returns-in-Ok-verify : goal.returns-in-Ok-verify
returns-in-Ok-verify g c =
    λ n r counts.
    let code = c.in-Ok.code in
    let made = c.in-Ok.ensures.made in
    let answer = c.in-Ok-verify.ensures.answer in
    at_code
    (λ k m q s. VerifiesAt (level_element g.R.Stored.number g.L.Level.LEVEL) g.R.Stored.ZERO g.L.Level.LEVEL k m q s c.args.shards.now
    c.args.parity_shards.now (length c.args.space.now) c.args.whole.now c.from.result 0)
    code c.args.data c.args.parity n r made.0 made.1
    (record {
      code = λ none. absurd (none (record { some_data = code.some_data; some_parity = code.some_parity; few = code.few; points = made.2 }));
      length = λ is misfit. absurd (misfit (record { sizes = (c.in-Ok-verify.ensures.accepted.0 refl).sizes; room = made.3 }));
      few = λ is fits missing. absurd (missing tt);
      ok = λ is fits enough. (
        refl,
        record {
          yes = λ fact. c.from.ensures ∙ ap bool_byte (answer.1 fact);
          no = λ none.
              elim (cases_Bool c.in-Ok-verify.is_whole) [
                | inl right ↦ absurd (none (answer.0 right))
                | inr wrong ↦ c.from.ensures ∙ ap bool_byte wrong
              ];
        },
      );
      kept = λ failed. absurd (failed refl);
    })
    counts

pub returns-in-Err : goal.returns-in-Err
returns-in-Err g c =
    λ n r counts. refused (c.in-Err.ensures.no_code n r counts) (c.in-Err.ensures.no_room n r counts) (λ fits. fits.room)
