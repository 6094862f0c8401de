use Rattle.std.proofs.Common.{◌-◌, take, refl, sym, ◌∙◌, arith}
use Rattle.std.specs.Prelude.{nat_eq, not, slice_index}
use Rattle.std.proofs.lemmas.Bool.{false≢true}
use Rattle.reed_solomon.specs.ByteFields.{byte_times}
use Rattle.error_codes.specs.Filling.{is_marked}
use Rattle.error_codes.proofs.Meanings.{marks-same}
use Rattle.c_calls.proofs.FlaggedPlaces.{marks-fit, meant-again}
use Rattle.c_calls.proofs.codes.correct_word.Goals as goal

pub overflow_cast-result : goal.overflow_cast-result
overflow_cast-result c =
    let few = marks-fit (is_marked c.in-Ok.corrected.changed) c.args.code.now.word_length in
    let short = c.args.code.now.short in
    let count = c.in-Ok.ensures.count in
    omega (arith, few, short, count)

pub returns-in-Ok-clause-corrected : goal.returns-in-Ok-clause-corrected
returns-in-Ok-clause-corrected c =
    let code = c.args.code.now in
    let n = code.word_length in
    let few = marks-fit (is_marked c.in-Ok.corrected.changed) n in
    let short = code.short in
    let count = c.in-Ok.ensures.count in
    let listed = take c.list_places-count.result c.list_places-count.new.places in
    record {
      found = λ sent meant. (
        λ none. absurd (omega (arith, few, short, count, none)),
        (c.in-Ok.ensures.found sent
            (meant-again 8 (byte_times code.field) code.root code.first_root n (n - code.dimension) c.args.word.now sent meant.0 listed
            (λ i below. meant.1 i below ∙ sym (c.list_places-count.ensures.listed i)) meant.2)).1,
      );
      right = λ _. (
        (listed, λ i below. c.list_places-count.ensures.listed i, c.in-Ok.ensures.right),
        count ∙ marks-same (is_marked c.in-Ok.corrected.changed) (λ i. not (nat_eq (slice_index c.args.word.now i) (slice_index c.correct.new.word i))) n c.in-Ok.ensures.within,
      );
      kept = λ none. absurd (omega (arith, few, short, count, none));
    }

pub returns-in-Err-clause-corrected : goal.returns-in-Err-clause-corrected
returns-in-Err-clause-corrected c =
    let code = c.args.code.now in
    let n = code.word_length in
    let listed = take c.list_places-count.result c.list_places-count.new.places in
    record {
      found = λ sent meant.
          absurd (false≢true (c.in-Err.ensures.found sent
          (meant-again 8 (byte_times code.field) code.root code.first_root n (n - code.dimension) c.args.word.now sent meant.0 listed
          (λ i below. meant.1 i below ∙ sym (c.list_places-count.ensures.listed i)) meant.2)).0);
      right = λ some. absurd (some refl);
      kept = λ _. c.in-Err.ensures.kept;
    }
