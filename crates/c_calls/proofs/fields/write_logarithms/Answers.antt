use Rattle.std.proofs.Common.{ℕ, ◌^◌, ◌<◌, get_or, refl, sym, ◌∙◌, ap, subst, arith}
use Rattle.any_field.specs.Contexts.{field_product}
use Rattle.c_calls.specs.ChosenFields.{HaveLogarithms, IsLogarithm, chosen_field}
use Rattle.c_calls.specs.Fields.{wide_number}
use Rattle.c_calls.proofs.Endings.{call_solved, call_unsolved, equations_misfit, refuted}
use Rattle.c_calls.proofs.LogarithmCalls.{one-logarithm-more}
use Rattle.c_calls.proofs.fields.write_logarithms.Goals as goal

pub returns-then-words-logarithms : goal.returns-then-words-logarithms
returns-then-words-logarithms c = equations_misfit c.if-words-logarithms.true

pub returns-then-not-have_logarithms : goal.returns-then-not-have_logarithms
returns-then-not-have_logarithms c =
    let field = chosen_field c.args.field.named in
    call_unsolved c.if-words-logarithms.false (
      c.is_element.ensures.0 c.if-not-is_element.false,
      c.are_elements.ensures.0 c.if-not-are_elements.false,
    )
    (λ all. refuted c.if-not-have_logarithms.true
    (c.have_logarithms.ensures.1 (subst (λ (n : ℕ). HaveLogarithms field n c.args.words.now) (sym c.stored-base_number.ensures) all))) refl

pub known_logarithm-exponent-requires-clause-fits : goal.known_logarithm-exponent-requires-clause-fits
known_logarithm-exponent-requires-clause-fits c =
    subst (λ (n : ℕ). n < 2 ^ c.args.field.named.degree) (sym (c.stored-x.ensures ∙ ap wide_number c.index-words-place.is))
    (c.are_elements.ensures.0 c.if-not-are_elements.false c.loop-place.place
    (omega (arith, c.if-words-logarithms.false, c.loop-place.auto.logarithms))
    c.index-words-place.result)

pub known_logarithm-exponent-requires-clause-power : goal.known_logarithm-exponent-requires-clause-power
known_logarithm-exponent-requires-clause-power c =
    let has = c.have_logarithms.ensures.0 c.if-not-have_logarithms.false c.loop-place.place
    (omega (arith, c.if-words-logarithms.false, c.loop-place.auto.logarithms)) c.index-words-place.result in
    (has.0, has.1 ∙ sym (c.stored-x.ensures ∙ ap wide_number c.index-words-place.is))

pub loop-place-preserved : goal.loop-place-preserved
loop-place-preserved c =
    let loop = c.loop-place in
    let times = field_product c.args.field.named.degree (wide_number c.args.field.named.tail) in
    let base = c.stored-base_number.result in
    one-logarithm-more times base c.args.words.now loop.logarithms loop.place c.index-words-place.result c.of_stored.result
    (omega (arith, c.if-words-logarithms.false, loop.auto.logarithms)) (omega (arith, loop.auto.logarithms)) c.index-words-place.is
    (subst (λ (e : ℕ). IsLogarithm times base (wide_number c.index-words-place.result) e) (sym c.of_stored.ensures)
    (subst (λ (x : ℕ). IsLogarithm times base x c.known_logarithm-exponent.result) c.stored-x.ensures c.known_logarithm-exponent.ensures))
    loop.invariant

pub returns : goal.returns
returns c =
    let field = chosen_field c.args.field.named in
    call_solved c.if-words-logarithms.false (
      c.is_element.ensures.0 c.if-not-is_element.false,
      c.are_elements.ensures.0 c.if-not-are_elements.false,
    )
    (subst (λ (n : ℕ). HaveLogarithms field n c.args.words.now) c.stored-base_number.ensures
    (c.have_logarithms.ensures.0 c.if-not-have_logarithms.false))
    (λ k within d. subst
    (λ (n : ℕ). IsLogarithm (field_product c.args.field.named.degree (wide_number c.args.field.named.tail)) n (wide_number (get_or c.args.words.now k d))
    (wide_number (get_or c.loop-place.logarithms k d)))
    c.stored-base_number.ensures (c.loop-place.invariant k (omega (arith, within)) d))
