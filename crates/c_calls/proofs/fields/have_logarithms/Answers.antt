use Rattle.std.proofs.Common.{◌≡◌, ℕ, get_or, below_more, sym, ◌∙◌, ap, arith}
use Rattle.std.proofs.lemmas.Bool.{false≢true}
use Rattle.std.proofs.lemmas.List.{get_or_default}
use Rattle.field_base.specs.Powers.{power}
use Rattle.any_field.specs.Contexts.{field_product}
use Rattle.c_calls.specs.Fields.{wide_number}
use Rattle.c_calls.specs.declared.wide.Wide.{Wide}
use Rattle.c_calls.proofs.fields.have_logarithms.Goals as goal

pub returns-in-None : goal.returns-in-None
returns-in-None c = (
  λ yes. absurd (false≢true yes),
  λ all.
      let word = c.index-words-place.result in
      let has = all c.loop-place.place (omega arith) word in
      absurd (c.in-None.ensures.none has.0 (has.1 ∙ sym (c.stored-x.ensures ∙ ap wide_number c.index-words-place.is))),
)

pub loop-place-preserved : goal.loop-place-preserved
loop-place-preserved c =
    let words = c.args.words.now in
    let place = c.loop-place.place in
    let word = c.index-words-place.result in
    below_more
    (λ k. (d : Wide) → (e : ℕ) × (power 1 (field_product c.args.field.named.degree (wide_number c.args.field.named.tail)) c.args.base e ≡ wide_number (get_or words k d)))
    place c.loop-place.invariant
    (λ d. (
      _,
      c.in-Some.ensures.found.0 ∙ c.stored-x.ensures
          ∙ ap wide_number (c.index-words-place.is ∙ sym (get_or_default words place d word (omega arith))),
    ))
