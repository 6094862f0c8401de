use Rattle.std.proofs.Common.{ℕ, sym, ◌∙◌}
use Rattle.any_field.specs.Contexts.{field_product}
use Rattle.c_calls.specs.Fields.{wide_number}
use Rattle.c_calls.specs.lemmas.Named.{by-words}
use Rattle.c_calls.specs.ChosenElements.{IsOrderIfAny}
use Rattle.c_calls.proofs.ChosenRings.{stored-low}
use Rattle.c_calls.proofs.field_operations.OrderedAtOneChosenWords.at.Goals as goal

pub returns-in-Some : goal.returns-in-Some
returns-in-Some c =
    let field = c.args.field in
    let named = field.named in
    let times = field_product named.degree (wide_number named.tail) in
    let found = c.in-Some.ensures in
    by-words (wide_number c.args.x) (wide_number c.of_stored.result) (IsOrderIfAny times) c.stored.ensures (sym c.of_stored.ensures)
    (by-words named.degree (wide_number named.tail) (λ (d t : ℕ). IsOrderIfAny (field_product d t) c.stored.result c.in-Some.order) field.degree
    field.tail (
      λ zero. absurd (found.some (stored-low field c.stored.result c.stored.ensures c.requires ∙ zero)),
      λ _. (found.one.0, found.one.1, found.order),
    ))

pub returns-in-None : goal.returns-in-None
returns-in-None c =
    let low = stored-low c.args.field c.stored.result c.stored.ensures c.requires in
    (λ _. c.of_stored-in-None.ensures, λ other. absurd (other (sym c.stored.ensures ∙ sym low ∙ c.in-None.ensures.none)))
