use Rattle.std.proofs.Common.{◌≡◌, ℕ, ◌∙◌, ap}
use Rattle.field_base.specs.Powers.{sum_of_squarings}
use Rattle.any_field.specs.Contexts.{field_product}
use Rattle.c_calls.specs.Fields.{wide_number}
use Rattle.c_calls.specs.lemmas.Named.{by-words}
use Rattle.c_calls.proofs.field_operations.TracedAtOneChosenWords.at.Goals as goal

pub returns : goal.returns
returns c =
    let named = c.args.field.named in
    c.of_stored.ensures
    ∙ by-words named.degree (wide_number named.tail)
    (λ (d t : ℕ). c.trace.result ≡ sum_of_squarings 1 (field_product d t) d c.stored.result) c.args.field.degree c.args.field.tail
    c.trace.ensures.trace
    ∙ ap (sum_of_squarings 1 (field_product named.degree (wide_number named.tail)) named.degree) c.stored.ensures
