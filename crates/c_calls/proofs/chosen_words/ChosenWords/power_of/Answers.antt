use Rattle.std.proofs.Common.{◌≡◌, ℕ, ◌∙◌, ap₂}
use Rattle.field_base.specs.Powers.{power}
use Rattle.any_field.specs.Contexts.{field_product}
use Rattle.c_calls.specs.Fields.{wide_number}
use Rattle.c_calls.specs.lemmas.Named.{by-words}
use Rattle.c_calls.proofs.chosen_words.ChosenWords.power_of.Goals as goal

pub returns : goal.returns
returns c =
    let self = c.args.self in
    c.of_stored.ensures
    ∙ by-words self.named.degree (wide_number self.named.tail)
    (λ (d t : ℕ). c.power.result ≡ power 1 (field_product d t) c.stored.result c.from.result) self.degree self.tail c.power.ensures
    ∙ ap₂ (power 1 (field_product self.named.degree (wide_number self.named.tail))) c.stored.ensures c.from.ensures
