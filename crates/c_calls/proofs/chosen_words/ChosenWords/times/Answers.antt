use Rattle.std.proofs.Common.{◌≡◌, ℕ}
use Rattle.any_field.specs.Contexts.{field_product}
use Rattle.c_calls.specs.Fields.{wide_number}
use Rattle.c_calls.specs.lemmas.Named.{by-words}
use Rattle.c_calls.proofs.chosen_words.ChosenWords.times.Goals as goal

pub returns : goal.returns
returns c =
    let self = c.args.self in
    by-words self.named.degree (wide_number self.named.tail) (λ (d t : ℕ). c.multiply.result ≡ field_product d t c.args.x c.args.y) self.degree
    self.tail c.multiply.ensures
