use Rattle.std.proofs.Common.{◌≡◌, ℕ, ◌∙◌}
use Rattle.field_base.specs.Powers.{dot_of}
use Rattle.any_field.specs.Contexts.{field_product}
use Rattle.c_calls.specs.Fields.{wide_number}
use Rattle.c_calls.specs.lemmas.Named.{by-words}
use Rattle.c_calls.proofs.chosen_words.ChosenWordsScalarWords.dot_product.Goals as goal

pub returns : goal.returns
returns c =
    let self = c.args.self in
    c.of_stored.ensures
    ∙ by-words self.named.degree (wide_number self.named.tail)
    (λ (d t : ℕ). c.dot_product_of_words.result ≡ dot_of (field_product d t) wide_number c.args.left.now c.args.right.now) self.degree self.tail
    c.dot_product_of_words.ensures
