use Rattle.std.proofs.Common.{ℕ, get_or, ◌∙◌, ap}
use Rattle.std.specs.Prelude.{bit_xor}
use Rattle.any_field.specs.Contexts.{field_product}
use Rattle.c_calls.specs.Fields.{wide_number}
use Rattle.c_calls.proofs.ChosenRings.{chosen-ring}
use Rattle.c_calls.proofs.chosen_words.ChosenWordsScalarWords.add_scaled.Goals as goal

pub returns-then-sums-lt-MAPPED-clause-sums : goal.returns-then-sums-lt-MAPPED-clause-sums
returns-then-sums-lt-MAPPED-clause-sums c k below d =
    let self = c.args.self in
    let times = field_product self.named.degree (wide_number self.named.tail) in
    let x = wide_number (get_or c.args.words.now k d) in
    c.add_products.ensures.sums k below d
    ∙ ap (bit_xor (wide_number (get_or c.args.sums.now k d)))
    ((chosen-ring self).comm x c.stored.result ∙ ap (λ (s : ℕ). times s x) c.stored.ensures)

pub returns-else-sums-lt-MAPPED-clause-sums : goal.returns-else-sums-lt-MAPPED-clause-sums
returns-else-sums-lt-MAPPED-clause-sums c k below d =
    let self = c.args.self in
    let times = field_product self.named.degree (wide_number self.named.tail) in
    let x = wide_number (get_or c.args.words.now k d) in
    let scalar = c.stored-else-sums-lt-MAPPED in
    c.add_by_tables.ensures.sums k below d
    ∙ ap (bit_xor (wide_number (get_or c.args.sums.now k d)))
    ((chosen-ring self).comm x scalar.result ∙ ap (λ (s : ℕ). times s x) scalar.ensures)
