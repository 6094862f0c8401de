use Rattle.std.proofs.Common.{get_or, ◌∙◌, ap}
use Rattle.any_field.specs.Contexts.{field_product}
use Rattle.c_calls.specs.Fields.{wide_number}
use Rattle.c_calls.proofs.chosen_words.ChosenWordsScalarWords.multiply_by.Goals as goal

pub returns-then-words-lt-MAPPED-clause-products : goal.returns-then-words-lt-MAPPED-clause-products
returns-then-words-lt-MAPPED-clause-products c k below d =
    let self = c.args.self in
    c.multiply_few.ensures.products k below d
    ∙ ap (field_product self.named.degree (wide_number self.named.tail) (wide_number (get_or c.args.words.now k d))) c.stored.ensures

pub returns-else-words-lt-MAPPED-clause-products : goal.returns-else-words-lt-MAPPED-clause-products
returns-else-words-lt-MAPPED-clause-products c k below d =
    let self = c.args.self in
    c.multiply_by_tables.ensures.products k below d
    ∙ ap (field_product self.named.degree (wide_number self.named.tail) (wide_number (get_or c.args.words.now k d)))
    c.stored-else-words-lt-MAPPED.ensures
