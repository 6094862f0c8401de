use Rattle.std.proofs.Common.{List, get_or, ◌∙◌, ap, ap₂}
use Rattle.any_field.specs.Contexts.{field_product}
use Rattle.c_calls.specs.Fields.{wide_number}
use Rattle.c_calls.specs.declared.wide.Wide.{Wide}
use Rattle.c_calls.proofs.chosen_words.ChosenWordsScalarWords.write_multiples.Goals as goal

pub returns : goal.returns
returns c k below d =
    let self = c.args.self in
    c.multiply_by_tables.ensures.products k below d
    ∙ ap₂ (field_product self.named.degree (wide_number self.named.tail))
    (ap (λ (xs : List Wide). wide_number (get_or xs k d)) c.copy_from_slice.ensures.after) c.stored.ensures
