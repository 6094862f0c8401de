use Rattle.std.proofs.Common.{◌≡◌, ℕ, map, sym, ◌∙◌}
use Rattle.std.specs.Simd.Lanes.{zip2}
use Rattle.any_field.specs.Contexts.{field_product}
use Rattle.c_calls.specs.Fields.{wide_number}
use Rattle.c_calls.specs.lemmas.Named.{by-words}
use Rattle.c_calls.proofs.ChosenCalls.{products-at}
use Rattle.c_calls.proofs.chosen_words.ChosenWordsScalarWords.multiply_each.Goals as goal

pub returns-clause-products : goal.returns-clause-products
returns-clause-products c =
    let self = c.args.self in
    let words = c.args.words.now in
    let others = c.args.others.now in
    let call = c.multiply_words in
    products-at (field_product self.named.degree (wide_number self.named.tail)) words others call.new.words (sym call.ensures.long)
    (c.requires ∙ sym call.ensures.long)
    (by-words self.named.degree (wide_number self.named.tail)
    (λ (d t : ℕ). map wide_number call.new.words ≡ zip2 (field_product d t) (map wide_number words) (map wide_number others)) self.degree
    self.tail call.ensures.products)
