use Rattle.std.proofs.Common.{◌≡◌, ℕ, ◌^◌, ◌<◌, sym, subst, ◌∙◌, ap}
use Rattle.any_field.specs.Contexts.{field_product}
use Rattle.field_base.proofs.RingLemmas.{mod-times}
use Rattle.c_calls.specs.Fields.{wide_number}
use Rattle.c_calls.specs.lemmas.Low.{low_number-lt}
use Rattle.c_calls.specs.lemmas.Named.{by-words}
use Rattle.c_calls.proofs.ChosenRings.{chosen-ring}
use Rattle.c_calls.proofs.chosen_words.ChosenWords.product_by.Goals as goal

pub of-requires : goal.of-requires
of-requires c =
    let degree = c.args.self.named.degree in
    subst (λ (d : ℕ). c.low_bits.result < 2 ^ d) (sym (c.requires.degree ∙ c.args.self.degree))
    (subst (λ (n : ℕ). n < 2 ^ degree) (sym c.low_bits.ensures) (low_number-lt wide_number degree c.args.word))

pub returns : goal.returns
returns c =
    let self = c.args.self in
    let degree = self.named.degree in
    let times = field_product degree (wide_number self.named.tail) in
    let scalar = c.args.multiples.now.scalar in
    by-words degree (wide_number self.named.tail) (λ (d t : ℕ). c.of.result ≡ field_product d t c.low_bits.result scalar)
    (c.requires.degree ∙ self.degree) (c.requires.tail ∙ self.tail) c.of.ensures
    ∙ ap (λ (x : ℕ). times x scalar) c.low_bits.ensures ∙ mod-times degree 1 times (chosen-ring self) (wide_number c.args.word) scalar
