use Rattle.std.proofs.Common.{◌≡◌, ℕ, ◌%◌, ◌^◌, ◌<◌, sym, subst, ◌∙◌, ap, ap₂}
use native.Mathlib.Nat.{mod-eq_of_lt}
use Rattle.any_field.specs.Contexts.{field_product}
use Rattle.c_calls.specs.Fields.{wide_number}
use Rattle.c_calls.specs.lemmas.Named.{by-words}
use Rattle.c_calls.proofs.chosen_words.ChosenWordsScalarWords.square_root.Goals as goal

pub returns-clause-fits : goal.returns-clause-fits
returns-clause-fits c =
    subst (λ (n : ℕ). n < 2 ^ c.args.self.named.degree) (sym c.of_stored.ensures)
    (subst (λ (d : ℕ). c.square_root.result < 2 ^ d) c.args.self.degree c.square_root.ensures.fits)

pub returns-clause-root : goal.returns-clause-root
returns-clause-root c =
    let self = c.args.self in
    let root = c.square_root.result in
    ap₂ (field_product self.named.degree (wide_number self.named.tail)) c.of_stored.ensures c.of_stored.ensures
    ∙ by-words self.named.degree (wide_number self.named.tail) (λ (d t : ℕ). field_product d t root root ≡ c.stored.result % 2 ^ d) self.degree
    self.tail c.square_root.ensures.root
    ∙ ap (λ (x : ℕ). x % 2 ^ self.named.degree) c.stored.ensures ∙ mod-eq_of_lt c.requires
