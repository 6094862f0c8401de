use Rattle.std.proofs.Common.{ℕ, ◌%◌, ◌^◌, ◌<◌, sym, subst, ◌∙◌, ap}
use native.Mathlib.Nat.{mod-eq_of_lt}
use Rattle.field_base.specs.Field.{IsInverseOrZero}
use Rattle.any_field.specs.Contexts.{field_product}
use Rattle.c_calls.specs.Fields.{wide_number}
use Rattle.c_calls.specs.lemmas.Named.{by-words}
use Rattle.c_calls.proofs.chosen_words.ChosenWords.inverse_of.Goals as goal

pub returns-clause-fits : goal.returns-clause-fits
returns-clause-fits c =
    subst (λ (n : ℕ). n < 2 ^ c.args.self.named.degree) (sym c.of_stored.ensures)
    (subst (λ (d : ℕ). c.invert.result < 2 ^ d) c.args.self.degree c.invert.ensures.fits)

pub returns-clause-inverse : goal.returns-clause-inverse
returns-clause-inverse c =
    let self = c.args.self in
    let times = field_product self.named.degree (wide_number self.named.tail) in
    subst (λ (y : ℕ). IsInverseOrZero times (wide_number c.args.x) y) (sym c.of_stored.ensures)
    (subst (λ (x : ℕ). IsInverseOrZero times x c.invert.result)
    (ap (λ (x : ℕ). x % 2 ^ self.named.degree) c.stored.ensures ∙ mod-eq_of_lt c.requires)
    (by-words self.named.degree (wide_number self.named.tail)
    (λ (d t : ℕ). IsInverseOrZero (field_product d t) (c.stored.result % 2 ^ d) c.invert.result) self.degree self.tail c.invert.ensures.inverse))
