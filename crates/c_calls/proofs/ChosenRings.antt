-- The field of the words that a caller chooses.
use Rattle.std.proofs.Common.{◌≡◌, ℕ, ◌%◌, ◌^◌, ◌<◌, sym, subst}
use native.Mathlib.Nat.{mod-eq_of_lt}
use Rattle.field_base.specs.Ring.{IsRing}
use Rattle.any_field.specs.Contexts.{field_product}
use Rattle.any_field.proofs.WordRemainders.{context-ring}
use Rattle.c_calls.specs.Fields.{wide_number}
use Rattle.c_calls.specs.lemmas.Named.{by-words}
use Rattle.c_calls.specs.declared.chosen_words.ChosenWords.{ChosenWords}

-- its product is that of a ring
pub chosen-ring : (chosen : ChosenWords) → IsRing chosen.named.degree 1 (field_product chosen.named.degree (wide_number chosen.named.tail))
chosen-ring chosen =
    by-words chosen.named.degree (wide_number chosen.named.tail) (λ (d t : ℕ). IsRing d 1 (field_product d t)) chosen.degree chosen.tail
    (context-ring chosen.field.degree chosen.field.tail chosen.field.ratio chosen.field.context)

-- a number that an element is read as has no bits above the field
pub stored-low : (chosen : ChosenWords) (number : ℕ) {x : ℕ} → number ≡ x → x < 2 ^ chosen.named.degree
    → number % 2 ^ chosen.field.degree ≡ number
stored-low chosen number is fits =
    mod-eq_of_lt (subst (λ (d : ℕ). number < 2 ^ d) (sym chosen.degree)
    (subst (λ (n : ℕ). n < 2 ^ chosen.named.degree) (sym is) fits))
