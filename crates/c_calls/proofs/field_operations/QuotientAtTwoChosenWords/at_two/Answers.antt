use Rattle.std.proofs.Common.{◌≡◌, ℕ, ◌%◌, ◌^◌, ◌<◌, sym, subst, ◌∙◌, ap, ap₂}
use Rattle.std.proofs.lemmas.Nat.{pow_pos}
use native.Mathlib.Nat.{mod-eq_of_lt}
use Rattle.any_field.specs.Contexts.{field_product}
use Rattle.c_calls.specs.Fields.{wide_number}
use Rattle.c_calls.specs.lemmas.Named.{by-words}
use Rattle.c_calls.proofs.ChosenRings.{stored-low}
use Rattle.c_calls.proofs.field_operations.QuotientAtTwoChosenWords.at_two.Goals as goal

pub returns-in-Some : goal.returns-in-Some
returns-in-Some c =
    let field = c.args.field in
    let named = field.named in
    let times = field_product named.degree (wide_number named.tail) in
    let q = c.in-Some.quotient in
    let found = c.in-Some.ensures.quotient in (
      subst (λ (n : ℕ). n < 2 ^ named.degree) (sym c.of_stored.ensures) (subst (λ (d : ℕ). q < 2 ^ d) field.degree found.0),
      λ _. ap₂ times c.of_stored.ensures (sym c.stored-2.ensures)
          ∙ by-words named.degree (wide_number named.tail)
          (λ (d t : ℕ). field_product d t q c.stored-2.result ≡ c.stored.result % 2 ^ d) field.degree field.tail found.1
          ∙ ap (λ (n : ℕ). n % 2 ^ named.degree) c.stored.ensures ∙ mod-eq_of_lt c.requires.left,
      λ zero. absurd (found.2 (stored-low field c.stored-2.result c.stored-2.ensures c.requires.right ∙ c.stored-2.ensures ∙ zero)),
    )

pub returns-in-None : goal.returns-in-None
returns-in-None c =
    let field = c.args.field in
    let low = stored-low field c.stored-2.result c.stored-2.ensures c.requires.right in (
      subst (λ (n : ℕ). n < 2 ^ field.named.degree) (sym c.of_stored-in-None.ensures) (pow_pos field.named.degree),
      λ other. absurd (other (sym c.stored-2.ensures ∙ sym low ∙ c.in-None.ensures.none)),
      λ _. c.of_stored-in-None.ensures,
    )
