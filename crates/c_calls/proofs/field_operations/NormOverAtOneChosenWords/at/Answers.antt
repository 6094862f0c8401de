use Rattle.std.proofs.Common.{◌≡◌, ℕ, ◌%◌, sym, subst}
use Rattle.any_field.specs.Contexts.{field_product}
use Rattle.c_calls.specs.Fields.{wide_number}
use Rattle.c_calls.specs.lemmas.Named.{by-words}
use Rattle.c_calls.specs.ChosenElements.{IsNormOver}
use Rattle.c_calls.proofs.field_operations.NormOverAtOneChosenWords.at.Goals as goal

pub returns-in-Some : goal.returns-in-Some
returns-in-Some c _ =
    let field = c.args.field in
    let named = field.named in
    let degree = c.args.self.now.degree in
    by-words (wide_number c.args.x) (wide_number c.of_stored.result)
    (IsNormOver named.degree (field_product named.degree (wide_number named.tail)) degree) c.stored.ensures (sym c.of_stored.ensures)
    (by-words named.degree (wide_number named.tail) (λ (d t : ℕ). IsNormOver d (field_product d t) degree c.stored.result c.in-Some.norm)
    field.degree field.tail (c.in-Some.ensures.norm, c.in-Some.ensures.subfield))

pub returns-in-None : goal.returns-in-None
returns-in-None c divides =
    absurd (c.in-None.ensures.none (subst (λ (d : ℕ). d % c.args.self.now.degree ≡ 0) (sym c.args.field.degree) divides))
