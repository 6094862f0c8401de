use Rattle.std.proofs.Common.{ℕ, ◌<◌}
use Rattle.field_base.specs.Orders.{HasFullOrder}
use Rattle.any_field.specs.Contexts.{field_product}
use Rattle.any_field.specs.Orders.{TableIsPrime}
use Rattle.c_calls.specs.Fields.{wide_number}
use Rattle.c_calls.specs.lemmas.Named.{by-words}
use Rattle.c_calls.proofs.ChosenCalls.{primitive-found, primitive-none}
use Rattle.c_calls.proofs.fields.write_primitive.Goals as goal

pub returns-in-None : goal.returns-in-None
returns-in-None c =
    let field = c.args.field in
    let degree = field.named.degree in
    let tail = wide_number field.named.tail in
    primitive-none degree tail
    (by-words degree tail (λ (d t : ℕ). (y : ℕ) → y < 65536 → HasFullOrder d (field_product d t) y → ⊥) field.degree field.tail
    c.in-None.ensures.none)

pub returns-in-Some : goal.returns-in-Some
returns-in-Some c =
    let field = c.args.field in
    let degree = field.named.degree in
    let tail = wide_number field.named.tail in
    let found = c.in-Some.found in
    primitive-found degree tail found c.of_stored.result c.of_stored.ensures
    (by-words degree tail (λ (d t : ℕ). TableIsPrime → HasFullOrder d (field_product d t) found) field.degree field.tail
    c.in-Some.ensures.primitive)
    (by-words degree tail (λ (d t : ℕ). (y : ℕ) → y < found → HasFullOrder d (field_product d t) y → ⊥) field.degree field.tail
    c.in-Some.ensures.least)
