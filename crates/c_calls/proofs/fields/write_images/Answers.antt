use Rattle.std.proofs.Common.{◌≢◌, ℕ, ◌∙◌}
use Rattle.any_field.specs.Contexts.{field_product, with_top}
use Rattle.any_field.specs.Values.{binary_value}
use Rattle.c_calls.specs.Fields.{wide_number}
use Rattle.c_calls.specs.lemmas.Named.{by-words}
use Rattle.c_calls.proofs.ChosenCalls.{embeds-by, embeds-none}
use Rattle.c_calls.proofs.fields.write_images.Goals as goal

pub write_mapped-requires : goal.write_mapped-requires
write_mapped-requires c = c.in-Some.ensures.fields.0 ∙ c.args.source.degree

pub returns-in-None : goal.returns-in-None
returns-in-None c =
    let source = c.args.source in
    let target = c.args.target in
    let root = c.stored.result in
    let to = target.field in
    embeds-none source.named.degree (wide_number source.named.tail) target.named.degree (wide_number target.named.tail) c.args.root root
    c.stored.ensures
    (by-words target.named.degree (wide_number target.named.tail)
    (λ (d t : ℕ). binary_value (field_product d t) root (with_top source.named.degree (wide_number source.named.tail)) ≢ 0) target.degree
    target.tail
    (by-words source.named.degree (wide_number source.named.tail)
    (λ (d t : ℕ). binary_value (field_product to.degree to.tail) root (with_top d t) ≢ 0) source.degree source.tail c.in-None.ensures.none))

pub returns-in-Some : goal.returns-in-Some
returns-in-Some c =
    let source = c.args.source in
    let target = c.args.target in
    let map = c.in-Some.map in
    let fields = c.in-Some.ensures.fields in
    embeds-by source.named.degree (wide_number source.named.tail) target.named.degree (wide_number target.named.tail) c.args.root
    c.stored.result c.stored.ensures map.source.degree map.source.tail map.target.degree map.target.tail map.root (fields.0 ∙ source.degree)
    (fields.1 ∙ source.tail) (fields.2 ∙ target.degree) (fields.3 ∙ target.tail) fields.4 map.is_root c.is_embedding.ensures
    c.write_mapped.ensures
