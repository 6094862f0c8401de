use Rattle.std.proofs.Common.{◌≡◌, ◌≢◌, ℕ, ◌%◌, ◌∙◌}
use Rattle.c_calls.specs.Fields.{wide_number}
use Rattle.c_calls.specs.lemmas.Named.{by-words}
use Rattle.c_calls.proofs.ChosenCalls.{root-found, root-none}
use Rattle.c_calls.proofs.fields.write_root.Goals as goal

pub returns-in-None : goal.returns-in-None
returns-in-None c =
    let source = c.args.source in
    let target = c.args.target in
    root-none source.named.degree (wide_number source.named.tail) target.named.degree (wide_number target.named.tail)
    (by-words source.named.degree target.named.degree (λ (s t : ℕ). t % s ≢ 0) source.degree target.degree c.in-None.ensures.none)

pub returns-in-Some : goal.returns-in-Some
returns-in-Some c =
    let source = c.args.source in
    let target = c.args.target in
    let map = c.in-Some.map in
    let fields = c.in-Some.ensures.fields in
    root-found source.named.degree (wide_number source.named.tail) target.named.degree (wide_number target.named.tail) c.root.result
    map.source.degree map.source.tail map.target.degree map.target.tail map.root (fields.0 ∙ source.degree) (fields.1 ∙ source.tail)
    (fields.2 ∙ target.degree) (fields.3 ∙ target.tail)
    (by-words source.named.degree target.named.degree (λ (s t : ℕ). t % s ≡ 0) source.degree target.degree c.in-Some.ensures.some)
    c.root.ensures.element c.root.ensures.root c.of_stored.result c.of_stored.ensures
