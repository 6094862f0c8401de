use Rattle.std.proofs.Common.{◌≡◌, ℕ, refl, ap, ◌∙◌, subst}
use Rattle.any_field.specs.Contexts.{field_product}
use Rattle.any_field.specs.Values.{binary_value}
use Rattle.any_field.specs.declared.extension.embeddings.Embedding.{Embedding}
use Rattle.c_calls.specs.Calls.{CallOnEach}
use Rattle.c_calls.specs.ChosenFields.{chosen_field}
use Rattle.c_calls.proofs.ChosenCalls.{each-given}
use Rattle.c_calls.proofs.fields.write_tabled.Goals as goal

pub invariant_of-operation : goal.invariant_of-operation
invariant_of-operation c = record { same = ap (λ (m : Embedding). m.source.degree) c.images.ensures ∙ c.requires }

pub returns : goal.returns
returns c =
    subst
    (λ (m : Embedding). CallOnEach (chosen_field c.args.source.named)
    (λ x y. y ≡ binary_value (field_product m.target.degree m.target.tail) m.root x) c.args.words.now c.args.images.now
    c.write_each.new.results c.write_each.result)
    c.images.ensures
    (let map = c.images.result.map in
    each-given (chosen_field c.args.source.named) c.args.words.now (λ (x y : ℕ). y ≡ binary_value (field_product map.target.degree map.target.tail) map.root x) refl c.write_each.ensures)
