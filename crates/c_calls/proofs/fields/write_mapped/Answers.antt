use Rattle.std.proofs.Common.{◌≡◌, ℕ}
use Rattle.any_field.specs.Contexts.{field_product}
use Rattle.any_field.specs.Values.{binary_value}
use Rattle.c_calls.specs.ChosenFields.{chosen_field}
use Rattle.c_calls.proofs.ChosenCalls.{each-given}
use Rattle.c_calls.proofs.fields.write_mapped.Goals as goal

pub returns-then-bits-lt-TABLED : goal.returns-then-bits-lt-TABLED
returns-then-bits-lt-TABLED c =
    let map = c.args.map in
    each-given (chosen_field c.args.source.named) c.args.words.now (λ (x y : ℕ). y ≡ binary_value (field_product map.target.degree map.target.tail) map.root x) c.requires c.write_each.ensures
