use Rattle.std.proofs.Common.{ℕ, ◌%◌, ◌^◌, ◌<◌, sym, subst, ◌∙◌, ap}
use native.Mathlib.Nat.{mod-eq_of_lt}
use Rattle.any_field.specs.Contexts.{field_product}
use Rattle.any_field.specs.Values.{binary_value}
use Rattle.c_calls.specs.Fields.{wide_number}
use Rattle.c_calls.proofs.field_operations.EmbeddedAtOneChosenWords.at.Goals as goal

pub returns : goal.returns
returns c same =
    let map = c.args.self.now.map in
    let x = wide_number c.args.x in
    let fits : x < 2 ^ map.source.degree = subst (λ (d : ℕ). x < 2 ^ d) (sym same) c.requires in
    c.of_stored.ensures ∙ c.image.ensures
    ∙ ap (binary_value (field_product map.target.degree map.target.tail) map.root)
    (ap (λ (n : ℕ). n % 2 ^ map.source.degree) c.stored.ensures ∙ mod-eq_of_lt fits)
