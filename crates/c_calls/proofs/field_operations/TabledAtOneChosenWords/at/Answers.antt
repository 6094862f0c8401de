use Rattle.std.proofs.Common.{ℕ, ◌^◌, ◌<◌, sym, subst, ◌∙◌, ap}
use native.Mathlib.Nat.{mod-eq_of_lt}
use Rattle.any_field.specs.Contexts.{field_product}
use Rattle.any_field.specs.Values.{binary_value}
use Rattle.c_calls.specs.Fields.{wide_number}
use Rattle.c_calls.specs.lemmas.Low.{low_number-lt}
use Rattle.c_calls.proofs.field_operations.TabledAtOneChosenWords.at.Goals as goal

pub of-requires : goal.of-requires
of-requires c =
    let operation = c.args.self.now in
    let degree = operation.source.named.degree in
    subst (λ (d : ℕ). c.low_bits.result < 2 ^ d) (sym operation.same)
    (subst (λ (n : ℕ). n < 2 ^ degree) (sym c.low_bits.ensures) (low_number-lt wide_number degree c.args.x))

pub returns : goal.returns
returns c same =
    let map = c.args.self.now.images.map in
    let x = wide_number c.args.x in
    c.of_stored.ensures ∙ c.of.ensures
    ∙ ap (binary_value (field_product map.target.degree map.target.tail) map.root)
    (c.low_bits.ensures ∙ mod-eq_of_lt (subst (λ (d : ℕ). x < 2 ^ d) (sym same) c.requires))
