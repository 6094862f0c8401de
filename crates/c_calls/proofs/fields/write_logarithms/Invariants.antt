use Rattle.std.proofs.Common.{ℕ, ◌<◌, get_or}
use Rattle.any_field.specs.Contexts.{field_product}
use Rattle.c_calls.specs.ChosenFields.{IsLogarithm}
use Rattle.c_calls.specs.Fields.{wide_number}
use Rattle.c_calls.proofs.fields.write_logarithms.Given as goal

-- the places before this one hold their logarithms
abbrev pub invariant-loop-place : goal.invariant-loop-place
invariant-loop-place l =
    (k : ℕ) → k < l.place → (d : _)
    → IsLogarithm (field_product l.field.named.degree (wide_number l.field.named.tail)) l.base_number (wide_number (get_or l.words k d))
    (wide_number (get_or l.logarithms k d))
