use Rattle.std.proofs.Common.{◌≡◌, ℕ, ◌<◌, get_or}
use Rattle.field_base.specs.Powers.{power}
use Rattle.any_field.specs.Contexts.{field_product}
use Rattle.c_calls.specs.Fields.{wide_number}
use Rattle.c_calls.proofs.fields.have_logarithms.Given as goal

-- the words before this place have logarithms
abbrev pub invariant-loop-place : goal.invariant-loop-place
invariant-loop-place l =
    (k : ℕ) → k < l.place → (d : _)
    → (e : ℕ) × (power 1 (field_product l.fn.field.named.degree (wide_number l.fn.field.named.tail)) l.base e ≡ wide_number (get_or l.words k d))
