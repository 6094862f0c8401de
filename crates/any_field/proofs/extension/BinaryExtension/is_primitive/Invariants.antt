use Rattle.std.proofs.Common.{◌≡◌, ◌≢◌, ℕ, ◌-◌, ◌/◌, ◌%◌, ◌^◌, ◌<◌}
use Rattle.std.specs.Prelude.{slice_index}
use Rattle.field_base.specs.Powers.{power}
use Rattle.any_field.specs.Contexts.{field_product}
use Rattle.any_field.specs.declared.extension.orders.literals.TheConstants.{PRIMES}
use Rattle.any_field.proofs.extension.BinaryExtension.is_primitive.Given as goal

-- the primes before this place pass
abbrev pub invariant-loop-place : goal.invariant-loop-place
invariant-loop-place l =
    (i : ℕ) → i < l.place → (2 ^ l.fn.self.degree - 1) % slice_index PRIMES i ≡ 0
    → power 1 (field_product l.fn.self.degree l.fn.self.tail) l.fn.x ((2 ^ l.fn.self.degree - 1) / slice_index PRIMES i) ≢ 1
