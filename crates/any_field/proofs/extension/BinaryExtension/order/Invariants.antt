use Rattle.std.proofs.Common.{◌-◌, ◌^◌}
use Rattle.field_base.specs.Powers.{power}
use Rattle.any_field.proofs.OrderFactors.{IsOrderSoFar}
use Rattle.any_field.specs.Contexts.{field_product}
use Rattle.any_field.specs.declared.extension.orders.literals.TheConstants.{PRIMES}
use Rattle.any_field.proofs.extension.BinaryExtension.order.Given as goal

-- the primes before this place are taken out
abbrev pub invariant-loop-place : goal.invariant-loop-place
invariant-loop-place l =
    IsOrderSoFar (power 1 (field_product l.fn.self.degree l.fn.self.tail) l.fn.x) (2 ^ l.fn.self.degree - 1) PRIMES l.place l.order
