use Rattle.std.proofs.Common.{◌-◌, ◌^◌}
use Rattle.any_field.specs.Contexts.{field_product}
use Rattle.any_field.proofs.LogarithmSteps.{IsWalk}
use Rattle.any_field.proofs.extension.BinaryExtension.logarithm.Given as goal

-- no power so far is the element
abbrev pub invariant-loop-power : goal.invariant-loop-power
invariant-loop-power l = IsWalk l.fn.self.degree (field_product l.fn.self.degree l.fn.self.tail) l.fn.base l.x l.exponent l.power

abbrev pub decreases-loop-power : goal.decreases-loop-power
decreases-loop-power l = 2 ^ l.fn.self.degree - l.exponent
