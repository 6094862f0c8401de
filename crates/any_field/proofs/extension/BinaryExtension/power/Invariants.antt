use Rattle.std.proofs.Common.{◌≡◌, ◌^◌, ◌<◌}
use Rattle.field_base.specs.Powers.{power}
use Rattle.any_field.specs.Contexts.{field_product}
use Rattle.any_field.proofs.extension.BinaryExtension.power.Given as goal

-- what is left to multiply, times what is there, is the whole power
abbrev pub invariant-loop-rest : goal.invariant-loop-rest
invariant-loop-rest l =
    let times = field_product l.fn.self.degree l.fn.self.tail in
    record { whole : times l.value (power 1 times l.base l.rest) ≡ power 1 times l.fn.x l.fn.exponent; fits : l.value < 2 ^ l.fn.self.degree }

abbrev pub decreases-loop-rest : goal.decreases-loop-rest
decreases-loop-rest l = l.rest
