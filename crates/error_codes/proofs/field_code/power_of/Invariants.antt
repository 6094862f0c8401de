use Rattle.std.proofs.Common.{◌≡◌, ◌<◌, ◌^◌}
use Rattle.field_base.specs.Powers.{power}
use Rattle.error_codes.proofs.field_code.power_of.Given as goal

-- what is left to multiply, times what is there, is the whole power
abbrev pub invariant-loop-rest : goal.invariant-loop-rest
invariant-loop-rest g l =
    let times = g.F.SymbolField.product l.field in
    (times l.value (power 1 times l.base l.rest) ≡ power 1 times l.a l.exponent)
    × (l.value < 2 ^ g.F.SymbolField.width l.field)

abbrev pub decreases-loop-rest : goal.decreases-loop-rest
decreases-loop-rest g l = l.rest
