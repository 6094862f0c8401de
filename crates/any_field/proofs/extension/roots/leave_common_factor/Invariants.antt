use Rattle.std.proofs.Common.{◌<◌}
use Rattle.any_field.proofs.extension.roots.leave_common_factor.Given as goal

-- both degrees are places of a polynomial
abbrev pub invariant-loop : goal.invariant-loop
invariant-loop l = record { high_fits : l.high < 129; low_fits : l.low < 129 }
