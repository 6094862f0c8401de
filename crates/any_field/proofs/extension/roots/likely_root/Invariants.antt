use Rattle.std.proofs.Common.{◌<◌}
use Rattle.any_field.proofs.extension.roots.likely_root.Given as goal

-- the degree is a place of the polynomial
abbrev pub invariant-loop-bit : goal.invariant-loop-bit
invariant-loop-bit l = l.degree < 129
