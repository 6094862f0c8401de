use Rattle.std.proofs.Common.{◌^◌}
use Rattle.field_element.specs.Element.{repr_of}
use Rattle.field_space.proofs.Spaces.{ListedSoFar}
use Rattle.field_space.proofs.levels.level_coefficients.Given as goal

-- the coefficients so far
abbrev pub invariant-loop-i : goal.invariant-loop-i
invariant-loop-i g l = ListedSoFar (2 ^ g.J.Level.LEVEL) repr_of (repr_of l.element) g.row.N l.i l.coefficients
