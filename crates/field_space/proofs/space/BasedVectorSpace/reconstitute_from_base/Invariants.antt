use Rattle.std.proofs.Common.{map, take}
use Rattle.field_space.proofs.Spaces.{Joining}
use Rattle.field_space.proofs.space.BasedVectorSpace.reconstitute_from_base.Given as goal

-- the coefficients so far are those of the elements and of the one that is being made
abbrev pub invariant-loop-place : goal.invariant-loop-place
invariant-loop-place g l =
    Joining g.F.Represented.width g.Self.BasedVectorSpace.DIMENSION g.Self.Represented.repr l.elements.items l.i
    (g.Self.Represented.repr l.element) l.place (map g.F.Represented.repr (take l.place l.coefficients))
