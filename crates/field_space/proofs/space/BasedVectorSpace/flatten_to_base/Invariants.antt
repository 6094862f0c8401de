use Rattle.std.proofs.Common.{◌≡◌, ◌++◌, map, take}
use Rattle.field_base.specs.Chunks.{chunks}
use Rattle.field_space.specs.Vectors.{flat_coefficients}
use Rattle.field_space.proofs.space.BasedVectorSpace.flatten_to_base.Given as goal

-- the coefficients of the elements so far
abbrev pub invariant-loop-place : goal.invariant-loop-place
invariant-loop-place g l =
    map g.F.Represented.repr l.flat.items
    ≡ flat_coefficients g.F.Represented.width g.Self.BasedVectorSpace.DIMENSION g.Self.Represented.repr (take l.place l.elements)

-- and those of this one
abbrev pub invariant-loop-i : goal.invariant-loop-i
invariant-loop-i g l =
    map g.F.Represented.repr l.flat.items
    ≡ flat_coefficients g.F.Represented.width g.Self.BasedVectorSpace.DIMENSION g.Self.Represented.repr (take l.place l.elements)
    ++ chunks g.F.Represented.width l.i (g.Self.Represented.repr l.element)
