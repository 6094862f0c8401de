use Rattle.std.specs.Array.{index_steps}
use Rattle.std.specs.Iterator.{CallableAtEachTurn}
use Rattle.field_space.proofs.Spaces.{Coefficients}
use Rattle.field_space.proofs.space.BasedVectorSpace.from_basis_coefficients_fn.Given as goal

-- the coefficients from this one on may be asked for, and the element has those of the calls so far
abbrev pub invariant-loop-i : goal.invariant-loop-i
invariant-loop-i g l =
    CallableAtEachTurn (index_steps g.Self.BasedVectorSpace.DIMENSION) (λ p i q. (x : _) × goal.G-step g p i x q) (goal.G-pre g) l.i l.f
    × Coefficients g.F.Represented.width g.F.Represented.repr (goal.G-step g) l.initial.f l.i (g.Self.Represented.repr l.element) l.f
