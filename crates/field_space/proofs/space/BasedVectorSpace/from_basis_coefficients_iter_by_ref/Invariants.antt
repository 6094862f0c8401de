use Rattle.std.proofs.Common.{Some}
use Rattle.field_space.proofs.Spaces.{Coefficients}
use Rattle.field_space.proofs.space.BasedVectorSpace.from_basis_coefficients_iter_by_ref.Given as goal

-- the element has the coefficients that the iterator has given
abbrev pub invariant-loop-i : goal.invariant-loop-i
invariant-loop-i g l =
    g.I.Iterator.can_next l.iter
    × Coefficients g.F.Represented.width g.F.Represented.repr (λ p k x q. g.I.Iterator.next_gives p (Some x) q) l.initial.iter l.i
    (g.Self.Represented.repr l.element) l.iter
