use Rattle.std.proofs.Common.{◌↔◌, ◌+◌}
use Rattle.any_field.specs.Irreducible.{AreCoprime}
use Rattle.any_field.proofs.irreducible.are_coprime.Given as goal

abbrev pub invariant-loop-a : goal.invariant-loop-a
invariant-loop-a l = AreCoprime l.a l.b ↔ AreCoprime l.fn.x l.fn.y

abbrev pub decreases-loop-a : goal.decreases-loop-a
decreases-loop-a l = l.a + l.b
