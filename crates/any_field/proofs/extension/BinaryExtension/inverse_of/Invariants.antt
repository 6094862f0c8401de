use Rattle.std.proofs.Common.{◌+◌}
use Rattle.any_field.proofs.EuclidInverses.{IsEuclid}
use Rattle.any_field.proofs.extension.BinaryExtension.inverse_of.Given as goal

abbrev pub invariant-loop-a : goal.invariant-loop-a
invariant-loop-a l = IsEuclid l.fn.self.degree l.fn.self.tail l.fn.x l.a l.u l.b l.v

abbrev pub decreases-loop-a : goal.decreases-loop-a
decreases-loop-a l = l.a + l.b
