use Rattle.any_field.proofs.ScalarMaps.{AreMultiples}
use Rattle.any_field.proofs.extension.BinaryExtension.multiples_of.Given as goal

-- the places before this one are done
abbrev pub invariant-loop-place : goal.invariant-loop-place
invariant-loop-place l = AreMultiples l.fn.self.degree l.fn.self.tail l.place l.fn.scalar l.multiples l.multiple
