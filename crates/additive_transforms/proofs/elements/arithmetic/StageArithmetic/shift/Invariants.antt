use Rattle.std.proofs.Common.{◌≡◌}
use Rattle.ghash_slices.specs.Cantor.{subspace_value}
use Rattle.additive_transforms.proofs.elements.arithmetic.StageArithmetic.shift.Given as goal

-- after as many turns as the counter says there is s of that number
abbrev pub invariant-loop : goal.invariant-loop
invariant-loop g l = let by = g.Self.StageArithmetic in by.number l.value ≡ subspace_value by.product l.counter (by.number l.fn.z)
