use Rattle.std.proofs.Common.{◌≡◌}
use Rattle.ghash_slices.specs.Cantor.{subspace_value}
use Rattle.additive_transforms.proofs.over.subspace_value.Given as goal

-- after as many turns as the counter says, what is there is s of that number
abbrev pub invariant-loop : goal.invariant-loop
invariant-loop g l =
    let field = g.F.Represented in
    field.repr l.value ≡ subspace_value field.product l.counter (field.repr l.fn.x)
