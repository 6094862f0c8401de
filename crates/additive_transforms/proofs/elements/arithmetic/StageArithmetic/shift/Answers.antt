use Rattle.additive_transforms.proofs.SubspaceSteps.{first_subspace_value, next_subspace_value}
use Rattle.additive_transforms.proofs.elements.arithmetic.StageArithmetic.shift.Goals as goal

pub loop-init : goal.loop-init
loop-init g c = let by = g.Self.StageArithmetic in first_subspace_value by.product (by.number c.args.z)

pub loop-preserved : goal.loop-preserved
loop-preserved g c =
    let by = g.Self.StageArithmetic in
    next_subspace_value by.product (by.number c.args.z) c.loop.counter _ _ _ c.loop.invariant c.square.ensures c.sum-value.ensures
