use Rattle.additive_transforms.proofs.SubspaceSteps.{first_subspace_value, next_subspace_value}
use Rattle.additive_transforms.proofs.over.subspace_value.Goals as goal

pub loop-init : goal.loop-init
loop-init g c = let field = g.F.Represented in first_subspace_value field.product (field.repr c.args.x)

pub loop-preserved : goal.loop-preserved
loop-preserved g c =
    let field = g.F.Represented in
    next_subspace_value field.product (field.repr c.args.x) c.loop.counter _ _ _ c.loop.invariant c.square.ensures
    (g.met.F.Represented.add_law c.square.result c.loop.value c.add-value.result c.add-value.ensures)
