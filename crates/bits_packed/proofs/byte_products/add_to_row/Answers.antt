use Rattle.std.proofs.Common.{refl}
use Rattle.bits_packed.proofs.WeightedBits.{group-step}
use Rattle.bits_packed.proofs.byte_products.add_to_row.Goals as goal

pub loop-group-preserved : goal.loop-group-preserved
loop-group-preserved c =
    group-step c.args.first c.loop-group.group c.args.weight _ c.args.row c.args.product.now c.args.target.now c.loop-group.target
    c.add_to_eight.new.target refl c.loop-group.invariant c.add_to_eight.ensures
