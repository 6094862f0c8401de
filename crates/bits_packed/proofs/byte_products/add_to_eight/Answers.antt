use Rattle.bits_packed.proofs.WeightedBits.{eight-added}
use Rattle.bits_packed.proofs.byte_products.add_to_eight.Goals as goal

pub returns : goal.returns
returns c = eight-added c.args.first c.args.weight c.args.bits c.args.target.now c.requires
