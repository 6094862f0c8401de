use Rattle.tags.proofs.FourProducts.{four_blocks}
use Rattle.tags.proofs.blocks.with_four_blocks.Goals as goal

pub returns : goal.returns
returns g c = λ key are.
    four_blocks g.E.Encoding.element key c.args.sum c.read_block.result c.read_block-2.result c.read_block-3.result
    c.read_block-4.result c.args.blocks.now c.args.powers.now c.sum_of_products.result are c.read_block.ensures
    c.read_block-2.ensures c.read_block-3.ensures c.read_block-4.ensures c.sum_of_products.ensures
