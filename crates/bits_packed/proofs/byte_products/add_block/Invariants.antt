use Rattle.std.proofs.Common.{◌≡◌, length}
use Rattle.bits_packed.specs.BytesAsBits.{IsBlockAdded}
use Rattle.bits_packed.proofs.SumsProducts.{forms_sum}
use Rattle.bits_packed.proofs.byte_products.add_block.Given as goal

-- the forms before this one are done
abbrev pub invariant-loop-index : goal.invariant-loop-index
invariant-loop-index l =
    (length l.product ≡ 4096) × IsBlockAdded l.block.width l.block.row l.block.rows l.block.column l.block.columns
    (forms_sum l.forms l.inner l.block.width l.left l.right l.index) l.fn.target l.target
