use Rattle.std.proofs.Common.{◌*◌, ◌-◌}
use Rattle.bits_packed.specs.BitMatrices.{bit_entry}
use Rattle.bits_packed.specs.BytesAsBits.{IsBlockAdded}
use Rattle.bits_packed.proofs.byte_products.add_weights.Given as goal

-- the rows before this one are done
abbrev pub invariant-loop-row : goal.invariant-loop-row
invariant-loop-row l =
    IsBlockAdded l.block.width l.block.row l.row l.block.column l.block.columns
    (λ i j. l.weight * bit_entry 8 l.product (i - l.block.row) (j - l.block.column)) l.fn.target l.target
