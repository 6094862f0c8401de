use Rattle.std.proofs.Common.{◌*◌}
use Rattle.field_slices.specs.Matrices.{product_entry}
use Rattle.bits_packed.specs.BitMatrices.{word_of}
use Rattle.bits_packed.specs.BytesAsBits.{IsBlockAdded, bilinear_product}
use Rattle.bits_packed.proofs.SumsProducts.{lesser}
use Rattle.bits_packed.proofs.byte_products.add_band.Given as goal

-- the columns before this strip are done
abbrev pub invariant-loop-strip : goal.invariant-loop-strip
invariant-loop-strip l =
    IsBlockAdded l.band.width l.band.row l.band.rows 0 (lesser (512 * l.strip) l.band.width)
    (product_entry (bilinear_product l.forms) l.inner (word_of l.inner l.left) (word_of l.band.width l.right))
    l.fn.target l.target
