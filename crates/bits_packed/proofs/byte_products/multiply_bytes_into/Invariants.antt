use Rattle.std.proofs.Common.{◌≡◌, ℕ, ◌*◌, ◌<◌, length}
use Rattle.std.specs.Prelude.{slice_index}
use Rattle.field_slices.specs.Matrices.{product_entry}
use Rattle.bits_packed.specs.BitMatrices.{word_of}
use Rattle.bits_packed.specs.BytesAsBits.{IsBlockAdded, bilinear_product}
use Rattle.bits_packed.proofs.SumsProducts.{lesser}
use Rattle.bits_packed.proofs.byte_products.multiply_bytes_into.Given as goal

-- the bytes before this one are 0
abbrev pub invariant-loop-place : goal.invariant-loop-place
invariant-loop-place l = (length l.target ≡ length l.fn.target) × ((p : ℕ) → p < l.place → slice_index l.target p ≡ 0)

-- the rows before this band are done
abbrev pub invariant-loop-band : goal.invariant-loop-band
invariant-loop-band l =
    IsBlockAdded l.columns 0 (lesser (512 * l.band) l.rows) 0 l.columns
    (product_entry (bilinear_product l.forms) l.inner (word_of l.inner l.left) (word_of l.columns l.right))
    l.initial.target l.target
