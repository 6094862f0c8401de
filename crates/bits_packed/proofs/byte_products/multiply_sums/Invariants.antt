use Rattle.std.proofs.Common.{◌≡◌, ℕ, ◌+◌, ◌*◌, ◌<◌, length}
use Rattle.bits_packed.specs.BitMatrices.{bit_entry}
use Rattle.bits_packed.proofs.SumsProducts.{first_terms, lesser}
use Rattle.bits_packed.proofs.byte_products.multiply_sums.Given as goal

-- the places of the parts before this one are done
abbrev pub invariant-loop-part : goal.invariant-loop-part
invariant-loop-part l =
    (length l.product ≡ 4096) × (length l.left_sums ≡ 1024) × (length l.right_sums ≡ 1024) × (length l.tables ≡ 2048)
    × ((i j : ℕ) → i < l.block.rows → j < l.block.columns → bit_entry 8 l.product i j
    ≡ first_terms l.mask l.inner l.block.width l.left l.right (l.block.row + i) (l.block.column + j) (lesser (128 * l.part) l.inner))
