-- Blocks of a slice to which products of another one are added, one after the other.
use Rattle.std.proofs.Common.{◌≡◌, ℕ, ◌+◌, ◌-◌, ◌≤◌, List, ap, arith}
use Rattle.std.specs.Prelude.{bit_xor, slice_index}
use Rattle.ghash_slices.specs.Blocks.{HoldsPlaces, added_at}
use Rattle.ghash_slices.specs.LowStages.{ghash_product}
use Rattle.ghash_slices.proofs.SliceBlocks.{held_same, then_held}

-- a block, of which the products are numbered from its start on
pub block_added : (scalar start end : ℕ) (old others new : List ℕ)
    → HoldsPlaces (λ p. bit_xor (slice_index old p) (ghash_product scalar (slice_index others (start + (p - start))))) start end old new
    → HoldsPlaces (added_at scalar old others) start end old new
block_added scalar start end old others new =
    held_same (λ p. bit_xor (slice_index old p) (ghash_product scalar (slice_index others (start + (p - start)))))
    (added_at scalar old others) start end old new
    (λ p later. let at : start + (p - start) ≡ p = omega arith in
    ap (λ (n : ℕ). bit_xor (slice_index old p) (ghash_product scalar (slice_index others n))) at)

-- what is added from `mid` on, after what was added before
pub more_added : (scalar from mid end : ℕ) (old others now new : List ℕ) → from ≤ mid → mid ≤ end
    → HoldsPlaces (added_at scalar old others) from mid old now → HoldsPlaces (added_at scalar now others) mid end now new
    → HoldsPlaces (added_at scalar old others) from end old new
more_added scalar from mid end old others now new order order' so_far more =
    then_held (added_at scalar old others) (added_at scalar now others) from mid end old now new order order'
    (λ p later. ap (λ (x : ℕ). bit_xor x (ghash_product scalar (slice_index others p))) (so_far.behind p later)) so_far more
