-- Sums to which products are added, four at once.
use Rattle.std.specs.Prelude.{ℕ, List, bit_xor, slice_index}
use Rattle.ghash_slices.specs.LowStages.{ghash_product}

-- the product of the numbers at a place
abbrev pub product_at : List ℕ → List ℕ → ℕ → ℕ
product_at xs ys place = ghash_product (slice_index xs place) (slice_index ys place)

-- a sum and four numbers more
abbrev pub with_four : ℕ → ℕ → ℕ → ℕ → ℕ → ℕ
with_four sum a b c d = bit_xor (bit_xor (bit_xor (bit_xor sum a) b) c) d

-- a sum and the products at the four places of two arrays
abbrev pub with_four_products : ℕ → List ℕ → List ℕ → ℕ
with_four_products sum xs ys = with_four sum (product_at xs ys 0) (product_at xs ys 1) (product_at xs ys 2) (product_at xs ys 3)
