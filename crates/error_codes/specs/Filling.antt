-- Sums of scaled symbols times powers of their points and the values of a polynomial (G. D. Forney, On decoding BCH codes,
-- 1965), by which the symbols at marked places follow from the syndromes.
use Rattle.std.specs.Prelude.{ℕ, ◌-◌, List, Bool, false, cond, not, nat_eq, ◌&&◌, bit_xor, slice_index_or}
use Rattle.field_base.specs.Basis.{product_below, sum_below}
use Rattle.field_base.specs.Powers.{power}
use Rattle.error_codes.specs.Generators.{power_point, power_scale}

-- place i is marked
abbrev pub is_marked : List Bool → ℕ → Bool
is_marked marks i = slice_index_or marks i false

-- and is not the one that is left out
abbrev pub is_other : List Bool → ℕ → ℕ → Bool
is_other marks skipped i = is_marked marks i && not (nat_eq i skipped)

-- point i of a word of n symbols, the last of which belongs to the power 0
abbrev pub falling_point : (ℕ → ℕ → ℕ) → ℕ → ℕ → ℕ → ℕ
falling_point times root n i = power_point times root (n - 1 - i)

-- and its scale i
abbrev pub falling_scale : (ℕ → ℕ → ℕ) → ℕ → ℕ → ℕ → ℕ → ℕ
falling_scale times root first n i = power_scale times root first (n - 1 - i)

-- the product of x - point i over the marked places i below n
abbrev pub marked_product : (ℕ → ℕ → ℕ) → (ℕ → ℕ) → (ℕ → Bool) → ℕ → ℕ → ℕ
marked_product times point marked n x = product_below times (λ i. cond (marked i) (bit_xor x (point i)) 1) n

-- the sum of weight i · point i ^ m · g (point i)
abbrev pub weighted_sum : (ℕ → ℕ → ℕ) → ℕ → (ℕ → ℕ) → (ℕ → ℕ) → (ℕ → ℕ) → ℕ → ℕ
weighted_sum times n point weight g m =
    sum_below (λ i. times (times (weight i) (power 1 times (point i) m)) (g (point i))) n
