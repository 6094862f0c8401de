-- The scalar whose multiples were made, and a step of Horner's rule over the bytes of what it multiplies.
use Rattle.std.specs.Prelude.{ℕ, ◌*◌, ◌/◌, ◌%◌, ◌^◌, List, bit_xor, slice_index}
use Rattle.ghash_slices.specs.LowStages.{ghash_product}
use Rattle.ghash_slices.specs.declared.multiples.Multiples.{Multiples}

-- the scalar
abbrev pub scalar_of : Multiples → ℕ
scalar_of multiples = multiples.scalar

-- a sum times x^8, and the product of the scalar by one byte more
abbrev pub horner_step : ℕ → (ℕ → ℕ) → List ℕ → ℕ → ℕ
horner_step scalar sums bytes e = bit_xor (ghash_product (sums e) 256) (ghash_product scalar (slice_index bytes e))

-- byte `row` of the product of the scalar and a byte
abbrev pub byte_of_multiple : ℕ → ℕ → ℕ → ℕ
byte_of_multiple scalar row b = ghash_product scalar b / 2 ^ (8 * row) % 256
