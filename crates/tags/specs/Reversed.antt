-- Both standards in the field of GHASH as this library has it, where bit i of a number is the coefficient of x^i: the bits of a
-- block are read in the other order.
use Rattle.std.specs.Prelude.{◌≡◌, ℕ, List}
use Rattle.std.specs.Int.{from_be_bytes, from_le_bytes, reverse_bits, w128}
use Rattle.field_base.specs.Remainder.{ghash_modulus, mul_mod}
use Rattle.tags.specs.Gcm.{gcm_product}
use Rattle.tags.specs.Polyval.{dot}

-- the element of a block of GHASH
abbrev pub ghash_element : List ℕ → ℕ
ghash_element block = reverse_bits w128 (from_be_bytes w128 block)

-- the element of a block of POLYVAL
abbrev pub polyval_element : List ℕ → ℕ
polyval_element block = reverse_bits w128 (from_le_bytes w128 block)

-- the product modulo x^128 + x^7 + x^2 + x + 1
abbrev pub ghash_times : ℕ → ℕ → ℕ
ghash_times a b = mul_mod 128 ghash_modulus a b

-- the element by which a hash of POLYVAL multiplies: that of its key, times x
abbrev pub polyval_multiplier : List ℕ → ℕ
polyval_multiplier key = ghash_times 2 (polyval_element key)

-- the standard's product is the product of the field, with the bits reversed
abbrev pub GcmProductIsReversed : Type 0
GcmProductIsReversed = (x y : ℕ)
    → gcm_product x y ≡ reverse_bits w128 (ghash_times (reverse_bits w128 x) (reverse_bits w128 y))

-- the product of POLYVAL is that times x, with the bits reversed
abbrev pub DotIsReversed : Type 0
DotIsReversed = (a b : ℕ)
    → dot a b ≡ reverse_bits w128 (ghash_times 2 (ghash_times (reverse_bits w128 a) (reverse_bits w128 b)))
