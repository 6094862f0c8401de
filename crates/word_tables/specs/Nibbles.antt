-- Tables of sixteen entries that are looked up by the halves of bytes, as those of a linear map of four bits.
use Rattle.std.specs.Prelude.{◌≡◌, ◌/◌, ◌%◌, ◌<◌, ℕ, List, bit_xor, slice_index}
use Rattle.field_base.specs.LinearMaps.{linear_image}

-- entry n of the table is what the map with these images makes of n, for n below 16
abbrev pub HasImages : List ℕ → List ℕ → Type 0
HasImages images table = (n : ℕ) → n < 16 → slice_index table n ≡ linear_image images n

-- the sum of the entries of two tables, at the low and at the high four bits of a byte
abbrev pub entry_sum : List ℕ → List ℕ → ℕ → ℕ
entry_sum low high byte = bit_xor (slice_index low (byte % 16)) (slice_index high (byte / 16))
