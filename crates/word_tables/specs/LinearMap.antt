-- What a linear map of 128 bits computes by the values that it holds.
use Rattle.std.specs.Prelude.{ℕ, zero, suc, ◌+◌, ◌*◌, ◌/◌, ◌%◌, ◌^◌, List, bit_xor, slice_index}
use Rattle.field_base.specs.ByteTables.{sum_of_entries}
use Rattle.word_tables.specs.declared.byte_map.ByteMap.{ByteMap}
use Rattle.word_tables.specs.declared.linear.LinearMap.{LinearMap}

-- the sum of the values at the low n digits of x to base 16, where digit i has the 16 values from 16 i on
unfoldable pub sum_of_values : ℕ → List ℕ → ℕ → ℕ
sum_of_values zero values x = 0
sum_of_values (suc n) values x =
    bit_xor (sum_of_values n values x) (slice_index values (16 * n + x / 2 ^ (4 * n) % 16))

-- the value of a map at x: the sum of its values at the digits of x
unfoldable pub map_of : LinearMap → ℕ → ℕ
map_of map x = sum_of_values 32 map.values x

-- the value of a map at x: the sum of the entries of its table at the bytes of x
unfoldable pub byte_map_of : ByteMap → ℕ → ℕ
byte_map_of map x = sum_of_entries 16 map.table x
