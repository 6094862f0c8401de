-- Linear maps of words by tables of their values at bytes: byte j of a word has the 256 entries from 256 j on, which are the
-- values at b * 256 ^ j for the bytes b.
use Rattle.std.specs.Prelude.{ℕ, zero, suc, ◌+◌, ◌*◌, ◌/◌, ◌%◌, ◌^◌, List, bit_xor, slice_index}

-- the sum of the entries of a table at the low n bytes of a number
unfoldable pub sum_of_entries : ℕ → List ℕ → ℕ → ℕ
sum_of_entries zero table x = 0
sum_of_entries (suc n) table x =
    bit_xor (sum_of_entries n table x) (slice_index table (256 * n + x / 2 ^ (8 * n) % 256))
