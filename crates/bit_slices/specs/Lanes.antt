-- The lanes of a vector of words of 64 bits: one for each of its bits.
use Rattle.std.specs.Prelude.{ℕ, ◌/◌, ◌%◌, List, slice_index}
use Rattle.std.specs.Int.{bit_at}

-- bit l of the words, 64 of them in each, the lowest first
abbrev pub bit_lane : List ℕ → ℕ → ℕ
bit_lane words l = bit_at (slice_index words (l / 64)) (l % 64)
