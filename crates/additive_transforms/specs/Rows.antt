-- Levels of elements of the tower of 8, 16 and 32 bits and so on, and bytes in lanes.
use Rattle.std.specs.Prelude.{ℕ, zero, suc, ◌%◌, ◌^◌, List, slice_index}

-- the level of elements that are halved d times until their parts have a byte of each: 3, and so on
abbrev pub level_of : ℕ → ℕ
level_of zero = 3
level_of (suc d) = suc (level_of d)

-- the byte in a lane
abbrev pub byte_of_lane : List ℕ → ℕ → ℕ
byte_of_lane bytes l = slice_index bytes l % 2 ^ 8
