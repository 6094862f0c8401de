-- One step of moving the bits at the even places of a word together.
use Rattle.std.specs.Prelude.{ℕ, ◌-◌, ◌/◌, ◌%◌, ◌^◌, bit_and, bit_xor}

-- a word and its shift to the right, and of both the places of the mask
abbrev pub compact_step : ℕ → ℕ → ℕ → ℕ
compact_step shift mask x = bit_and (bit_xor x (x / 2 ^ shift)) mask

-- the even places below a width of at most 128
abbrev pub even_places : ℕ → ℕ
even_places width = 0x5555_5555_5555_5555_5555_5555_5555_5555 % 2 ^ width

-- x^(n - 1) + .. + x + 1
abbrev pub ones : ℕ → ℕ
ones n = 2 ^ n - 1

-- the square root of x modulo x^64 + x^4 + x^3 + x + 1
abbrev pub root_of_x_64 : ℕ
root_of_x_64 = 0xffff_ffff_0000_000a

-- the square root of x modulo x^128 + x^7 + x^2 + x + 1
abbrev pub root_of_x_128 : ℕ
root_of_x_128 = 0x2492_4924_9249_2492_6db6_db6d_b6db_6da4
