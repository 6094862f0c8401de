-- One step of a square by spreading bits.
use Rattle.std.specs.Prelude.{ℕ, ◌*◌, ◌%◌, ◌^◌, bit_and, bit_xor}

-- a word and its shift to the left, and of both the places of the mask
abbrev pub spread_step : ℕ → ℕ → ℕ → ℕ
spread_step shift mask x = bit_and (bit_xor x (x * 2 ^ shift % 2 ^ 64)) mask
