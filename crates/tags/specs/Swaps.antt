-- One step of putting the bits of a double word in the other order.
use Rattle.std.specs.Prelude.{ℕ, ◌*◌, ◌/◌, ◌%◌, ◌^◌, bit_and, bit_xor}

-- the fields under the mask moved up by their width, and those above them moved down
abbrev pub swap_step : ℕ → ℕ → ℕ → ℕ
swap_step shift mask x = bit_xor (bit_and (x / 2 ^ shift) mask) (bit_and x mask * 2 ^ shift % 2 ^ 128)
