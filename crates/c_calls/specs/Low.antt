-- The elements that words stand for.
use Rattle.std.specs.Prelude.{ℕ, ◌%◌, ◌^◌}

-- the number of so many low bits of a word
abbrev pub low_number : {W : Type 0} → (W → ℕ) → ℕ → W → ℕ
low_number number width word = number word % 2 ^ width
