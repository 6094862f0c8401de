-- Parts of a row that are no wider than the words of the row.
use Rattle.std.specs.Prelude.{◌≡◌, ℕ, ◌*◌, ◌/◌}

-- `wide` bits are a whole number of runs of `narrow` bits
abbrev pub Divides : ℕ → ℕ → Type 0
Divides narrow wide = wide ≡ narrow * (wide / narrow)
