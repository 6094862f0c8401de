-- Numbers below 2^192 as two words.
use Rattle.std.specs.Prelude.{ℕ, ◌+◌, ◌*◌, ◌^◌}
use Rattle.calculator.specs.declared.number.Number.{Number}

-- the number of two words
abbrev pub wide_value : Number → ℕ
wide_value number = number.high * 2 ^ 128 + number.low
