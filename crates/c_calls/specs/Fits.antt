-- The words of a number of 128 bits.
use Rattle.std.specs.Prelude.{ℕ, ◌^◌, ◌<◌}

-- both have at most 64 bits
pub record FitsTwo (low high : ℕ) : Type 0 where
  pub low_half : low < 2 ^ 64
  pub high_half : high < 2 ^ 64
