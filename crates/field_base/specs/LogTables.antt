-- Products of bytes by logarithms: a product is a generator of the field to the power of the sum of the logarithms of its factors.
-- 0 has no logarithm; the table has one so large that the table of powers has 0 at each sum with it.
use Rattle.std.specs.Prelude.{◌≡◌, ℕ, ◌+◌, ◌<◌, ◌≤◌, List, slice_index}

-- the tables of powers and of logarithms give the products of bytes
pub record AreLogTables (times : ℕ → ℕ → ℕ) (powers logarithms : List ℕ) : Type 0 where
  pub fits : (a : ℕ) → a < 256 → slice_index logarithms a ≤ 511
  pub product : (a b : ℕ) → a < 256 → b < 256 → slice_index powers (slice_index logarithms a + slice_index logarithms b) ≡ times a b
