-- Tables of linear maps of numbers by their digits to base 16.
use Rattle.std.specs.Prelude.{◌≡◌, ℕ, ◌+◌, ◌*◌, ◌^◌, ◌<◌, List, length, get_or, bit_xor}

-- f keeps sums, and table n has its values at the numbers below 16 that are moved up by `from` bits, and by four more for each table
-- before it
pub record AreTables {S : Type 0} (entry : S → ℕ → ℕ) (f : ℕ → ℕ) (from : ℕ) (tables : List S) : Type 0 where
  pub keeps : (a b : ℕ) → f (bit_xor a b) ≡ bit_xor (f a) (f b)
  pub entries : (n v : ℕ) → n < length tables → v < 16 → (d : S) → entry (get_or tables n d) v ≡ f (v * 2 ^ (from + 4 * n))
