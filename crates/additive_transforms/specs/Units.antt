-- Numbers of 2 ^ size bytes each, one after another, as one row of bytes, the lowest byte of each first, and what is read from that row
-- and put into it: units of 2 ^ d bytes, from the number at `start` on.
use Rattle.std.specs.Prelude.{◌≡◌, ◌⊎◌, ℕ, zero, suc, ◌+◌, ◌-◌, ◌*◌, ◌/◌, ◌%◌, ◌^◌, ◌<◌, ◌≤◌, List, slice_index}
use Rattle.std.proofs.Common.{inl, inr}
use Rattle.std.proofs.lemmas.Bool.{cases_lt}
use Rattle.field_base.specs.Quadratic.{pair}
use Rattle.additive_transforms.specs.Chunks.{chunk_of}
use Rattle.additive_transforms.specs.Rows.{level_of}

-- byte p of the row
abbrev pub byte_of : ℕ → List ℕ → ℕ → ℕ
byte_of size numbers p = slice_index numbers (p / 2 ^ size) / 256 ^ (p % 2 ^ size) % 256

-- unit i of bytes: a byte, and otherwise the pair of two of the level below
unfoldable pub unit_of : ℕ → (ℕ → ℕ) → ℕ → ℕ
unit_of zero bytes i = bytes i
unit_of (suc d) bytes i = pair (2 ^ level_of d) (unit_of d bytes (2 * i)) (unit_of d bytes (2 * i + 1))

-- n units of 2 ^ d bytes are those from the number at `start` on
abbrev pub AreUnits : ℕ → ℕ → ℕ → ℕ → (ℕ → ℕ) → List ℕ → Type 0
AreUnits d size start n units numbers =
    (first : ℕ) → start * 2 ^ size ≡ first * 2 ^ d → (l : ℕ) → l < n → units l ≡ unit_of d (byte_of size numbers) (first + l)

-- they were put there, and the other numbers are as they were
pub record ArePut (d size start n : ℕ) (units : ℕ → ℕ) (old new : List ℕ) : Type 0 where
  pub put : AreUnits d size start n units new
  pub fit : (k : ℕ) → start ≤ k → k * 2 ^ size < start * 2 ^ size + n * 2 ^ d → slice_index new k < 256 ^ 2 ^ size
  pub kept : (k : ℕ) → (k < start) ⊎ (start * 2 ^ size + n * 2 ^ d ≤ k * 2 ^ size) → slice_index new k ≡ slice_index old k

-- n of one sequence, and then those of another: at a place before the n, or behind
abbrev pub joint_at : (n : ℕ) (x y : ℕ → ℕ) (p : ℕ) → (p < n) ⊎ (n ≤ p) → ℕ
joint_at n x y p (inl before) = x p
joint_at n x y p (inr past) = y (p - n)

-- and at any place
abbrev pub joint : ℕ → (ℕ → ℕ) → (ℕ → ℕ) → ℕ → ℕ
joint n x y p = joint_at n x y p (cases_lt p n)

-- the even and the odd ones of two sequences of n units, one behind the other
pub record AreUnwoven (n : ℕ) (first second evens odds : ℕ → ℕ) : Type 0 where
  pub first_evens : (l : ℕ) → 2 * l < n → evens l ≡ first (2 * l)
  pub first_odds : (l : ℕ) → 2 * l < n → odds l ≡ first (2 * l + 1)
  pub second_evens : (l : ℕ) → l < n → n ≤ 2 * l → evens l ≡ second (2 * l - n)
  pub second_odds : (l : ℕ) → l < n → n ≤ 2 * l → odds l ≡ second (2 * l + 1 - n)

-- the first n numbers are these values, and the others as they were
pub record FirstAre (n : ℕ) (value : ℕ → ℕ) (old new : List ℕ) : Type 0 where
  pub done : (k : ℕ) → k < n → slice_index new k ≡ value k
  pub kept : (k : ℕ) → n ≤ k → slice_index new k ≡ slice_index old k

-- the elements of bytes are the numbers from `start` on, so many, as far as their bytes go
abbrev pub AreChunks : ℕ → ℕ → ℕ → List ℕ → List ℕ → Type 0
AreChunks size start count bytes numbers =
    (i : ℕ) → i < count → chunk_of size bytes i ≡ slice_index numbers (start + i) % 2 ^ 2 ^ level_of size
