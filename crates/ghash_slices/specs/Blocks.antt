-- Sixteen numbers of 128 bits as 256 bytes, in two orders, and what becomes of sixteen places of a slice.
use Rattle.std.specs.Prelude.{◌≡◌, ℕ, ◌+◌, ◌*◌, ◌/◌, ◌%◌, ◌^◌, ◌<◌, ◌≤◌, List, [], length, slice_index, slice_index_or}
use Rattle.ghash_slices.specs.LowStages.{ghash_product}
use Rattle.ghash_slices.specs.Stages.{add_multiple}

-- byte k of number e stands at place 16 e + k: number after number, the lowest byte first
pub record HoldBytes (bytes : List ℕ) (values : ℕ → ℕ) : Type 0 where
  pub fits : (e : ℕ) → e < 16 → values e < 2 ^ 128
  pub each : (e k : ℕ) → e < 16 → k < 16 → slice_index bytes (16 * e + k) ≡ values e / 2 ^ (8 * k) % 256

-- byte k of number e stands at place 16 k + e: row k has byte k of each number
pub record HoldRows (rows : List ℕ) (values : ℕ → ℕ) : Type 0 where
  pub fits : (e : ℕ) → e < 16 → values e < 2 ^ 128
  pub each : (k e : ℕ) → k < 16 → e < 16 → slice_index rows (16 * k + e) ≡ values e / 2 ^ (8 * k) % 256

-- row k has byte k of each of so many numbers
pub record HoldLanes (lanes : ℕ) (rows : List (List ℕ)) (values : ℕ → ℕ) : Type 0 where
  pub fits : (e : ℕ) → e < lanes → values e < 2 ^ 128
  pub each : (k e : ℕ) → k < 16 → e < lanes → slice_index (slice_index_or rows k []) e ≡ values e / 2 ^ (8 * k) % 256

-- of the places of a list those from `start` up to `end` hold the values of f at their numbers, and the others are as they were
pub record HoldsPlaces (f : ℕ → ℕ) (start end : ℕ) (old new : List ℕ) : Type 0 where
  pub same_length : length new ≡ length old
  pub here : (p : ℕ) → start ≤ p → p < end → p < length old → slice_index new p ≡ f p
  pub before : (p : ℕ) → p < start → slice_index new p ≡ slice_index old p
  pub behind : (p : ℕ) → end ≤ p → slice_index new p ≡ slice_index old p

-- the product of the scalar and the value at a place
abbrev pub multiplied_at : ℕ → List ℕ → ℕ → ℕ
multiplied_at scalar values p = ghash_product scalar (slice_index values p)

-- the value at a place and the product of the scalar and the other value there
abbrev pub added_at : ℕ → List ℕ → List ℕ → ℕ → ℕ
added_at scalar values others p = add_multiple ghash_product scalar (slice_index values p) (slice_index others p)
