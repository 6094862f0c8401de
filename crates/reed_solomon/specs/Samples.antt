-- The sample of shards that the missing ones are computed from: the first k that are at hand.
use Rattle.std.specs.Prelude.{◌≡◌, ℕ, ◌<◌, ◌≤◌, Bool, List, slice_index, take}
use Rattle.field_base.specs.Interpolation.{interpolated, other_factors}
use Rattle.reed_solomon.specs.ByteFields.{byte_times}
use Rattle.reed_solomon.specs.declared.byte_field.ByteField.TheVariants.{Qr}
use Rattle.reed_solomon.specs.Shards.{IsPresent, IsAmongFirst, present_count, shard_byte}

-- the first `count` entries of `places` are the places before `seen` of the first k shards at hand, or of all where these are
-- fewer: entry j is the place of a shard before which j others are at hand
pub record IsSample (k : ℕ) (present : List Bool) (seen : ℕ) (places : List ℕ) (count : ℕ) : Type 0 where
  pub inside : (j : ℕ) → j < count → slice_index places j < seen
  pub is_present : (j : ℕ) → j < count → IsPresent present (slice_index places j)
  pub number : (j : ℕ) → j < count → present_count (take (slice_index places j) present) ≡ j
  pub covers : (i : ℕ) → i < seen → IsAmongFirst k present i
      → (present_count (take i present) < count) × (slice_index places (present_count (take i present)) ≡ i)
  pub at_most : count ≤ k
  pub counted : count ≤ present_count (take seen present)
  pub is_all : count < k → count ≡ present_count (take seen present)

-- the symbol of shard x in one column by the shards at `count` places
abbrev pub symbol_at : ℕ → ℕ → (ℕ → ℕ) → List ℕ → ℕ → ℕ → ℕ
symbol_at count size place shards column x =
    interpolated 8 (byte_times Qr) place (λ j. shard_byte size shards (place j) column) count x

-- the weight of each of `count` points: the inverse of the product of its differences to the others (J.-P. Berrut and
-- L. N. Trefethen, Barycentric Lagrange interpolation, 2004)
abbrev pub AreWeights : (ℕ → ℕ) → ℕ → (ℕ → ℕ) → Type 0
AreWeights point count weight =
    (j : ℕ) → j < count → byte_times Qr (other_factors (byte_times Qr) point j (point j) count) (weight j) ≡ 1
