-- When shards have a size, and the error where they have none or cannot be reconstructed: the first that applies.
use Rattle.std.specs.Prelude.{◌≡◌, ◌≢◌, ℕ, ◌+◌, ◌%◌, ◌≤◌, Bool, List, length}
use Rattle.reed_solomon.specs.Shards.{present_count}
use Rattle.reed_solomon.specs.declared.error.ReedSolomonError.{ReedSolomonError}
use Rattle.reed_solomon.specs.declared.error.ReedSolomonError.TheVariants.{EmptyShard, IncorrectShardSize, InvalidShardFlags, TooFewShardsPresent}

-- so many bytes are those of `count` shards of one size, which is not 0
abbrev pub HasShardSize : ℕ → ℕ → Type 0
HasShardSize count bytes = (bytes ≢ 0) × (bytes % count ≡ 0)

-- why so many bytes are not
abbrev pub ShardSizeError : ℕ → ReedSolomonError → Type 0
ShardSizeError bytes error = (bytes ≡ 0 → error ≡ EmptyShard) × (bytes ≢ 0 → error ≡ IncorrectShardSize)

-- of k shards of data and m of parity each has a flag, and by these k are at hand
abbrev pub HaveEnough : ℕ → ℕ → List Bool → Type 0
HaveEnough k m present = (length present ≡ k + m) × (k ≤ present_count present)

-- why not
abbrev pub FlagsError : ℕ → ℕ → List Bool → ReedSolomonError → Type 0
FlagsError k m present error =
    (length present ≢ k + m → error ≡ InvalidShardFlags) × (length present ≡ k + m → error ≡ TooFewShardsPresent)

-- k shards of data and m of parity can be reconstructed: each has a flag, all have one size, and k of them are at hand
abbrev pub CanReconstruct : ℕ → ℕ → List Bool → List ℕ → Type 0
CanReconstruct k m present shards =
    (length present ≡ k + m) × HasShardSize (k + m) (length shards) × (k ≤ present_count present)

-- why they cannot
abbrev pub ReconstructError : ℕ → ℕ → List Bool → List ℕ → ReedSolomonError → Type 0
ReconstructError k m present shards error =
    (length present ≢ k + m → error ≡ InvalidShardFlags)
    × (length present ≡ k + m → (HasShardSize (k + m) (length shards) → ⊥) → ShardSizeError (length shards) error)
    × (length present ≡ k + m → HasShardSize (k + m) (length shards) → error ≡ TooFewShardsPresent)
