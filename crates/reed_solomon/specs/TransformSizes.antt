-- Which codes there are, and which slices are shards of one.
use Rattle.std.specs.Prelude.{◌≡◌, ◌≢◌, ℕ, ◌+◌, ◌*◌, ◌/◌, ◌%◌, ◌^◌, ◌<◌, ◌≤◌, Bool, List, length}
use Rattle.reed_solomon.specs.declared.transform_error.TransformCodeError.{TransformCodeError}
use Rattle.reed_solomon.specs.declared.transform_error.TransformCodeError.TheVariants.{TooManyShards, InvalidShardFlags, EmptyShard, IncorrectShardSize, TooFewShardsPresent, TooLittleSpace}
use Rattle.reed_solomon.specs.Locators.{lost_count}
use Rattle.reed_solomon.specs.Restoring.{is_missing}

-- 2 ^ n is the least power of two that is not below k
pub record IsPadded (k n : ℕ) : Type 0 where
  pub enough : k ≤ 2 ^ n
  pub least : (j : ℕ) → k ≤ 2 ^ j → n ≤ j

-- words of k shards of data and of m of parity have one size, which is not 0
pub record HaveOneSize (k m words parity_words : ℕ) : Type 0 where
  pub some : words ≢ 0
  pub whole : words % k ≡ 0
  pub parity_whole : parity_words % m ≡ 0
  pub same : parity_words / m ≡ words / k

-- why they have none: the first that applies
pub record SizeError (k m words parity_words : ℕ) (error : TransformCodeError) : Type 0 where
  pub empty : words ≡ 0 → error ≡ EmptyShard
  pub whole : words ≢ 0 → words % k ≢ 0 → error ≡ IncorrectShardSize
  pub parity_whole : words ≢ 0 → parity_words % m ≢ 0 → error ≡ IncorrectShardSize
  pub same : words ≢ 0 → parity_words / m ≢ words / k → error ≡ IncorrectShardSize

-- the level has the points of a code, words of k shards of data and of m of parity have one size, and there is space for so many words
pub record CanEncode (level n k m words parity_words needed space : ℕ) : Type 0 where
  pub points : 2 ^ n + m ≤ 2 ^ 2 ^ level
  pub sizes : HaveOneSize k m words parity_words
  pub room : needed ≤ space

-- why they are not encoded or compared: the first that applies
pub record EncodeError (level n k m words parity_words : ℕ) (error : TransformCodeError) : Type 0 where
  pub points : 2 ^ 2 ^ level < 2 ^ n + m → error ≡ TooManyShards
  pub sizes : 2 ^ n + m ≤ 2 ^ 2 ^ level → SizeError k m words parity_words error
  pub room : 2 ^ n + m ≤ 2 ^ 2 ^ level → HaveOneSize k m words parity_words → error ≡ TooLittleSpace

-- `CanEncode` for shards that are restored at 2 ^ r points: with a flag for each, no more lost than there are of parity, and space for five
-- times as many words as points
pub record CanRebuild (level r k m words parity_words space : ℕ) (present : List Bool) : Type 0 where
  pub flags : length present ≡ k + m
  pub points : 2 ^ r ≤ 2 ^ 2 ^ level
  pub sizes : HaveOneSize k m words parity_words
  pub enough : lost_count (is_missing present) (length present) ≤ m
  pub room : 5 * 2 ^ r ≤ space

-- why they are not restored: the first that applies
pub record RebuildError (level r k m words parity_words space : ℕ) (present : List Bool) (error : TransformCodeError) : Type 0 where
  pub flags : length present ≢ k + m → error ≡ InvalidShardFlags
  pub points : length present ≡ k + m → 2 ^ 2 ^ level < 2 ^ r → error ≡ TooManyShards
  pub sizes : length present ≡ k + m → 2 ^ r ≤ 2 ^ 2 ^ level → SizeError k m words parity_words error
  pub enough : length present ≡ k + m → 2 ^ r ≤ 2 ^ 2 ^ level → HaveOneSize k m words parity_words
      → m < lost_count (is_missing present) (length present) → error ≡ TooFewShardsPresent
  pub room : length present ≡ k + m → 2 ^ r ≤ 2 ^ 2 ^ level → HaveOneSize k m words parity_words
      → lost_count (is_missing present) (length present) ≤ m → error ≡ TooLittleSpace
