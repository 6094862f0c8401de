-- The codes of stripes, by their numbers: 1 for the code over bytes by matrices, 2 for the one over words of 16 bits by
-- transforms; and their code words: all shards of a stripe, of `size` bytes each, one after the other, of which the first k are the data.
use Rattle.std.specs.Prelude.{◌≡◌, ◌⊎◌, ℕ, ◌+◌, ◌*◌, ◌/◌, ◌%◌, ◌^◌, ◌<◌, ◌≤◌, List, length, slice_index}
use Rattle.reed_solomon.specs.Shards.{AreCodewords}
use Rattle.additive_transforms.specs.Words.{level_element}
use Rattle.reed_solomon.specs.Codes.{AreCodedColumns}
use Rattle.reed_solomon.specs.TransformSizes.{IsPadded}

-- the bytes at a place and behind it are the lower and the higher one of a word
pub record IsWordAt (bytes : List ℕ) (place word : ℕ) : Type 0 where
  pub lower : slice_index bytes place ≡ word % 256
  pub higher : slice_index bytes (place + 1) ≡ word / 256 % 256

-- words are those of bytes, from their word `first` on
abbrev pub AreWordsOf : List ℕ → ℕ → List ℕ → Type 0
AreWordsOf bytes first words = (i : ℕ) → i < length words → IsWordAt bytes (2 * (first + i)) (slice_index words i)

-- shards of `half` words each are those of k of data and m of parity
pub record AreShardWords (k m half : ℕ) (shards words parity : List ℕ) : Type 0 where
  pub long : length words ≡ k * half
  pub parity_long : length parity ≡ m * half
  pub are : AreWordsOf shards 0 words
  pub parity_are : AreWordsOf shards (k * half) parity

-- their words are, and each column is a code word of the code by transforms
pub record AreTransformWords (k m size : ℕ) (shards : List ℕ) : Type 0 where
  pub half : ℕ
  pub even : size ≡ 2 * half
  pub levels : ℕ
  pub padded : IsPadded k levels
  pub words : List ℕ
  pub parity : List ℕ
  pub are : AreShardWords k m half shards words parity
  pub columns : AreCodedColumns (level_element (λ word. word) 4) 0 4 levels k m half words parity

-- all shards of a stripe are a code word of a code
abbrev pub IsStripeWord : ℕ → ℕ → ℕ → ℕ → List ℕ → Type 0
IsStripeWord code k m size shards =
    ((code ≡ 1) × AreCodewords k (k + m) size shards) ⊎ ((code ≡ 2) × AreTransformWords k m size shards)

-- the code by transforms has so many shards: some power of two that is not below k, and m, are together no more than the points of the level
-- of 16 bits
abbrev pub IsTransformCode : ℕ → ℕ → Type 0
IsTransformCode k m = ((n : ℕ) → k ≤ 2 ^ n → 2 ^ 2 ^ 4 < 2 ^ n + m) → ⊥

-- the code of that number has so many shards, of so many bytes in a stripe
pub record HasCode (code k m size : ℕ) : Type 0 where
  pub first : 0 < code
  pub last : code ≤ 2
  pub matrix : code ≡ 1 → k + m ≤ 256
  pub transform : code ≡ 2 → IsTransformCode k m
  pub whole_words : code ≡ 2 → size % 2 ≡ 0
