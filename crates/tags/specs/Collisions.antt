-- How many keys let two different messages have hashes with a given difference (L. Carter and M. Wegman, Universal classes of hash
-- functions, 1979; D. McGrew and J. Viega, The security and performance of the Galois/Counter Mode, 2004): no more than the
-- messages have blocks, since their difference is a polynomial in the key. A message is the list of the numbers of its blocks.
use Rattle.std.specs.Prelude.{◌≡◌, ◌≢◌, ℕ, ◌^◌, ◌<◌, ◌≤◌, List, [], ◌∷◌, ◌++◌, length, reverse, slice_index, bit_xor}
use Rattle.std.specs.List.{All}
use Rattle.field_base.specs.Field.{IsField}
use Rattle.field_base.specs.PolynomialRoots.{AreDistinctBelow}
use Rattle.tags.specs.Gcm.{gcm_hash}
use Rattle.tags.specs.Hash.{polynomial_hash}
use Rattle.tags.specs.Polyval.{polyval_hash}

-- a message is at most n blocks of `width` bits
abbrev pub IsMessage : ℕ → ℕ → List ℕ → Type 0
IsMessage width n message = (length message ≤ n) × All (λ x. x < 2 ^ width) message

-- two messages have the same blocks, counted from the end, where a block that one does not have counts as zero: they differ by
-- blocks of zeros in front, which change no hash
abbrev pub HaveSameBlocks : List ℕ → List ℕ → Type 0
HaveSameBlocks left right = (i : ℕ) → slice_index (reverse left) i ≡ slice_index (reverse right) i

-- of one length such messages are one
abbrev pub SameLengthIsSame : Type 0
SameLengthIsSame = (left right : List ℕ) → length left ≡ length right → HaveSameBlocks left right → left ≡ right

-- messages with different last blocks, as those of GCM with different lengths, are not such
abbrev pub LastBlockDiffers : Type 0
LastBlockDiffers = (left right : List ℕ) (x y : ℕ) → x ≢ y → HaveSameBlocks (left ++ x ∷ []) (right ++ y ∷ []) → ⊥

-- of any different keys key 0, .., key (count - 1) that all give two different messages of at most n blocks hashes with this
-- difference, there are at most n
unfoldable pub AtMostCollide : ℕ → (ℕ → List ℕ → ℕ) → Type 0
AtMostCollide width hash = (n count difference : ℕ) (left right : List ℕ) (key : ℕ → ℕ)
    → IsMessage width n left → IsMessage width n right → (HaveSameBlocks left right → ⊥)
    → AreDistinctBelow count (2 ^ width) key
    → ((i : ℕ) → i < count → bit_xor (hash (key i) left) (hash (key i) right) ≡ difference)
    → count ≤ n

-- it holds of the hash by a polynomial over every field
abbrev pub PolynomialHashCollides : Type 0
PolynomialHashCollides = (width : ℕ) (times : ℕ → ℕ → ℕ) → 0 < width → IsField width times
    → AtMostCollide width (polynomial_hash times)

-- of GHASH
abbrev pub GhashCollides : Type 0
GhashCollides = AtMostCollide 128 gcm_hash

-- and of POLYVAL
abbrev pub PolyvalCollides : Type 0
PolyvalCollides = AtMostCollide 128 polyval_hash
