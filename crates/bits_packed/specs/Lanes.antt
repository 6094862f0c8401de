-- Lanes. Lane i of packed bits is bit i of their number, which is bit i modulo W of word i divided by W.
use Rattle.std.specs.Prelude.{◌≡◌, ◌≢◌, ◌<◌, ℕ, ◌%◌, ◌^◌, List, slice_index, drop, bit_and}
use Rattle.field_base.specs.Chunks.{chunks}
use Rattle.std.specs.Int.{bit_at}
use Rattle.packed_lanes.specs.Lanes.{AreInterleaved}

-- lanes 0 to width - 1 of a number, in order
abbrev pub bits_of : ℕ → ℕ → List ℕ
bits_of width n = chunks 1 width n

-- lanes `next` to width - 1, in order
abbrev pub lanes_from : ℕ → ℕ → ℕ → List ℕ
lanes_from width next n = drop next (bits_of width n)

-- lane `lane` of `after` is `value`, and every other lane below `width` is that of `before`
abbrev pub IsWithLane : ℕ → ℕ → ℕ → ℕ → ℕ → Type 0
IsWithLane width before lane value after =
    (bit_at after lane ≡ value) × ((j : ℕ) → j < width → j ≢ lane → bit_at after j ≡ bit_at before j)

-- two results of interleaving by blocks of `block` lanes, in lanes 0 to width - 1
abbrev pub AreInterleavedLanes : ℕ → ℕ → ℕ → ℕ → ℕ → ℕ → Type 0
AreInterleavedLanes width block left right first second =
    AreInterleaved block (bits_of width left) (bits_of width right) (bits_of width first) (bits_of width second)

-- lane j of row i of the one is lane i of row j of the other
abbrev pub AreTransposed : ℕ → List ℕ → List ℕ → Type 0
AreTransposed width before after =
    (i j : ℕ) → i < width → j < width → bit_at (slice_index after i) j ≡ bit_at (slice_index before j) i

-- the product of packed bits: the lanes below `width` that are 1 in both
abbrev pub bitwise_product : ℕ → ℕ → ℕ → ℕ
bitwise_product width a b = bit_and a b % 2 ^ width

-- transposing a square matrix twice gives the matrix back
abbrev pub TransposingTwiceReturns : Type 0
TransposingTwiceReturns =
    (width : ℕ) (rows turned again : List ℕ)
    → ((i : ℕ) → slice_index rows i < 2 ^ width) → ((i : ℕ) → slice_index again i < 2 ^ width)
    → AreTransposed width rows turned → AreTransposed width turned again
    → (i : ℕ) → i < width → slice_index again i ≡ slice_index rows i
