-- What calls over matrices over GF(2) do, whose rows are packed in words of 64 bits, row after row (K. Hoffman and R. Kunze, Linear Algebra,
-- chapter 1): which status they return, and what they write.
use Rattle.std.specs.Prelude.{◌≡◌, ℕ, ◌*◌, ◌<◌, ◌≤◌, List, length, slice_index}
use Rattle.field_base.specs.Tower.{tower_mul}
use Rattle.field_slices.specs.Matrices.{HaveSameRowSpace, IsMatrixProduct, IsReducedEchelon}
use Rattle.bits_packed.specs.BitMatrices.{bit_entry, words_for}
use Rattle.c_calls.specs.Calls.{CallOf}

-- the entries of a matrix of so many columns
abbrev pub bits : ℕ → List ℕ → ℕ → ℕ → ℕ
bits columns words = bit_entry (words_for columns) words

-- so many words are those of a matrix of so many rows and columns
abbrev pub HasBitShape : ℕ → ℕ → ℕ → Type 0
HasBitShape rows columns count = count ≡ rows * words_for columns

-- the bits behind the columns of each row are 0
abbrev pub AreBits : ℕ → ℕ → List ℕ → Type 0
AreBits rows columns words = (i j : ℕ) → i < rows → columns ≤ j → j < 64 * words_for columns → bits columns words i j ≡ 0

-- a call that writes the product of a matrix of so many rows of `inner` bits and one of `inner` rows of so many columns
abbrev pub MultipliesBits : ℕ → ℕ → ℕ → List ℕ → List ℕ → List ℕ → List ℕ → ℕ → Type 0
MultipliesBits rows inner columns left right old new status =
    CallOf (HasBitShape rows inner (length left) × HasBitShape inner columns (length right) × HasBitShape rows columns (length old))
    (AreBits rows inner left × AreBits inner columns right)
    (AreBits rows columns new × IsMatrixProduct (tower_mul 0) rows inner columns (bits inner left) (bits columns right) (bits columns new)) old new
    status

-- a call that writes the transpose of a matrix of so many rows and columns
abbrev pub TransposesBits : ℕ → ℕ → List ℕ → List ℕ → List ℕ → ℕ → Type 0
TransposesBits rows columns words old new status =
    CallOf (HasBitShape rows columns (length words) × HasBitShape columns rows (length old)) (AreBits rows columns words)
    (AreBits columns rows new × ((i j : ℕ) → i < columns → j < rows → bits rows new i j ≡ bits columns words j i)) old new status

-- the matrix that is now there is the reduced row echelon form of the one before, of this rank, its leading entries have the columns with which
-- `pivots` begins, and behind these `pivots` is as it was
pub record IsBitReduced (rows columns : ℕ) (old new was pivots : List ℕ) (rank : ℕ) : Type 0 where
  pub elements : AreBits rows columns new
  pub reduced : IsReducedEchelon rows columns rank (slice_index pivots) (bits columns new)
  pub rest : (i : ℕ) → rank ≤ i → slice_index pivots i ≡ slice_index was i
  pub space : HaveSameRowSpace (tower_mul 0) rows columns (bits columns old) (bits columns new)

-- a call that brings a matrix to that form, and writes the columns and the rank
abbrev pub ReducesBitRows : ℕ → ℕ → List ℕ → List ℕ → ℕ → List ℕ → List ℕ → ℕ → ℕ → Type 0
ReducesBitRows rows columns old old_pivots old_rank new pivots rank status =
    CallOf {T = List ℕ × List ℕ × ℕ} (HasBitShape rows columns (length old) × (length old_pivots ≡ rows)) (AreBits rows columns old)
    (IsBitReduced rows columns old new old_pivots pivots rank) (old, old_pivots, old_rank) (new, pivots, rank) status

-- the rank of a matrix is that of its reduced row echelon form, of which there is one
abbrev pub HasBitRank : ℕ → ℕ → List ℕ → ℕ → Type 0
HasBitRank rows columns words rank =
    (pivot : ℕ → ℕ) × (B : ℕ → ℕ → ℕ)
    × IsReducedEchelon rows columns rank pivot B × HaveSameRowSpace (tower_mul 0) rows columns (bits columns words) B

-- a call that writes it, in so many words and places of space
abbrev pub TakesBitRank : ℕ → ℕ → List ℕ → ℕ → ℕ → ℕ → ℕ → ℕ → Type 0
TakesBitRank rows columns words space places old new status =
    CallOf (HasBitShape rows columns (length words) × HasBitShape rows columns space × (places ≡ rows)) (AreBits rows columns words)
    (HasBitRank rows columns words new) old new status
