-- Rows that are packed in words: the bits behind their columns.
use Rattle.std.proofs.Common.{◌≡◌, ◌≢◌, inl, inr, ℕ, ◌+◌, ◌-◌, ◌*◌, ◌/◌, ◌%◌, ◌^◌, ◌<◌, ◌≤◌, List, slice_index, refl, sym, ◌∙◌, ap, subst, arith}
use Rattle.std.proofs.Math.Nat.{div-add-mod, div-eq_of_lt, mod-lt, mul_comm}
use Rattle.std.proofs.lemmas.Bool.{cases_lt}
use Rattle.std.proofs.lemmas.Nat.{pow_pos}
use Rattle.std.proofs.lemmas.Nat.Bits.{bit_at-lt, bit_at_above, bit_at_cat_low, same_from_bits}
use Rattle.std.specs.Int.{bit_at}
use Rattle.field_base.specs.Tower.{tower_mul}
use Rattle.field_base.proofs.BasisSums.{sum_below-zeros}
use Rattle.field_base.proofs.RingLemmas.{times-zero}
use Rattle.field_slices.specs.Matrices.{AreRowsReduced, HaveSameRowSpace, IsMatrixProduct}
use Rattle.field_slices.proofs.RowSpaces.{combination_row}
use Rattle.bits_packed.specs.BitMatrices.{bit_entry, word_of, words_for}
use Rattle.field_base.specs.lemmas.BitRing.{bits_ring}
use Rattle.c_calls.specs.BitMatrices.{AreBits, HasBitRank, IsBitReduced, bits}

-- ---- words

module _ (n used : ℕ) (fits : n < 2 ^ 64) where
  parts : n / 2 ^ used * 2 ^ used + n % 2 ^ used ≡ n
  parts = ap (λ (m : ℕ). m + n % 2 ^ used) (mul_comm (n / 2 ^ used) (2 ^ used)) ∙ div-add-mod n (2 ^ used)

  -- a word that is shifted to 0 has no bit from there on
  pub shifted_away : n / 2 ^ used ≡ 0 → (i : ℕ) → used ≤ i → bit_at n i ≡ 0
  shifted_away none i above = bit_at_above n used i below above
    where
      below : n < 2 ^ used
      below =
          let low = mod-lt n (pow_pos used) in
          let all : 0 * 2 ^ used + n % 2 ^ used ≡ n = ap (λ (q : ℕ). q * 2 ^ used + n % 2 ^ used) (sym none) ∙ parts in
          omega (arith, low, all)

  -- and one that has none is shifted to 0
  pub none_shifted : ((i : ℕ) → used ≤ i → i < 64 → bit_at n i ≡ 0) → n / 2 ^ used ≡ 0
  none_shifted none = div-eq_of_lt (subst (λ (m : ℕ). m < 2 ^ used) (sym same) (mod-lt n (pow_pos used)))
    where
      from : (i : ℕ) → used ≤ i → bit_at n i ≡ 0
      from i above =
          elim (cases_lt i 64) [
            | inl within ↦ none i above within
            | inr past ↦ bit_at_above n 64 i fits past
          ]

      same : n ≡ n % 2 ^ used
      same =
          same_from_bits n (n % 2 ^ used)
          (λ i.
          elim (cases_lt i used) [
            | inl low ↦ ap (λ (m : ℕ). bit_at m i) (sym parts) ∙ bit_at_cat_low (n / 2 ^ used) used (n % 2 ^ used) i low
            | inr high ↦ from i high ∙ sym (bit_at_above (n % 2 ^ used) used i (mod-lt n (pow_pos used)) high)
          ])

-- ---- the last word of a row

module _ (columns : ℕ) (words : List ℕ) (fits : (i : ℕ) → slice_index words i < 2 ^ 64) (part : columns % 64 ≢ 0) where
  abbrev last_of : ℕ → ℕ
  last_of i = slice_index words (i * words_for columns + (words_for columns - 1))

  in_last : (j : ℕ) → columns ≤ j → j < 64 * words_for columns → (j / 64 ≡ words_for columns - 1) × (columns % 64 ≤ j % 64)
  in_last j past inside = (omega (arith, past, inside, part), omega (arith, past, inside, part))

  -- rows whose last words have no bits behind the columns, one more
  pub bits_more : (n : ℕ) → last_of n / 2 ^ (columns % 64) ≡ 0 → AreBits n columns words → AreBits (n + 1) columns words
  bits_more n none before i j below past inside =
      elim (cases_lt i n) [
        | inl early ↦ before i j early past inside
        | inr late ↦ last late
      ]
    where
      last : n ≤ i → bits columns words i j ≡ 0
      last late =
          let same : n ≡ i = omega (arith, below, late) in
          let place = in_last j past inside in
          subst (λ (m : ℕ). bits columns words m j ≡ 0) same
          (ap (λ (v : ℕ). bit_at (slice_index words (n * words_for columns + v)) (j % 64)) place.0
          ∙ shifted_away (last_of n) (columns % 64) (fits (n * words_for columns + (words_for columns - 1))) none (j % 64) place.1)

  -- and the other way round
  pub bits_last : (rows n : ℕ) → n < rows → AreBits rows columns words → last_of n / 2 ^ (columns % 64) ≡ 0
  bits_last rows n within all =
      none_shifted (last_of n) (columns % 64) (fits (n * words_for columns + (words_for columns - 1)))
      (λ i above inside.
      let j = 64 * (words_for columns - 1) + i in
      let past : columns ≤ j = omega (arith, above, part) in
      let before : j < 64 * words_for columns = omega (arith, inside, part) in
      let word : words_for columns - 1 ≡ j / 64 = omega (arith, inside) in
      let bit : i ≡ j % 64 = omega (arith, inside) in
      ap (λ (v : ℕ). bit_at (slice_index words (n * words_for columns + v)) i) word
      ∙ ap (bit_at (slice_index words (n * words_for columns + j / 64))) bit ∙ all n j within past before)

-- ---- matrices

-- columns are among those of the words
pub columns_within : (columns : ℕ) → columns ≤ 64 * words_for columns
columns_within columns = omega arith

-- a product has no bits behind its columns, since the right matrix has none
pub product_bits : (rows inner columns : ℕ) (left right product : List ℕ) → AreBits inner columns right
    → IsMatrixProduct (tower_mul 0) rows inner (64 * words_for columns) (bits inner left) (bits columns right) (bits columns product)
    → AreBits rows columns product
    × IsMatrixProduct (tower_mul 0) rows inner columns (bits inner left) (bits columns right) (bits columns product)
product_bits rows inner columns left right product none is = (
  λ i j below past inside.
      is i j below inside
      ∙ sum_below-zeros (λ k. tower_mul 0 (bits inner left i k) (bits columns right k j)) inner
      (λ k within. ap (tower_mul 0 (bits inner left i k)) (none k j within past inside) ∙ times-zero 1 1 (tower_mul 0) bits_ring (bits inner left i k)),
  λ i j below within. is i j below (omega (arith, within, columns_within columns)),
)

-- row operations leave no bits behind the columns
pub reduced_bits : (rows columns rank : ℕ) (old new was pivots : List ℕ) → AreBits rows columns old
    → AreRowsReduced (bit_entry (words_for columns)) (tower_mul 0) rows columns columns rank old new was pivots
    → HaveSameRowSpace (tower_mul 0) rows (64 * words_for columns) (bits columns old) (bits columns new)
    → IsBitReduced rows columns old new was pivots rank
reduced_bits rows columns rank old new was pivots none is whole =
    record { elements = behind; reduced = is.reduced; rest = is.rest; space = is.space }
  where
    behind : AreBits rows columns new
    behind i j below past inside =
        let own =
        combination_row 1 (tower_mul 0) bits_ring rows (64 * words_for columns) (bits columns new) (λ k j. bit_at-lt (word_of (words_for columns) new k (j / 64)) (j % 64)) i (bits columns new i)
        below (λ k _. refl) in
        let found = (whole (bits columns new i)).1 own in
        found.1 j inside
        ∙ sum_below-zeros (λ k. tower_mul 0 (found.0 k) (bits columns old k j)) rows
        (λ k within. ap (tower_mul 0 (found.0 k)) (none k j within past inside) ∙ times-zero 1 1 (tower_mul 0) bits_ring (found.0 k))

-- and so the rank of a matrix is found by them
pub bit_rank_is : (rows columns rank : ℕ) (words copy new was pivots : List ℕ) → copy ≡ words
    → AreRowsReduced (bit_entry (words_for columns)) (tower_mul 0) rows columns columns rank copy new was pivots
    → HasBitRank rows columns words rank
bit_rank_is rows columns rank words copy new was pivots same is = (
  slice_index pivots,
  bits columns new,
  is.reduced,
  subst (λ (l : List ℕ). HaveSameRowSpace (tower_mul 0) rows columns (bits columns l) (bits columns new)) same is.space,
)
