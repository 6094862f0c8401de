use Rattle.std.proofs.Common.{◌≡◌, ◌+◌, ◌-◌, ◌*◌, ◌/◌, ◌%◌, ◌^◌, ℕ, List, slice_index, sym, ◌∙◌, ap}
use Rattle.std.proofs.lemmas.Bool.{false≢true}
use Rattle.bits_packed.specs.BitMatrices.{words_for}
use Rattle.c_calls.proofs.PackedRows.{bits_last, bits_more}
use Rattle.c_calls.proofs.bit_matrices.are_bits.Goals as goal

-- what is behind the columns of the last word of a row, where a row has so many words
behind_last : (columns i : ℕ) (words : List ℕ) (n : ℕ) → n ≡ words_for columns
    → slice_index words (i * n + (n - 1)) / 2 ^ (columns % 64) ≡ slice_index words (i * words_for columns + (words_for columns - 1)) / 2 ^ (columns % 64)
behind_last columns i words n is = ap (λ (m : ℕ). slice_index words (i * m + (m - 1)) / 2 ^ (columns % 64)) is

pub returns-then-matrix-i-ne0 : goal.returns-then-matrix-i-ne0
returns-then-matrix-i-ne0 c = (
  (λ wrong. absurd (false≢true wrong)),
  λ all. absurd (c.if-matrix-i-ne0.true
      (behind_last c.args.columns c.loop-i.i c.args.matrix.now c.div_ceil-words.result c.div_ceil-words.ensures
      ∙ bits_last c.args.columns c.args.matrix.now (λ i. (c.type_inv.matrix i).fits) c.if-used-eq0.false c.args.rows c.loop-i.i c.loop-i-test.true all)),
)

pub loop-i-preserved : goal.loop-i-preserved
loop-i-preserved c =
    bits_more c.args.columns c.args.matrix.now (λ i. (c.type_inv.matrix i).fits) c.if-used-eq0.false c.loop-i.i
    (sym (behind_last c.args.columns c.loop-i.i c.args.matrix.now c.div_ceil-words.result c.div_ceil-words.ensures) ∙ c.if-matrix-i-ne0.false)
    c.loop-i.invariant
