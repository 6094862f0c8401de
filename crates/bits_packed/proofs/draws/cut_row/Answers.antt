use Rattle.std.proofs.Common.{◌≡◌, inl, inr, ℕ, ◌+◌, ◌*◌, ◌-◌, ◌/◌, ◌%◌, ◌^◌, ◌<◌, ◌≤◌, List, length, refl, sym, subst, ◌∙◌, ap, arith, one-mul}
use Rattle.std.specs.Prelude.{slice_index, slice_set}
use Rattle.std.specs.Int.{bit_at}
use Rattle.std.proofs.lemmas.Bool.{cases_lt}
use Rattle.std.proofs.lemmas.Nat.{mod_below, pow_below, pow_pos}
use Rattle.std.proofs.lemmas.Nat.Bits.{bit_at_above}
use native.Mathlib.Nat.{mod-eq_of_lt}
use Rattle.field_base.proofs.BasisSums.{bit_at-mod}
use Rattle.bits_packed.specs.BitMatrices.{IsBitRowWritten, IsRangeWritten, bit_entry, kept_before}
use Rattle.bits_packed.proofs.BitRows.{kept-behind, kept-front, row_written}
use Rattle.bits_packed.proofs.WordRanges.{range_end, range_start, range_step}
use Rattle.bits_packed.proofs.draws.cut_row.Goals as goal

-- the last word of a row keeps the bits before a column
module _ (words row column own value : ℕ) (old : List ℕ) (last : column / 64 + 1 ≡ words) (own_is : own ≡ row * words + column / 64)
    (inside : own < length old) (value_is : value ≡ slice_index old own % 2 ^ (column % 64)) where
  write : IsRangeWritten own (words - column / 64) (λ p. value) old (slice_set old own value)
  write =
      let place : own + 0 ≡ own = omega arith in
      subst (λ (x : ℕ). IsRangeWritten own (words - column / 64) (λ p. value) old (slice_set old x value)) place
      (range_end (range_step range_start value (omega (arith, inside)) refl)
      (words - column / 64) (omega (arith, last)))

  bits : (j : ℕ) → 64 * (column / 64) ≤ j → j < 64 * words → bit_at value (j % 64) ≡ kept_before column (bit_entry words old row) j
  bits j past within =
      let place : own ≡ row * words + j / 64 = omega (arith, own_is, last, past, within) in
      let word = slice_index old own in
      ap (λ (x : ℕ). bit_at x (j % 64)) value_is
      ∙ elim (cases_lt j column) [
        | inl before ↦ bit_at-mod word (column % 64) (j % 64) (omega (arith, past, before))
            ∙ ap (λ (p : ℕ). bit_at (slice_index old p) (j % 64)) place ∙ sym (kept-front column (bit_entry words old row) j before)
        | inr behind ↦
            bit_at_above (word % 2 ^ (column % 64)) (column % 64) (j % 64) (mod_below word (2 ^ (column % 64)) (pow_pos (column % 64)))
            (omega (arith, behind, last, within))
            ∙ sym (kept-behind column (bit_entry words old row) j behind)
      ]

  row_cut : IsBitRowWritten words row (kept_before column (bit_entry words old row)) old (slice_set old own value)
  row_cut =
      row_written words row (column / 64) own (λ p. value) old (slice_set old own value) (omega (arith, last)) own_is write
      (kept_before column (bit_entry words old row))
      (λ j before. sym (kept-front column (bit_entry words old row) j (omega (arith, before)))) bits

pub returns-then-column-ne0 : goal.returns-then-column-ne0
returns-then-column-ne0 c =
    let k = c.args.column % 64 in
    let few : k < 64 = omega arith in
    row_cut c.args.shape.words c.args.row c.args.column c.place-own.result _ c.args.matrix.now
    (omega (arith, c.requires.inside, c.requires.last, c.if-column-ne0.true)) c.place-own.ensures.is (omega (arith, c.place-own.ensures.inside, few))
    (ap (λ (m : ℕ). slice_index c.args.matrix.now c.place-own.result % m)
    (ap (λ (m : ℕ). m % 2 ^ 64) (one-mul (2 ^ k)) ∙ mod-eq_of_lt (pow_below k 64 few)))
