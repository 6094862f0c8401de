-- The vectors of a null space over GF(2), written bit by bit.
use Rattle.std.proofs.Common.{◌≡◌, ◌≢◌, ℕ, ◌+◌, ◌*◌, ◌<◌, ◌≤◌, List, sym, subst, ◌∙◌, ap, arith, below_more}
use Rattle.std.specs.Prelude.{bit_xor}
use Rattle.std.specs.Int.Bits.{xor_zero_l}
use Rattle.field_slices.specs.Matrices.{null_entry}
use Rattle.field_slices.proofs.NullSpaces.{null-apart, null_step}
use Rattle.field_slices.proofs.RowSpaces.{only-other}
use Rattle.bits_packed.specs.BitMatrices.{IsBitRowWritten, IsBitWritten, bit_entry}

module _ (pivot : ℕ → ℕ) (A : ℕ → ℕ → ℕ) (f : ℕ) where
  -- at the column of each leading entry the bit of its row is added to 0
  pub bit_null_step : (words : ℕ) {row n value : ℕ} {old now next : List ℕ} → value ≡ A n f → pivot n < 64 * words
      → ((k : ℕ) → k < n → pivot k < pivot n) → pivot n ≢ f
      → IsBitRowWritten words row (null_entry pivot A f n) old now
      → IsBitWritten words row (pivot n) (bit_xor (bit_entry words now row (pivot n)) value) now next
      → IsBitRowWritten words row (null_entry pivot A f (n + 1)) old next
  bit_null_step words {n = n} {value = value} is fits rises free so_far write =
      null_step pivot A f is so_far
      (record {
        shape = write.shape;
        written = write.written
            ∙ ap (λ (x : ℕ). bit_xor x value)
            (so_far.entries (pivot n) fits
            ∙ null-apart pivot A f n (pivot n) (λ k below e. let rise = rises k below in absurd (omega (arith, rise, e)))
            ∙ only-other (pivot n) 1 f (λ e. free (sym e)))
            ∙ xor_zero_l value;
        others = write.others;
      })

  -- behind the columns it is 0
  pub null-behind : (n columns j : ℕ) → ((k : ℕ) → k < n → pivot k < columns) → f < columns → columns ≤ j → null_entry pivot A f n j ≡ 0
  null-behind n columns j fits inside past =
      null-apart pivot A f n j (λ k below e. let less = fits k below in absurd (omega (arith, less, past, e)))
      ∙ only-other j 1 f (λ e. absurd (omega (arith, e, inside, past)))

-- ---- the bits behind the columns

-- those of the first n rows are 0
abbrev pub BehindZero : ℕ → ℕ → List ℕ → ℕ → Type 0
BehindZero words columns values n = (q j : ℕ) → q < n → columns ≤ j → j < 64 * words → bit_entry words values q j ≡ 0

pub behind_same : (words columns : ℕ) {values next : List ℕ} {n m : ℕ} → BehindZero words columns values n → next ≡ values → m ≡ n
    → BehindZero words columns next m
behind_same words columns {values} {next} {n} {m} so_far values_same count_same =
    subst (λ (list : List ℕ). BehindZero words columns list m) (sym values_same)
    (subst (λ (k : ℕ). BehindZero words columns values k) (sym count_same) so_far)

pub behind_more : (words columns : ℕ) {n : ℕ} {wanted : ℕ → ℕ} {old now : List ℕ} → BehindZero words columns old n
    → IsBitRowWritten words n wanted old now → ((j : ℕ) → columns ≤ j → wanted j ≡ 0) → BehindZero words columns now (n + 1)
behind_more words columns {n} {now = now} so_far write zeros q j below past inside =
    below_more (λ k. bit_entry words now k j ≡ 0) n
    (λ k before. write.others k j (λ e. absurd (omega (arith, e, before))) inside ∙ so_far k j before past inside)
    (write.entries j inside ∙ zeros j past) q below
