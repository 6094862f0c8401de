-- The missing shards that are written, and what they are in the end.
use Rattle.std.proofs.Common.{◌≡◌, ◌⊎◌, ℕ, ◌+◌, ◌*◌, ◌<◌, ◌≤◌, Bool, List, length, get_or, take, sym, ap, subst, arith, lit<}
use Rattle.field_base.specs.Codewords.{IsCodeword}
use Rattle.field_base.specs.Interpolation.{lagrange}
use Rattle.field_base.proofs.Codewords.{codeword_exists}
use Rattle.reed_solomon.specs.ByteFields.{byte_times}
use Rattle.reed_solomon.specs.declared.byte_field.ByteField.TheVariants.{Qr}
use Rattle.reed_solomon.specs.Samples.{IsSample, symbol_at}
use Rattle.reed_solomon.specs.Shards.{IsPresent, IsAmongFirst, IsReconstructed, present_count, shard_byte}
use Rattle.reed_solomon.proofs.ByteFields.{erasure_field}
use Rattle.reed_solomon.proofs.Samples.{sample_distinct}
use Rattle.field_base.proofs.BasisSums.{sum_below-same}

-- the symbols that two lists of shards give are the same where the shards at the places are
pub symbol_at-same : (count size : ℕ) (place : ℕ → ℕ) (old now : List ℕ) (column x : ℕ)
    → ((j : ℕ) → j < count → shard_byte size now (place j) column ≡ shard_byte size old (place j) column)
    → symbol_at count size place now column x ≡ symbol_at count size place old column x
symbol_at-same count size place old now column x same =
    sum_below-same (λ j. byte_times Qr (lagrange 8 (byte_times Qr) place count j x) (shard_byte size now (place j) column)) (λ j. byte_times Qr (lagrange 8 (byte_times Qr) place count j x) (shard_byte size old (place j) column)) count
    (λ j below. ap (byte_times Qr (lagrange 8 (byte_times Qr) place count j x)) (same j below))

-- the missing shards before shard `target` are written, and the others are as they were
pub record RestoresBefore (total size count : ℕ) (place : ℕ → ℕ) (present : List Bool) (old : List ℕ) (target : ℕ) (now : List ℕ) : Type 0 where
  pub long : length now ≡ length old
  pub missing : (i column : ℕ) → i < target → column < size → (IsPresent present i → ⊥)
      → shard_byte size now i column ≡ symbol_at count size place old column i
  pub others : (i column : ℕ) → i < total → column < size → (IsPresent present i) ⊎ (target ≤ i)
      → shard_byte size now i column ≡ shard_byte size old i column

-- what the sample gives is a codeword
pub sample_word : (total size count : ℕ) (present : List Bool) (places shards : List ℕ) (column : ℕ)
    → total ≤ 256 → IsSample count present total places count → ((i : ℕ) → get_or shards i 0 < 256)
    → IsCodeword (byte_times Qr) count total (symbol_at count size (λ j. get_or places j 0) shards column)
    × ((j : ℕ) → j < count → symbol_at count size (λ j. get_or places j 0) shards column (get_or places j 0)
    ≡ shard_byte size shards (get_or places j 0) column)
sample_word total size count present places shards column fits sample bytes =
    codeword_exists 8 (byte_times Qr) count total (λ j. get_or places j 0) (λ j. shard_byte size shards (get_or places j 0) column)
    (lit< tt) erasure_field fits (sample_distinct count present total places count total sample (omega arith))
    (λ j below. bytes (get_or places j 0 * size + column))

-- a shard among the first at hand is one of the sample, so that the codeword has its symbols
pub sample_agrees : (total size count : ℕ) (present : List Bool) (places shards : List ℕ) (column : ℕ)
    → total ≤ 256 → (sample : IsSample count present total places count) → ((i : ℕ) → get_or shards i 0 < 256)
    → (i : ℕ) → i < total → IsAmongFirst count present i
    → shard_byte size shards i column ≡ symbol_at count size (λ j. get_or places j 0) shards column i
sample_agrees total size count present places shards column fits sample bytes i within first =
    let found = sample.covers i within first in
    subst (λ (x : ℕ). shard_byte size shards x column ≡ symbol_at count size (λ j. get_or places j 0) shards column x) found.1
    (sym ((sample_word total size count present places shards column fits sample bytes).1 (present_count (take i present)) found.0))

pub all_restored : (total size count until : ℕ) (present : List Bool) (places old now : List ℕ)
    → total ≤ 256 → IsSample count present total places count → ((i : ℕ) → get_or old i 0 < 256)
    → RestoresBefore total size count (λ j. get_or places j 0) present old until now
    → IsReconstructed count total size until present old now
all_restored total size count until present places old now fits sample bytes done =
    record {
      keeps = done.others;
      restores = λ column inside.
          record {
            word = symbol_at count size (λ j. get_or places j 0) old column;
            is_codeword = (sample_word total size count present places old column fits sample bytes).0;
            agrees = sample_agrees total size count present places old column fits sample bytes;
            missing = λ i below absent. done.missing i column below inside absent;
          };
    }
