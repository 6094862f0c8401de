-- The codes by their numbers.
use Rattle.std.proofs.Common.{◌≡◌, ◌≢◌, ◌↔◌, inl, inr, ℕ, ◌+◌, ◌%◌, ◌<◌, ◌≤◌, List, Result, Ok, Err, IfOk, arith}
use Rattle.reed_solomon.specs.Shards.{AreCodewords}
use Rattle.shard_files.specs.Codes.{AreTransformWords, HasCode, IsStripeWord, IsTransformCode}

module _ (code k m size : ℕ) where
  -- there is a code where what tells of it is told
  by_kind : {P Q : Type 0} → (P ↔ ((0 < k) × (0 < m) × Q)) → (Q → HasCode code k m size) → (HasCode code k m size → Q)
      → (P ↔ ((0 < k) × (0 < m) × HasCode code k m size))
  by_kind tells there back = (
    λ p. let told = tells.0 p in (told.0, told.1, there told.2),
    λ has. tells.1 (has.0, has.1, back has.2),
  )

  -- there is a code by matrices
  pub by_matrix : {P : Type 0} → code ≡ 1 → (P ↔ ((0 < k) × (0 < m) × (k + m ≤ 256))) → (P ↔ ((0 < k) × (0 < m) × HasCode code k m size))
  by_matrix is tells = by_kind tells there (λ has. has.matrix is)
    where
      there : k + m ≤ 256 → HasCode code k m size
      there few =
          record {
            first = omega (arith, is);
            last = omega (arith, is);
            matrix = λ same. few;
            transform = λ other. absurd (omega (arith, is, other));
            whole_words = λ other. absurd (omega (arith, is, other));
          }

  -- there is a code by transforms
  pub by_transform : {P : Type 0} → code ≡ 2 → size % 2 ≡ 0 → (P ↔ ((0 < k) × (0 < m) × IsTransformCode k m))
      → (P ↔ ((0 < k) × (0 < m) × HasCode code k m size))
  by_transform is even tells = by_kind tells there (λ has. has.transform is)
    where
      there : IsTransformCode k m → HasCode code k m size
      there has =
          record {
            first = omega (arith, is);
            last = omega (arith, is);
            matrix = λ other. absurd (omega (arith, is, other));
            transform = λ same. has;
            whole_words = λ same. even;
          }

  -- a code that is not that by matrices is that by transforms
  pub is_transform : HasCode code k m size → code ≢ 1 → code ≡ 2
  is_transform has other = omega (arith, has.first, has.last, other)

  -- what is a code word by a number is one of its code
  pub matrix_word : (shards : List ℕ) → code ≡ 1 → IsStripeWord code k m size shards → AreCodewords k (k + m) size shards
  matrix_word shards is word =
      elim word [
        | inl one ↦ one.1
        | inr two ↦ absurd (omega (arith, two.0, is))
      ]

  pub transform_word : (shards : List ℕ) → code ≢ 1 → IsStripeWord code k m size shards → AreTransformWords k m size shards
  transform_word shards other word =
      elim word [
        | inl one ↦ absurd (other one.0)
        | inr two ↦ two.1
      ]

-- what is said of a value where there is one
pub if_ok : {T E : Type 0} (P Q : T → Type 0) (result : Result T E) → ((value : T) → P value → Q value) → IfOk result P → IfOk result Q
if_ok P Q (Ok value) says said = says value said
if_ok P Q (Err error) says said = said
