-- What calls over shards of an erasure code by transforms do: which status they return, and what they write.
use Rattle.std.specs.Prelude.{◌≡◌, ℕ, ◌+◌, ◌*◌, ◌/◌, ◌^◌, ◌<◌, ◌≤◌, List, length}
use Rattle.additive_transforms.specs.Words.{level_element}
use Rattle.reed_solomon.specs.Codes.{AreCodedColumns}
use Rattle.reed_solomon.specs.Locators.{lost_count}
use Rattle.reed_solomon.specs.Restoring.{AreRestoredColumns, is_missing}
use Rattle.reed_solomon.specs.TransformSizes.{HaveOneSize, IsPadded}
use Rattle.c_calls.specs.Bytes.{Answers, CallOfCode, flags_of}

-- 2 ^ n is the least power of two that is not below the k shards of data, and 2 ^ r the least that is not below 2 ^ n and the m shards of
-- parity together
pub record AreCounts (k m n r : ℕ) : Type 0 where
  pub coefficients : IsPadded k n
  pub points : IsPadded (2 ^ n + m) r

-- there is a code of so many shards, and the level has the points, so that missing shards are restored
pub record IsErasureCode (level k m n r : ℕ) : Type 0 where
  pub some_data : 0 < k
  pub some_parity : 0 < m
  pub few : 2 ^ n + m ≤ 65536
  pub points : 2 ^ r ≤ 2 ^ 2 ^ level

-- a call that tells how many words of space each call takes
abbrev pub TellsSpace : ℕ → ℕ → ℕ → ℕ → ℕ → ℕ → Type 0
TellsSpace level k m old new status =
    (n r : ℕ) → AreCounts k m n r → CallOfCode (IsErasureCode level k m n r) (Unit {0}) (Unit {0}) (new ≡ 40 * 2 ^ r) old new status

-- the words of data and of parity are those of shards of one size, and there is the space that a call takes
pub record FitErasure (k m r words parity_words space : ℕ) : Type 0 where
  pub sizes : HaveOneSize k m words parity_words
  pub room : 40 * 2 ^ r ≤ space

-- what calls do where 2 ^ n and 2 ^ r are those powers, and a word has an element
module _ {W : Type 0} (element : W → ℕ) (zero : W) (level k m n r : ℕ) where
  abbrev pub EncodesAt : List W → List W → List W → ℕ → ℕ → Type 0
  EncodesAt shards old new space status =
      CallOfCode (IsErasureCode level k m n r) (FitErasure k m r (length shards) (length old) space) (Unit {0})
      (AreCodedColumns element zero level n k m (length shards / k) shards new) old new status

  abbrev pub VerifiesAt : List W → List W → ℕ → ℕ → ℕ → ℕ → Type 0
  VerifiesAt shards parity space old new status =
      CallOfCode (IsErasureCode level k m n r) (FitErasure k m r (length shards) (length parity) space) (Unit {0})
      (Answers (AreCodedColumns element zero level n k m (length shards / k) shards parity) new) old new status

  abbrev pub ReconstructsAt : List ℕ → List W → List W → List W → List W → ℕ → ℕ → Type 0
  ReconstructsAt present shards parity new new_parity space status =
      CallOfCode {T = List W × List W} (IsErasureCode level k m n r)
      ((length present ≡ k + m) × FitErasure k m r (length shards) (length parity) space)
      (lost_count (is_missing (flags_of present)) (k + m) ≤ m)
      (AreRestoredColumns element zero level n k m (length shards / k) (flags_of present) (length shards / k) shards parity new new_parity)
      (shards, parity) (new, new_parity) status

module _ {W : Type 0} (number : W → ℕ) (zero : W) (level k m : ℕ) where
  -- a call that writes the parity of shards of data, whose words have numbers, of which the lowest bits are elements of the level
  abbrev pub EncodesErasure : List W → List W → List W → ℕ → ℕ → Type 0
  EncodesErasure shards old new space status =
      (n r : ℕ) → AreCounts k m n r → EncodesAt (level_element number level) zero level k m n r shards old new space status

  -- a call that answers whether the parity is that of the data
  abbrev pub VerifiesErasure : List W → List W → ℕ → ℕ → ℕ → ℕ → Type 0
  VerifiesErasure shards parity space old new status =
      (n r : ℕ) → AreCounts k m n r → VerifiesAt (level_element number level) zero level k m n r shards parity space old new status

  -- a call that restores the missing shards of data and of parity
  abbrev pub ReconstructsErasure : List ℕ → List W → List W → List W → List W → ℕ → ℕ → Type 0
  ReconstructsErasure present shards parity new new_parity space status =
      (n r : ℕ) → AreCounts k m n r
      → ReconstructsAt (level_element number level) zero level k m n r present shards parity new new_parity space status
