-- Calls that share a secret. A number names the field of bytes whose modulus it is: 0x11b that of AES, and 0x11d that of libgfshare.
use Rattle.std.specs.Prelude.{◌≡◌, ◌≢◌, ℕ, ◌-◌, ◌*◌, ◌<◌, ◌≤◌, List, cond, length, slice_index}
use Rattle.field_base.specs.Powers.{value_of}
use Rattle.reed_solomon.specs.ByteFields.{byte_modulus, byte_times}
use Rattle.error_codes.specs.Refusals.{AreDistinct, AreNonzero, AreShares}
use Rattle.error_codes.specs.Sharing.{AreSplit, IsCombined, LieOnPolynomials}
use Rattle.error_codes.specs.Wrong.{AreNearPolynomials, is_wrong_share}
use Rattle.reed_solomon.specs.declared.byte_field.ByteField.{ByteField}
use Rattle.reed_solomon.specs.declared.byte_field.ByteField.TheVariants.{Ccsds}
use Rattle.c_calls.specs.Bytes.{CallOfCode}
use Rattle.c_calls.specs.declared.status.TheConstants.{OK, LENGTH, CODE, TOO_FEW_SHARDS, UNSOLVABLE}

-- the number is the modulus of a field over which secrets are shared: those of AES and of libgfshare
abbrev pub IsShareModulus : ℕ → Type 0
IsShareModulus modulus = (field : ByteField) × (byte_modulus field ≡ modulus) × (field ≢ Ccsds)

-- a secret has so many shares over that field, of which k are needed
pub record IsSharing (modulus k count : ℕ) : Type 0 where
  pub known : IsShareModulus modulus
  pub two : 2 ≤ k
  pub enough : k ≤ count
  pub few : count ≤ 255

-- the bytes of a secret, those drawn for it and those of its shares are as many as they have to be
pub record FitSharing (k count size drawn bytes : ℕ) : Type 0 where
  pub some : size ≢ 0
  pub draws : drawn ≡ (k - 1) * size
  pub room : bytes ≡ count * size

-- a call that splits a secret into shares, of which k are needed
abbrev pub SplitsSecret : ℕ → ℕ → ℕ → List ℕ → List ℕ → List ℕ → List ℕ → ℕ → Type 0
SplitsSecret modulus k count secret draws old new status =
    CallOfCode (IsSharing modulus k count) (FitSharing k count (length secret) (length draws) (length old)) (Unit {0})
    (((field : ByteField) → byte_modulus field ≡ modulus → AreSplit field (k - 1) count secret draws new) × (length new ≡ length old)) old new status

-- the indexes of shares are at most 255 bytes, none of them 0 and no two equal
abbrev pub AreIndexes : List ℕ → Type 0
AreIndexes indexes = (length indexes ≤ 255) × AreNonzero indexes × AreDistinct indexes

-- for the field of that modulus the shares lie on polynomials of k coefficients
abbrev pub Agree : ℕ → ℕ → List ℕ → ℕ → List ℕ → Type 0
Agree modulus k indexes size shares =
    (field : ByteField) → byte_modulus field ≡ modulus → LieOnPolynomials field k indexes size shares

-- a call that restores a secret from shares, of which k are needed: that there is no such field or k is told first, then that there are too few
-- shares, then wrong indexes, then lengths, and then that no secret has these shares
pub record CombinesShares (modulus k : ℕ) (indexes shares old new : List ℕ) (status : ℕ) : Type 0 where
  pub code : ¬ (IsShareModulus modulus × (2 ≤ k)) → status ≡ CODE
  pub few : IsShareModulus modulus → 2 ≤ k → length indexes < k → status ≡ TOO_FEW_SHARDS
  pub wrong_indexes : IsShareModulus modulus → 2 ≤ k → k ≤ length indexes → ¬ AreIndexes indexes → status ≡ CODE
  pub wrong_lengths : IsShareModulus modulus → 2 ≤ k → k ≤ length indexes → AreIndexes indexes
      → ¬ ((length old ≢ 0) × (length shares ≡ length indexes * length old)) → status ≡ LENGTH
  pub wrong_shares : IsShareModulus modulus → 2 ≤ k → k ≤ length indexes → AreIndexes indexes → length old ≢ 0
      → length shares ≡ length indexes * length old → ¬ Agree modulus k indexes (length old) shares → status ≡ UNSOLVABLE
  pub ok : IsShareModulus modulus → 2 ≤ k → k ≤ length indexes → AreIndexes indexes → length old ≢ 0
      → length shares ≡ length indexes * length old → Agree modulus k indexes (length old) shares
      → (status ≡ OK) × ((field : ByteField) → byte_modulus field ≡ modulus → IsCombined field k indexes shares new) × (length new ≡ length old)
  pub kept : status ≢ OK → new ≡ old

-- for the field of that modulus there are polynomials of k coefficients that few shares miss
abbrev pub AreNear : ℕ → ℕ → List ℕ → ℕ → List ℕ → Type 0
AreNear modulus k indexes size shares =
    (field : ByteField) × (byte_modulus field ≡ modulus) × (polynomials : ℕ → List ℕ)
    × AreNearPolynomials field k indexes size shares polynomials

-- a secret is the values at 0 of polynomials, and a byte for each share says whether it misses them
pub record IsRightSecret (field : ByteField) (indexes shares : List ℕ) (polynomials : ℕ → List ℕ) (secret wrong : List ℕ) : Type 0 where
  pub bytes : (j : ℕ) → j < length secret → slice_index secret j ≡ value_of 1 (byte_times field) (λ c. c) (polynomials j) 0
  pub named : (i : ℕ) → i < length indexes
      → slice_index wrong i ≡ cond (is_wrong_share field indexes (length secret) shares polynomials i) 1 0

-- a call that restores a secret from shares, some of which may be wrong, and says which: that there is no such field is told first, then that
-- there is not one answer for each share, and then what `CombinesShares` tells
pub record CorrectsShares (modulus k : ℕ) (indexes shares old old_wrong new new_wrong : List ℕ) (status : ℕ) : Type 0 where
  pub code : ¬ IsShareModulus modulus → status ≡ CODE
  pub answers : IsShareModulus modulus → length old_wrong ≢ length indexes → status ≡ LENGTH
  pub needed : IsShareModulus modulus → length old_wrong ≡ length indexes → k < 2 → status ≡ CODE
  pub few : IsShareModulus modulus → length old_wrong ≡ length indexes → 2 ≤ k → length indexes < k → status ≡ TOO_FEW_SHARDS
  pub wrong_indexes : IsShareModulus modulus → length old_wrong ≡ length indexes → 2 ≤ k → k ≤ length indexes → ¬ AreIndexes indexes
      → status ≡ CODE
  pub wrong_lengths : IsShareModulus modulus → length old_wrong ≡ length indexes → 2 ≤ k → k ≤ length indexes → AreIndexes indexes
      → ¬ ((length old ≢ 0) × (length shares ≡ length indexes * length old)) → status ≡ LENGTH
  pub far : IsShareModulus modulus → length old_wrong ≡ length indexes → AreShares k indexes (length old) (length shares)
      → ¬ AreNear modulus k indexes (length old) shares → status ≡ UNSOLVABLE
  pub ok : IsShareModulus modulus → length old_wrong ≡ length indexes → AreShares k indexes (length old) (length shares)
      → AreNear modulus k indexes (length old) shares
      → (status ≡ OK) × (length new ≡ length old) × (length new_wrong ≡ length old_wrong)
      × ((field : ByteField) (polynomials : ℕ → List ℕ) → byte_modulus field ≡ modulus
      → AreNearPolynomials field k indexes (length old) shares polynomials → IsRightSecret field indexes shares polynomials new new_wrong)
  pub kept : status ≢ OK → (new ≡ old) × (new_wrong ≡ old_wrong)
