-- When a secret can be split and shares can be combined, and why not: the first reason that applies.
use Rattle.std.specs.Prelude.{◌≡◌, ◌≢◌, ℕ, ◌-◌, ◌*◌, ◌^◌, ◌<◌, ◌≤◌, List, length, slice_index}
use Rattle.field_base.specs.PolynomialRoots.{AreDistinctBelow}
use Rattle.error_codes.specs.Sharing.{LieOnPolynomials}
use Rattle.error_codes.specs.declared.sharing_error.SharingError.{SharingError}
use Rattle.error_codes.specs.declared.sharing_error.SharingError.TheVariants.{EmptySecret, EqualIndexes, TooFewNeeded, TooFewShares, TooManyShares, UnequalLengths, WrongDraws, WrongShare, ZeroIndex}
use Rattle.reed_solomon.specs.declared.byte_field.ByteField.{ByteField}

-- a secret of `size` bytes can be split, by so many drawn bytes, into shares of so many bytes in all: k of `count`
-- shares are needed
pub record CanSplit (k count size drawn bytes : ℕ) : Type 0 where
  pub two : 2 ≤ k
  pub enough : k ≤ count
  pub few : count ≤ 255
  pub some : size ≢ 0
  pub draws : drawn ≡ (k - 1) * size
  pub room : bytes ≡ count * size

-- why it cannot be split
abbrev pub RefusesSplit : ℕ → ℕ → ℕ → ℕ → ℕ → SharingError → Type 0
RefusesSplit k count size drawn bytes TooFewNeeded = k < 2
RefusesSplit k count size drawn bytes TooFewShares = (2 ≤ k) × (count < k)
RefusesSplit k count size drawn bytes TooManyShares = (2 ≤ k) × (k ≤ count) × (255 < count)
RefusesSplit k count size drawn bytes EmptySecret = (2 ≤ k) × (k ≤ count) × (count ≤ 255) × (size ≡ 0)
RefusesSplit k count size drawn bytes WrongDraws =
    (2 ≤ k) × (k ≤ count) × (count ≤ 255) × (size ≢ 0) × (drawn ≢ (k - 1) * size)
RefusesSplit k count size drawn bytes UnequalLengths =
    (2 ≤ k) × (k ≤ count) × (count ≤ 255) × (size ≢ 0) × (drawn ≡ (k - 1) * size) × (bytes ≢ count * size)
RefusesSplit k count size drawn bytes ZeroIndex = ⊥
RefusesSplit k count size drawn bytes EqualIndexes = ⊥
RefusesSplit k count size drawn bytes WrongShare = ⊥

-- no index is 0
abbrev pub AreNonzero : List ℕ → Type 0
AreNonzero indexes = (i : ℕ) → i < length indexes → slice_index indexes i ≢ 0

-- no two indexes are equal, and each is a byte
abbrev pub AreDistinct : List ℕ → Type 0
AreDistinct indexes = AreDistinctBelow (length indexes) (2 ^ 8) (slice_index indexes)

-- shares of so many bytes in all, at these indexes, are those of a secret of `size` bytes of which k are needed
pub record AreShares (k : ℕ) (indexes : List ℕ) (size bytes : ℕ) : Type 0 where
  pub two : 2 ≤ k
  pub enough : k ≤ length indexes
  pub few : length indexes ≤ 255
  pub nonzero : AreNonzero indexes
  pub distinct : AreDistinct indexes
  pub some : size ≢ 0
  pub room : bytes ≡ length indexes * size

-- why they cannot be combined
abbrev pub RefusesCombine : ByteField → ℕ → List ℕ → ℕ → List ℕ → SharingError → Type 0
RefusesCombine field k indexes size shares TooFewNeeded = k < 2
RefusesCombine field k indexes size shares TooFewShares = (2 ≤ k) × (length indexes < k)
RefusesCombine field k indexes size shares ZeroIndex =
    (2 ≤ k) × (k ≤ length indexes) × (length indexes ≤ 255) × ((i : ℕ) × (i < length indexes) × (slice_index indexes i ≡ 0))
RefusesCombine field k indexes size shares EqualIndexes =
    (2 ≤ k) × (k ≤ length indexes) × (length indexes ≤ 255) × AreNonzero indexes
    × ((i j : ℕ) × (i < j) × (j < length indexes) × (slice_index indexes i ≡ slice_index indexes j))
RefusesCombine field k indexes size shares EmptySecret =
    (2 ≤ k) × (k ≤ length indexes) × (length indexes ≤ 255) × AreNonzero indexes × AreDistinct indexes × (size ≡ 0)
RefusesCombine field k indexes size shares UnequalLengths =
    (2 ≤ k) × (k ≤ length indexes) × (length indexes ≤ 255) × AreNonzero indexes × AreDistinct indexes × (size ≢ 0)
    × (length shares ≢ length indexes * size)
RefusesCombine field k indexes size shares WrongShare =
    AreShares k indexes size (length shares) × (LieOnPolynomials field k indexes size shares → ⊥)
RefusesCombine field k indexes size shares TooManyShares = (2 ≤ k) × (k ≤ length indexes) × (255 < length indexes)
RefusesCombine field k indexes size shares WrongDraws = ⊥
