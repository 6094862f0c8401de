-- A secret from the records of shares.
use Rattle.std.specs.Prelude.{◌≡◌, ℕ, zero, suc, ◌<◌, List, [], ◌∷◌, ◌++◌, Bool, cond, length, slice_index}
use Rattle.field_base.specs.Powers.{value_of}
use Rattle.reed_solomon.specs.ByteFields.{byte_times}
use Rattle.error_codes.specs.Refusals.{AreShares}
use Rattle.error_codes.specs.Wrong.{AreNearPolynomials, is_wrong_share}
use Rattle.reed_solomon.specs.declared.byte_field.ByteField.{ByteField}
use Rattle.secret.specs.Records.{IsNumber}

-- the first n entries of a list whose places are marked
unfoldable pub entries_at : (ℕ → Bool) → List ℕ → ℕ → List ℕ
entries_at marked entries zero = []
entries_at marked entries (suc n) = entries_at marked entries n ++ cond (marked n) (slice_index entries n ∷ []) []

-- the secret of shares, the first of which has this record, and the indexes of the wrong ones: the values at 0 of
-- polynomials that the shares are near to, of as many coefficients as are needed, and the shares that miss these
pub record IsSecretOf (first indexes shares secret wrong : List ℕ) : Type 0 where
  pub field : ByteField
  pub number : IsNumber field (slice_index first 0)
  pub shares_are : AreShares (slice_index first 1) indexes (length secret) (length shares)
  pub polynomials : ℕ → List ℕ
  pub near : AreNearPolynomials field (slice_index first 1) indexes (length secret) shares polynomials
  pub at_zero : (j : ℕ) → j < length secret → slice_index secret j ≡ value_of 1 (byte_times field) (λ c. c) (polynomials j) 0
  pub named : wrong ≡ entries_at (is_wrong_share field indexes (length secret) shares polynomials) indexes (length indexes)
