-- What shares are good for: any k of them restore the secret, and k - 1 say nothing of it, since each secret has
-- exactly one choice of drawn bytes that gives them (A. Shamir, How to share a secret, 1979; perfect secrecy as C. E.
-- Shannon has it, Communication theory of secrecy systems, 1949).
use Rattle.std.specs.Prelude.{◌≡◌, ℕ, ◌+◌, ◌-◌, ◌*◌, ◌^◌, ◌<◌, ◌≤◌, List, ◌∷◌, Bool, cond, length, nat_eq, not, slice_index}
use Rattle.field_base.specs.Powers.{value_of}
use Rattle.field_slices.specs.Marks.{marked_below}
use Rattle.field_slices.specs.Openings.{sum_lists}
use Rattle.error_codes.specs.Secrets.{are_shares}
use Rattle.reed_solomon.specs.ByteFields.{byte_times}
use Rattle.error_codes.specs.Refusals.{AreDistinct, AreNonzero}
use Rattle.error_codes.specs.Sharing.{AreSplit, IsCombined, LieOnPolynomials, coefficients, share_at, share_byte}
use Rattle.error_codes.specs.Wrong.{AreNearPolynomials, is_wrong_share}
use Rattle.reed_solomon.specs.declared.byte_field.ByteField.{ByteField}

-- the entries of a list are bytes
abbrev pub FitBytes : List ℕ → Type 0
FitBytes bytes = (p : ℕ) → slice_index bytes p < 2 ^ 8

-- these are the rows of shares, of a secret of `size` bytes, whose indexes are listed
abbrev pub AreChosen : ℕ → List ℕ → List ℕ → List ℕ → Type 0
AreChosen size shares indexes chosen =
    (i j : ℕ) → i < length indexes → j < size → share_at size chosen j i ≡ share_at size shares j (slice_index indexes i - 1)

-- any k = others + 1 or more of the shares of a secret lie on polynomials of k coefficients, and what they combine to
-- is the secret
abbrev pub SplitSharesCombine : Type 0
SplitSharesCombine = (field : ByteField) (others count : ℕ) (secret draws shares indexes chosen restored : List ℕ)
    → FitBytes secret → AreSplit field others count secret draws shares
    → others < length indexes → AreNonzero indexes → ((i : ℕ) → i < length indexes → slice_index indexes i ≤ count)
    → AreChosen (length secret) shares indexes chosen
    → LieOnPolynomials field (others + 1) indexes (length secret) chosen
    × (length restored ≡ length secret → IsCombined field (others + 1) indexes chosen restored → restored ≡ secret)

-- share i of the chosen has other bytes than the share at its index
abbrev pub is_changed_share : ℕ → List ℕ → List ℕ → List ℕ → ℕ → Bool
is_changed_share size shares indexes chosen i =
    not (nat_eq (marked_below (λ j. not (nat_eq (share_at size chosen j i) (share_at size shares j (slice_index indexes i - 1)))) size) 0)

-- of the shares of a secret, few of which are changed, exactly these are wrong for the polynomials of the secret, which
-- all are near to, and whose values at 0 are the secret
abbrev pub ChangedSharesAreFound : Type 0
ChangedSharesAreFound = (field : ByteField) (others count : ℕ) (secret draws shares indexes chosen : List ℕ)
    → FitBytes secret → AreSplit field others count secret draws shares
    → AreNonzero indexes → ((i : ℕ) → i < length indexes → slice_index indexes i ≤ count)
    → 2 * marked_below (is_changed_share (length secret) shares indexes chosen) (length indexes) + (others + 1) ≤ length indexes
    → AreNearPolynomials field (others + 1) indexes (length secret) chosen (coefficients others secret draws)
    × ((i : ℕ) → i < length indexes → is_wrong_share field indexes (length secret) chosen (coefficients others secret draws) i
    ≡ is_changed_share (length secret) shares indexes chosen i)
    × ((j : ℕ) → j < length secret
    → value_of 1 (byte_times field) (λ c. c) (coefficients others secret draws j) 0 ≡ slice_index secret j)

-- the drawn bytes give a secret these shares
pub record GiveShares (field : ByteField) (others : ℕ) (indexes secret shares draws : List ℕ) : Type 0 where
  pub count : length draws ≡ others * length secret
  pub fits : FitBytes draws
  pub at_shares : (i j : ℕ) → i < others → j < length secret
      → share_byte field others secret draws (slice_index indexes i) j ≡ share_at (length secret) shares j i

-- for k - 1 indexes, any bytes of these shares and any secret there is exactly one choice of drawn bytes
abbrev pub SharesHideString : Type 0
SharesHideString = (field : ByteField) (others : ℕ) (indexes secret shares : List ℕ)
    → length indexes ≡ others → AreNonzero indexes → AreDistinct indexes → FitBytes secret → FitBytes shares
    → (draws : List ℕ) × GiveShares field others indexes secret shares draws
    × ((other : List ℕ) → GiveShares field others indexes secret shares other → other ≡ draws)

-- of all choices of the k - 1 bytes that are drawn for one byte of a secret, equally many give the same `known`
-- shares whatever the byte is: 256 ^ (k - 1 - known), and so one where k - 1 shares are known
abbrev pub ByteSharesAreCounted : Type 0
ByteSharesAreCounted = (field : ByteField) (others more known : ℕ) (indexes : List ℕ) (share : ℕ → ℕ)
    → more + known ≡ others → length indexes ≡ others → AreNonzero indexes → AreDistinct indexes
    → ((i : ℕ) → i < known → share i < 2 ^ 8) → (secret : ℕ) → secret < 2 ^ 8
    → sum_lists others (2 ^ 8) (λ rest. cond (are_shares (byte_times field) (slice_index indexes) share (secret ∷ rest) known) 1 0)
    ≡ (2 ^ 8) ^ more
