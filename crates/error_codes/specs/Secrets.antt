-- Shares of a secret (A. Shamir, How to share a secret, 1979): the values of a polynomial of k coefficients at nonzero
-- points, of which the secret is the value at 0. Any k - 1 shares say nothing of the secret.
use Rattle.std.specs.Prelude.{◌≡◌, ◌≢◌, ℕ, zero, suc, ◌+◌, ◌^◌, ◌<◌, List, ◌∷◌, length, slice_index, Bool, true}
use Rattle.std.specs.Prelude.{cond, nat_eq, ◌&&◌}
use Rattle.field_base.specs.Field.{IsField}
use Rattle.field_base.specs.PolynomialRoots.{AreDistinctBelow}
use Rattle.field_slices.specs.Openings.{sum_lists}
use Rattle.error_codes.specs.Words.{at}

-- k coefficients, each an element of the field, that give these k - 1 shares and this secret
pub record SharesSecret (width : ℕ) (times : ℕ → ℕ → ℕ) (others : ℕ)
    (point share : ℕ → ℕ) (secret : ℕ) (cs : List ℕ) : Type 0 where
  pub count : length cs ≡ suc others
  pub fits : (i : ℕ) → i < length cs → slice_index cs i < 2 ^ width
  pub is_secret : slice_index cs 0 ≡ secret
  pub shares : (i : ℕ) → i < others → at times cs (point i) ≡ share i

-- for any k - 1 shares, each secret is that of exactly one list of coefficients
abbrev pub SharesHideSecret : Type 0
SharesHideSecret =
    (width : ℕ) (times : ℕ → ℕ → ℕ) → 0 < width → IsField width times
    → (others : ℕ) (point share : ℕ → ℕ) → AreDistinctBelow others (2 ^ width) point
    → ((i : ℕ) → i < others → point i ≢ 0)
    → ((i : ℕ) → i < others → share i < 2 ^ width) → (secret : ℕ) → secret < 2 ^ width
    → (cs : List ℕ) × SharesSecret width times others point share secret cs
    × ((ds : List ℕ) → SharesSecret width times others point share secret ds → ds ≡ cs)

-- ---- counted

-- the polynomial with these coefficients has these first values
unfoldable pub are_shares : (ℕ → ℕ → ℕ) → (ℕ → ℕ) → (ℕ → ℕ) → List ℕ → ℕ → Bool
are_shares times point share cs zero = true
are_shares times point share cs (suc i) = nat_eq (at times cs (point i)) (share i) && are_shares times point share cs i

-- Of all choices of the k - 1 other coefficients exactly one gives these k - 1 shares, whatever the secret is. So all
-- shares are equally likely for each secret, and a secret is as likely once they are known as before.
abbrev pub SharesAreCounted : Type 0
SharesAreCounted =
    (width : ℕ) (times : ℕ → ℕ → ℕ) → 0 < width → IsField width times
    → (others : ℕ) (point share : ℕ → ℕ) → AreDistinctBelow others (2 ^ width) point
    → ((i : ℕ) → i < others → point i ≢ 0)
    → ((i : ℕ) → i < others → share i < 2 ^ width) → (secret : ℕ) → secret < 2 ^ width
    → sum_lists others (2 ^ width) (λ rest. cond (are_shares times point share (secret ∷ rest) others) 1 0) ≡ 1

-- and any fewer, of places that k - 1 points stand for, are given by equally many choices for each secret
abbrev pub FewerSharesAreCounted : Type 0
FewerSharesAreCounted =
    (width : ℕ) (times : ℕ → ℕ → ℕ) → 0 < width → IsField width times
    → (others more known : ℕ) (point share : ℕ → ℕ) → more + known ≡ others
    → AreDistinctBelow others (2 ^ width) point → ((i : ℕ) → i < others → point i ≢ 0)
    → ((i : ℕ) → i < known → share i < 2 ^ width) → (secret : ℕ) → secret < 2 ^ width
    → sum_lists others (2 ^ width) (λ rest. cond (are_shares times point share (secret ∷ rest) known) 1 0) ≡
    (2 ^ width) ^ more
