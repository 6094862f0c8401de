-- Shares some of which are wrong. Byte by byte, shares are values of a polynomial of k coefficients, and so a word of a
-- Reed-Solomon code (R. J. McEliece and D. V. Sarwate, On sharing secrets and Reed-Solomon codes, Communications of the
-- ACM 24, 1981).
use Rattle.std.specs.Prelude.{◌≡◌, ℕ, ◌+◌, ◌*◌, ◌<◌, ◌≤◌, List, Bool, false, length, nat_eq, not, slice_index}
use Rattle.field_base.specs.Powers.{value_of}
use Rattle.field_slices.specs.Marks.{marked_below}
use Rattle.reed_solomon.specs.ByteFields.{byte_times}
use Rattle.error_codes.specs.Sharing.{share_at}
use Rattle.reed_solomon.specs.declared.byte_field.ByteField.{ByteField}

-- byte j of share i is not the value of polynomial j at its index
abbrev pub is_wrong_byte : ByteField → List ℕ → ℕ → List ℕ → (ℕ → List ℕ) → ℕ → ℕ → Bool
is_wrong_byte field indexes size shares polynomials i j =
    not (nat_eq (share_at size shares j i) (value_of 1 (byte_times field) (λ c. c) (polynomials j) (slice_index indexes i)))

-- share i is wrong: some of its bytes are
abbrev pub is_wrong_share : ByteField → List ℕ → ℕ → List ℕ → (ℕ → List ℕ) → ℕ → Bool
is_wrong_share field indexes size shares polynomials i =
    not (nat_eq (marked_below (is_wrong_byte field indexes size shares polynomials i) size) 0)

-- polynomials of k coefficients, one for each byte, for which few shares are wrong: twice their number and k are
-- together no more than there are shares
pub record AreNearPolynomials (field : ByteField) (k : ℕ) (indexes : List ℕ) (size : ℕ) (shares : List ℕ)
    (polynomials : ℕ → List ℕ) : Type 0 where
  pub coefficient_count : (j : ℕ) → j < size → length (polynomials j) ≡ k
  pub few_wrong : 2 * marked_below (is_wrong_share field indexes size shares polynomials) (length indexes) + k ≤ length indexes

-- these k coefficients give a polynomial that has the value of each point that is not marked
pub record IsThroughUnmarked (field : ByteField) (k count : ℕ) (point value : ℕ → ℕ) (marked : ℕ → Bool) (cs : List ℕ)
    : Type 0 where
  pub coefficient_count : length cs ≡ k
  pub at_points : (i : ℕ) → i < count → marked i ≡ false
      → value_of 1 (byte_times field) (λ c. c) cs (point i) ≡ value i

-- for each byte there is a polynomial of k coefficients that all shares lie on which are not marked
abbrev pub LieUnmarked : ByteField → ℕ → List ℕ → ℕ → List ℕ → (ℕ → Bool) → Type 0
LieUnmarked field k indexes size shares marked =
    (j : ℕ) → j < size → (cs : List ℕ)
    × IsThroughUnmarked field k (length indexes) (slice_index indexes) (share_at size shares j) marked cs

-- the places below n that are not marked, in rising order
pub record AreUnmarked (marked : ℕ → Bool) (n count : ℕ) (places : List ℕ) : Type 0 where
  pub all : count + marked_below marked n ≡ n
  pub inside : (p : ℕ) → p < count → slice_index places p < n
  pub unmarked : (p : ℕ) → p < count → marked (slice_index places p) ≡ false
  pub rising : (p q : ℕ) → p < q → q < count → slice_index places p < slice_index places q
  pub each : (i : ℕ) → i < n → marked i ≡ false → (p : ℕ) × (p < count) × (slice_index places p ≡ i)

-- a row of `size` bytes stands at each of the first places, in so many bytes
abbrev pub RowsFit : ℕ → ℕ → ℕ → List ℕ → Type 0
RowsFit size bytes count places = (p : ℕ) → p < count → (slice_index places p + 1) * size ≤ bytes

-- byte j of the share at place p of a list of places
abbrev pub listed_share : ℕ → List ℕ → List ℕ → ℕ → ℕ → ℕ
listed_share size shares places j p = share_at size shares j (slice_index places p)
