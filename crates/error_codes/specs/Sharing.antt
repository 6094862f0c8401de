-- Shares of a secret (A. Shamir, How to share a secret, Communications of the ACM 22, 1979), byte by byte: each byte
-- of the secret is the lowest coefficient of a polynomial of k coefficients whose others are drawn, and a share has
-- the values of all these polynomials at its index. Rows of one size stand one after the other in a list: those of
-- the drawn coefficients, and the shares.
use Rattle.std.specs.Prelude.{◌≡◌, ℕ, ◌+◌, ◌*◌, ◌<◌, List, ◌∷◌, length, map, slice_index}
use Rattle.std.specs.List.{range_with_len}
use Rattle.field_base.specs.Powers.{value_of}
use Rattle.reed_solomon.specs.ByteFields.{byte_times}
use Rattle.reed_solomon.specs.declared.byte_field.ByteField.{ByteField}

-- the bytes at place j of the first `count` rows of `size` bytes
abbrev pub bytes_at : ℕ → ℕ → List ℕ → ℕ → List ℕ
bytes_at size count rows j = map (λ i. slice_index rows (i * size + j)) (range_with_len 0 count)

-- the coefficients for byte j of a secret, the lowest first: the byte, and that of each row of drawn bytes
abbrev pub coefficients : ℕ → List ℕ → List ℕ → ℕ → List ℕ
coefficients others secret draws j = slice_index secret j ∷ bytes_at (length secret) others draws j

-- byte j of the share at index x
abbrev pub share_byte : ByteField → ℕ → List ℕ → List ℕ → ℕ → ℕ → ℕ
share_byte field others secret draws x j = value_of 1 (byte_times field) (λ c. c) (coefficients others secret draws j) x

-- share i is that at index i + 1
abbrev pub AreSplit : ByteField → ℕ → ℕ → List ℕ → List ℕ → List ℕ → Type 0
AreSplit field others count secret draws shares =
    (i j : ℕ) → i < count → j < length secret
    → slice_index shares (i * length secret + j) ≡ share_byte field others secret draws (i + 1) j

-- these are k coefficients of a polynomial that has the value of each of `count` points
pub record IsThrough (field : ByteField) (k count : ℕ) (point value : ℕ → ℕ) (cs : List ℕ) : Type 0 where
  pub coefficient_count : length cs ≡ k
  pub at_points : (i : ℕ) → i < count → value_of 1 (byte_times field) (λ c. c) cs (point i) ≡ value i

-- byte j of each share
abbrev pub share_at : ℕ → List ℕ → ℕ → ℕ → ℕ
share_at size shares j i = slice_index shares (i * size + j)

-- for each byte there is a polynomial of k coefficients that all shares lie on
abbrev pub LieOnPolynomials : ByteField → ℕ → List ℕ → ℕ → List ℕ → Type 0
LieOnPolynomials field k indexes size shares =
    (j : ℕ) → j < size → (cs : List ℕ) × IsThrough field k (length indexes) (slice_index indexes) (share_at size shares j) cs

-- each byte of the secret is the value at 0 of every polynomial of k coefficients that the shares lie on
abbrev pub IsCombined : ByteField → ℕ → List ℕ → List ℕ → List ℕ → Type 0
IsCombined field k indexes shares secret =
    (j : ℕ) (cs : List ℕ) → j < length secret
    → IsThrough field k (length indexes) (slice_index indexes) (share_at (length secret) shares j) cs
    → slice_index secret j ≡ value_of 1 (byte_times field) (λ c. c) cs 0
