-- What a root of a Merkle tree holds, whatever a prover opens under it: one function of columns, or two openings with other columns at one
-- place have a collision of the hash function. So the columns of all openings that are accepted are chosen where the root is.
use Rattle.std.specs.Prelude.{◌≡◌, ◌⊎◌, ℕ, ◌*◌, ◌^◌, ◌<◌, ◌≤◌, List, length, slice_index}
use Rattle.field_bytes.specs.Streams.{joined_bytes}
use Rattle.transcripts.specs.MerkleTrees.{HaveCollision, HaveDigestSize, RowLeads, row_input}
use Rattle.transcripts.specs.Openings.{OpensRows}

-- columns that are sent with nodes: number k of them for place k of a list, as numbers
pub record SentColumns : Type 0 where
  pub places : List ℕ
  pub column : ℕ → List ℕ
  pub nodes : List (List ℕ)

-- the bytes of column k, `size` for each number
abbrev pub column_bytes : ℕ → SentColumns → ℕ → List ℕ
column_bytes size sent k = joined_bytes size (λ (n : ℕ). n) (sent.column k)

-- What is sent is accepted under a root over 2 ^ depth rows of bytes: the columns have `height` elements of `width` bits each, and nodes,
-- which are digests of one size, open their bytes at the places.
pub record AreAccepted (hash : List ℕ → List ℕ) (digest size width depth height : ℕ) (root : List ℕ) (sent : SentColumns) : Type 0 where
  pub digests : HaveDigestSize digest sent.nodes
  pub heights : (k : ℕ) → k < length sent.places → length (sent.column k) ≡ height
  pub fits : (k : ℕ) → k < length sent.places → (i : ℕ) → slice_index (sent.column k) i < 2 ^ width
  pub opened : OpensRows hash depth root sent.places (column_bytes size sent) sent.nodes

-- a function of columns has those of so many openings at their places
abbrev pub HasSent : ℕ → (ℕ → SentColumns) → (ℕ → List ℕ) → Type 0
HasSent count sent column =
    (i k : ℕ) → i < count → k < length (sent i).places → (sent i).column k ≡ column (slice_index (sent i).places k)

-- two of so many openings have other columns at one place, and a collision along paths that lead from both to the root
pub record HaveOtherColumns (hash : List ℕ → List ℕ) (size depth : ℕ) (root : List ℕ) (count : ℕ) (sent : ℕ → SentColumns) : Type 0 where
  pub one : ℕ
  pub other : ℕ
  pub one_below : one < count
  pub other_below : other < count
  pub k : ℕ
  pub l : ℕ
  pub k_below : k < length (sent one).places
  pub l_below : l < length (sent other).places
  pub place : slice_index (sent one).places k ≡ slice_index (sent other).places l
  pub path : List (List ℕ)
  pub other_path : List (List ℕ)
  pub leads : RowLeads hash depth root (slice_index (sent one).places k) (column_bytes size (sent one) k) path
  pub other_leads : RowLeads hash depth root (slice_index (sent one).places k) (column_bytes size (sent other) l) other_path
  pub collision : HaveCollision hash (slice_index (sent one).places k) (row_input (column_bytes size (sent one) k))
      (row_input (column_bytes size (sent other) l)) path other_path

-- all of so many openings that are accepted under one root are of one function of columns of elements, or two of them have a collision
abbrev pub RootsHoldColumns : Type 0
RootsHoldColumns =
    (hash : List ℕ → List ℕ) (digest : ℕ) → ((bytes : List ℕ) → length (hash bytes) ≡ digest)
    → (size width depth height : ℕ) (root : List ℕ) → width ≤ 8 * size
    → (count : ℕ) (sent : ℕ → SentColumns)
    → ((i : ℕ) → i < count → AreAccepted hash digest size width depth height root (sent i))
    → ((column : ℕ → List ℕ) × ((p i : ℕ) → slice_index (column p) i < 2 ^ width) × HasSent count sent column)
    ⊎ HaveOtherColumns hash size depth root count sent
