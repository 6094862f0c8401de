-- Merkle trees (R. C. Merkle, A digital signature based on a conventional encryption function, 1987) over 2 ^ n leaves, which are
-- rows of bytes, or words of 64 bits. A leaf and a node are told apart by the first byte that is hashed, as in RFC 6962, section 2.1.
-- A digest is a list of bytes, and `hash` any function from lists of bytes to digests.
use Rattle.std.specs.Prelude.{◌≡◌, ◌≢◌, ℕ, zero, suc, ◌+◌, ◌/◌, ◌%◌, ◌^◌, ◌<◌, List, [], ◌∷◌, ◌++◌, length, get_or, cond, nat_eq}
use Rattle.std.specs.Int.{to_le_bytes, w64}

-- what is hashed of a leaf: the byte 0, and the bytes of its row
abbrev pub row_input : List ℕ → List ℕ
row_input row = 0 ∷ row

-- .. and of a leaf that is a word: the byte 0, and its eight bytes, the lowest first
abbrev pub leaf_input : ℕ → List ℕ
leaf_input word = row_input (to_le_bytes w64 word)

-- and of a node: the byte 1, and the digests of its children
abbrev pub node_input : List ℕ → List ℕ → List ℕ
node_input left right = 1 ∷ left ++ right

-- the root of the tree over the leaves row 0, row 1, .., row (2 ^ n - 1)
unfoldable pub rows_root : (List ℕ → List ℕ) → ℕ → (ℕ → List ℕ) → List ℕ
rows_root hash zero row = hash (row_input (row 0))
rows_root hash (suc n) row = hash (node_input (rows_root hash n row) (rows_root hash n (λ i. row (2 ^ n + i))))

-- .. and of that over the words word 0, word 1, ..
abbrev pub merkle_root : (List ℕ → List ℕ) → ℕ → (ℕ → ℕ) → List ℕ
merkle_root hash n word = rows_root hash n (λ i. to_le_bytes w64 (word i))

-- ---- paths

-- what is hashed of a node whose child at an even or an odd place has this digest, and the child beside it that one
abbrev pub pair_input : ℕ → List ℕ → List ℕ → List ℕ
pair_input place digest sibling = cond (nat_eq (place % 2) 0) (node_input digest sibling) (node_input sibling digest)

-- what is hashed along a path of siblings, from the child at `place` up, of which `input` is hashed
unfoldable pub inputs : (List ℕ → List ℕ) → ℕ → List ℕ → List (List ℕ) → List (List ℕ)
inputs hash place input [] = input ∷ []
inputs hash place input (sibling ∷ path) = input ∷ inputs hash (place / 2) (pair_input place (hash input) sibling) path

-- the digest at the end of a path
unfoldable pub ending : (List ℕ → List ℕ) → ℕ → List ℕ → List (List ℕ) → List ℕ
ending hash place digest [] = digest
ending hash place digest (sibling ∷ path) = ending hash (place / 2) (hash (pair_input place digest sibling)) path

-- a path leads from the leaf at `index`, of 2 ^ depth, which has this digest, to the root
pub record DigestLeads (hash : List ℕ → List ℕ) (depth : ℕ) (root : List ℕ) (index : ℕ) (digest : List ℕ) (path : List (List ℕ)) : Type 0 where
  pub within : index < 2 ^ depth
  pub whole : length path ≡ depth
  pub ends : ending hash index digest path ≡ root

-- .. from the row at `index`
abbrev pub RowLeads : (List ℕ → List ℕ) → ℕ → List ℕ → ℕ → List ℕ → List (List ℕ) → Type 0
RowLeads hash depth root index row path = DigestLeads hash depth root index (hash (row_input row)) path

-- .. from the word at `index`
abbrev pub Leads : (List ℕ → List ℕ) → ℕ → List ℕ → ℕ → ℕ → List (List ℕ) → Type 0
Leads hash depth root index word path = RowLeads hash depth root index (to_le_bytes w64 word) path

-- a path leads, over so many levels, from the leaf at `index`, which has this digest, to the root in the cap below which it stands
pub record DigestLeadsToCap (hash : List ℕ → List ℕ) (levels : ℕ) (cap : List (List ℕ)) (index : ℕ) (digest : List ℕ)
    (path : List (List ℕ)) : Type 0 where
  pub within : index / 2 ^ levels < length cap
  pub whole : length path ≡ levels
  pub ends : ending hash index digest path ≡ get_or cap (index / 2 ^ levels) []

-- .. from the row at `index`
abbrev pub RowLeadsToCap : (List ℕ → List ℕ) → ℕ → List (List ℕ) → ℕ → List ℕ → List (List ℕ) → Type 0
RowLeadsToCap hash levels cap index row path = DigestLeadsToCap hash levels cap index (hash (row_input row)) path

-- .. from the word at `index`
abbrev pub LeadsToCap : (List ℕ → List ℕ) → ℕ → List (List ℕ) → ℕ → ℕ → List (List ℕ) → Type 0
LeadsToCap hash levels cap index word path = RowLeadsToCap hash levels cap index (to_le_bytes w64 word) path

-- ---- binding

-- two inputs with one digest
abbrev pub IsCollision : (List ℕ → List ℕ) → List ℕ → List ℕ → Type 0
IsCollision hash one other = (one ≢ other) × (hash one ≡ hash other)

-- each digest of a path has so many bytes
abbrev pub HaveDigestSize : ℕ → List (List ℕ) → Type 0
HaveDigestSize size path = (k : ℕ) → k < length path → length (get_or path k []) ≡ size

-- two paths from one index have a collision of the hash function between what is hashed along them, at the same height, where these
-- are hashed of their leaves
abbrev pub HaveCollision : (List ℕ → List ℕ) → ℕ → List ℕ → List ℕ → List (List ℕ) → List (List ℕ) → Type 0
HaveCollision hash index one other path other_path =
    (height : ℕ) × IsCollision hash (get_or (inputs hash index one path) height []) (get_or (inputs hash index other other_path) height [])

-- two paths that lead from different rows at one index have a collision, where `leads` says which paths lead from a row
abbrev pub RowsBind : ((List ℕ → List ℕ) → ℕ → List ℕ → List (List ℕ) → Type 0) → Type 0
RowsBind leads =
    (hash : List ℕ → List ℕ) (size : ℕ) → ((bytes : List ℕ) → length (hash bytes) ≡ size)
    → (index : ℕ) (row other : List ℕ) (path other_path : List (List ℕ)) → row ≢ other → HaveDigestSize size path
    → HaveDigestSize size other_path → leads hash index row path → leads hash index other other_path
    → HaveCollision hash index (row_input row) (row_input other) path other_path

-- those that lead to one root
abbrev pub RowPathsBind : Type 0
RowPathsBind = (depth : ℕ) (root : List ℕ) → RowsBind (λ hash. RowLeads hash depth root)

-- and those that lead to one cap
abbrev pub RowCapsBind : Type 0
RowCapsBind = (levels : ℕ) (cap : List (List ℕ)) → RowsBind (λ hash. RowLeadsToCap hash levels cap)

-- two paths that lead from different words at one index to one root have a collision of the hash function between what is hashed
-- along them, at the same height
abbrev pub PathsBind : Type 0
PathsBind =
    (hash : List ℕ → List ℕ) (size : ℕ) → ((bytes : List ℕ) → length (hash bytes) ≡ size)
    → (depth : ℕ) (root : List ℕ) (index word other : ℕ) (path other_path : List (List ℕ))
    → word < 2 ^ 64 → other < 2 ^ 64 → word ≢ other → HaveDigestSize size path → HaveDigestSize size other_path
    → Leads hash depth root index word path → Leads hash depth root index other other_path
    → HaveCollision hash index (leaf_input word) (leaf_input other) path other_path

-- and so have two paths that lead from different words at one index to one cap
abbrev pub CapsBind : Type 0
CapsBind =
    (hash : List ℕ → List ℕ) (size : ℕ) → ((bytes : List ℕ) → length (hash bytes) ≡ size)
    → (levels : ℕ) (cap : List (List ℕ)) (index word other : ℕ) (path other_path : List (List ℕ))
    → word < 2 ^ 64 → other < 2 ^ 64 → word ≢ other → HaveDigestSize size path → HaveDigestSize size other_path
    → LeadsToCap hash levels cap index word path → LeadsToCap hash levels cap index other other_path
    → HaveCollision hash index (leaf_input word) (leaf_input other) path other_path
