-- Openings of many leaves of a Merkle tree at once, in which no digest is given that others determine (L. Ramabaja and A. Avdullahu,
-- Compact Merkle multiproofs, 2020, with the digests in the order of the tree from left to right). A leaf is its place and its digest.
use Rattle.std.specs.Prelude.{◌≡◌, ◌≢◌, ℕ, zero, suc, ◌+◌, ◌^◌, ◌<◌, ◌≤◌, List, [], ◌∷◌, ◌++◌, length, map, get_or, slice_index}
use Rattle.std.specs.List.{range_with_len}
use Rattle.transcripts.specs.declared.merkle_tree.MerkleTree.{MerkleTree}
use Rattle.transcripts.specs.Commitments.{digest_at}
use Rattle.transcripts.specs.MerkleTrees.{HaveCollision, HaveDigestSize, node_input, row_input, RowLeads}

-- The root of the tree over the 2 ^ n places from `first` on has this digest, by the leaves that are opened in it, in the order of their
-- places, and by nodes: where none is opened, the root is the one node; where the tree is a leaf, it is the one leaf; and else some of
-- them open the left half and the others the right half.
unfoldable pub Opens : (List ℕ → List ℕ) → ℕ → ℕ → List (ℕ × List ℕ) → List (List ℕ) → List ℕ → Type 0
Opens hash zero first [] nodes digest = nodes ≡ digest ∷ []
Opens hash (suc n) first [] nodes digest = nodes ≡ digest ∷ []
Opens hash zero first (leaf ∷ leaves) nodes digest = (leaf ≡ (first, digest)) × (leaves ≡ []) × (nodes ≡ [])
Opens hash (suc n) first (leaf ∷ leaves) nodes digest =
    (left right : List (ℕ × List ℕ)) × (left_nodes right_nodes : List (List ℕ)) × (left_digest right_digest : List ℕ)
    × (leaf ∷ leaves ≡ left ++ right) × (nodes ≡ left_nodes ++ right_nodes) × (digest ≡ hash (node_input left_digest right_digest))
    × Opens hash n first left left_nodes left_digest × Opens hash n (first + 2 ^ n) right right_nodes right_digest

-- the leaves at these places that are rows, row k at place k of the list
abbrev pub leaves_at : (List ℕ → List ℕ) → List ℕ → (ℕ → List ℕ) → List (ℕ × List ℕ)
leaves_at hash places row = map (λ k. (slice_index places k, hash (row_input (row k)))) (range_with_len 0 (length places))

-- the rows at these places of the tree over 2 ^ depth rows, row k at place k of the list, are opened by nodes
abbrev pub OpensRows : (List ℕ → List ℕ) → ℕ → List ℕ → List ℕ → (ℕ → List ℕ) → List (List ℕ) → Type 0
OpensRows hash depth root places row nodes = Opens hash depth 0 (leaves_at hash places row) nodes root

-- places in ascending order, none twice, all below `end`
pub record AreAscending (end : ℕ) (places : List ℕ) : Type 0 where
  pub below : (k : ℕ) → k < length places → slice_index places k < end
  pub grow : (k : ℕ) → suc k < length places → slice_index places k < slice_index places (suc k)

-- leaves of a tree in ascending order, none twice, at places from `low` on and below `high`
pub record AreLeavesOf {A : Type 0} (tree : MerkleTree A) (low high : ℕ) (leaves : List (ℕ × List ℕ)) : Type 0 where
  pub from : (k : ℕ) → k < length leaves → low ≤ (get_or leaves k (0, [])).0
  pub below : (k : ℕ) → k < length leaves → (get_or leaves k (0, [])).0 < high
  pub grow : (k : ℕ) → suc k < length leaves → (get_or leaves k (0, [])).0 < (get_or leaves (suc k) (0, [])).0
  pub digests : (k : ℕ) → k < length leaves
      → (get_or leaves k (0, [])).1 ≡ digest_at tree (2 ^ tree.depth + (get_or leaves k (0, [])).0)

-- no first nodes open the leaves
abbrev pub NoFrontOpens : (List ℕ → List ℕ) → ℕ → ℕ → List (ℕ × List ℕ) → List (List ℕ) → Type 0
NoFrontOpens hash n first leaves nodes =
    (front rest : List (List ℕ)) (digest : List ℕ) → nodes ≡ front ++ rest → Opens hash n first leaves front digest → ⊥

-- each row that is opened leads from its place to the root, by a path of digests of one size where the nodes are
abbrev pub OpeningsLead : Type 0
OpeningsLead =
    (hash : List ℕ → List ℕ) (size : ℕ) → ((bytes : List ℕ) → length (hash bytes) ≡ size)
    → (depth : ℕ) (root places : List ℕ) (row : ℕ → List ℕ) (nodes : List (List ℕ)) → HaveDigestSize size nodes
    → OpensRows hash depth root places row nodes → (k : ℕ) → k < length places
    → (path : List (List ℕ)) × HaveDigestSize size path × RowLeads hash depth root (slice_index places k) (row k) path

-- two openings of one root that open different rows at one place have a collision of the hash function along paths that lead from both
abbrev pub OpeningsBind : Type 0
OpeningsBind =
    (hash : List ℕ → List ℕ) (size : ℕ) → ((bytes : List ℕ) → length (hash bytes) ≡ size)
    → (depth : ℕ) (root places others : List ℕ) (row other : ℕ → List ℕ) (nodes other_nodes : List (List ℕ))
    → HaveDigestSize size nodes → HaveDigestSize size other_nodes
    → OpensRows hash depth root places row nodes → OpensRows hash depth root others other other_nodes
    → (k j : ℕ) → k < length places → j < length others → slice_index places k ≡ slice_index others j → row k ≢ other j
    → (path other_path : List (List ℕ)) × RowLeads hash depth root (slice_index places k) (row k) path
    × RowLeads hash depth root (slice_index places k) (other j) other_path
    × HaveCollision hash (slice_index places k) (row_input (row k)) (row_input (other j)) path other_path

-- openings of the same places have as many nodes in trees of one depth, whatever the hash functions and the rows are
abbrev pub OpeningsHaveOneCount : Type 0
OpeningsHaveOneCount =
    (hash other_hash : List ℕ → List ℕ) (depth : ℕ) (root other_root places : List ℕ) (row other : ℕ → List ℕ)
    (nodes other_nodes : List (List ℕ))
    → OpensRows hash depth root places row nodes → OpensRows other_hash depth other_root places other other_nodes
    → length nodes ≡ length other_nodes
