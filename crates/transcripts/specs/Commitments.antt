-- What the tree of a commitment holds.
use Rattle.std.specs.Prelude.{◌≡◌, ℕ, ◌+◌, ◌*◌, ◌^◌, ◌<◌, ◌≤◌, List, [], length, get_or, slice_index, take, drop}
use Rattle.std.specs.Int.{to_le_bytes, w64}
use Rattle.transcripts.specs.declared.merkle_tree.MerkleTree.{MerkleTree}
use Rattle.transcripts.specs.MerkleTrees.{node_input, row_input}

-- the digests of the nodes: node 1 is the root, the children of node i are the nodes 2 i and 2 i + 1, and the 2 ^ depth leaves are
-- the last nodes
abbrev pub digest_at : {A : Type 0} → MerkleTree A → ℕ → List ℕ
digest_at tree node = get_or tree.nodes.items node []

-- the root
abbrev pub root_of : {A : Type 0} → MerkleTree A → List ℕ
root_of tree = digest_at tree 1

-- the cap of 2 ^ height roots: those of the trees that are left when the levels above them are cut off
abbrev pub cap_of : {A : Type 0} → MerkleTree A → ℕ → List (List ℕ)
cap_of tree height = take (2 ^ height) (drop (2 ^ height) tree.nodes.items)

-- the tree over the rows row 0, row 1, ..
pub record IsTreeOver {A : Type 0} (hash : List ℕ → List ℕ) (row : ℕ → List ℕ) (tree : MerkleTree A) : Type 0 where
  pub leaf : (i : ℕ) → i < 2 ^ tree.depth → digest_at tree (2 ^ tree.depth + i) ≡ hash (row_input (row i))
  pub node : (i : ℕ) → 1 ≤ i → i < 2 ^ tree.depth
      → digest_at tree i ≡ hash (node_input (digest_at tree (2 * i)) (digest_at tree (2 * i + 1)))

-- the tree over these words
pub record IsTreeOf {A : Type 0} (hash : List ℕ → List ℕ) (words : List ℕ) (tree : MerkleTree A) : Type 0 where
  pub leaves : length words ≡ 2 ^ tree.depth
  pub over : IsTreeOver hash (λ i. to_le_bytes w64 (slice_index words i)) tree

-- row i of rows of `size` bytes, or symbols, each, one after the other
abbrev pub row_at : {X : Type 0} → ℕ → List X → ℕ → List X
row_at size rows i = take size (drop (i * size) rows)
