-- What stands in the vector of a tree's nodes while it is written: the leaves first, and then the nodes, from the last up to the root.
use Rattle.std.specs.Prelude.{◌≡◌, ℕ, ◌+◌, ◌*◌, ◌<◌, ◌≤◌, List, [], get_or}
use Rattle.transcripts.specs.MerkleTrees.{node_input, row_input}

-- the nodes from `first` on are above their children, and the leaves begin at `leaves`
abbrev pub AreNodes : (List ℕ → List ℕ) → ℕ → ℕ → List (List ℕ) → Type 0
AreNodes hash leaves first nodes =
    (i : ℕ) → first ≤ i → i < leaves → get_or nodes i [] ≡ hash (node_input (get_or nodes (2 * i) []) (get_or nodes (2 * i + 1) []))

-- the first leaves, as many as `count`, are those of rows
abbrev pub AreLeaves : (List ℕ → List ℕ) → ℕ → (ℕ → List ℕ) → ℕ → List (List ℕ) → Type 0
AreLeaves hash leaves row count nodes = (i : ℕ) → i < count → get_or nodes (leaves + i) [] ≡ hash (row_input (row i))
