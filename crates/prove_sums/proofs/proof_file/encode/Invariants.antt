use Rattle.std.proofs.Common.{◌≡◌, ◌<◌, ℕ, ◌∷◌, [], ◌++◌, get_or, length, take}
use Rattle.field_bytes.specs.Streams.{joined_bytes}
use Rattle.field_element.specs.Element.{repr_of}
use Rattle.prove_sums.specs.ProofFiles.{head}
use Rattle.prove_sums.proofs.Files.{flat}
use Rattle.prove_sums.proofs.proof_file.encode.Given as goal

-- the nodes before the index are written, and each has 32 bytes
abbrev pub invariant-nodes : goal.invariant-nodes
invariant-nodes l =
    (l.bytes.items ≡ head l.roots.field ++ (l.shape.queries ∷ l.shape.rounds ∷ []) ++ l.roots.left ++ l.roots.right ++ joined_bytes 16 repr_of l.elements ++ flat (take l.index l.nodes))
    × ((k : ℕ) → k < l.index → length (get_or l.nodes k []) ≡ 32)
