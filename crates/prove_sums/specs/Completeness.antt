-- Completeness of proofs of sums of products of two tables: what an honest prover sends is accepted, and what the program writes.
use Rattle.std.specs.Prelude.{◌≡◌, ℕ, ◌≤◌, Bool, true, List}
use Rattle.std.specs.declared.alloc.Global.{Global}
use Rattle.transcripts.specs.Commitments.{root_of}
use Rattle.transcripts.specs.declared.merkle_tree.MerkleTree.{MerkleTree}
use Rattle.protocols.specs.CommitmentScheme.{HoldsColumns}
use Rattle.prove_sums.specs.Reports.{IsProveReport, IsVerifyReport, NamesRoot}
use Rattle.prove_sums.specs.Verdicts.{IsHonestProof, IsWordCommitment, VerifiesSum}
use Rattle.prove_sums.specs.declared.tables.TableField.{TableField}

-- Of two tables that are committed to, whatever the hash function is: on the proof that an honest prover makes in one transcript, each
-- verdict for both roots is true that begins in the same state.
abbrev pub HonestSumsAreAccepted : {C S F : Type 0} → (C → S) → (C → F → C → Type 0) → (C → F → C → Type 0) → (C → ℕ → ℕ → Bool)
    → (C → ℕ → ℕ → C → Type 0) → (C → ℕ → ℕ → C → Type 0) → (F → ℕ) → (F → ℕ) → ℕ → ℕ → (ℕ → ℕ → ℕ) → (ℕ → ℕ) → Type 0
HonestSumsAreAccepted {C} {S} {F} state observes gives passing checks gives_bits number repr size width times vector =
    (hash : List ℕ → List ℕ) (m n : ℕ) (left right left_columns right_columns : List F) (left_tree right_tree : MerkleTree Global)
    (elements : List F) (nodes : List (List ℕ)) (prover verifier : C) (accepted : Bool) → 2 ≤ width
    → HoldsColumns hash repr size width times vector m n left left_columns left_tree
    → HoldsColumns hash repr size width times vector m n right right_columns right_tree
    → IsHonestProof observes gives passing checks gives_bits number repr size width times vector m n left right left_columns right_columns
    left_tree right_tree elements nodes prover
    → state prover ≡ state verifier
    → VerifiesSum observes gives passing checks gives_bits number repr hash size width times vector m n (root_of left_tree) (root_of right_tree)
    elements nodes verifier accepted
    → accepted ≡ true

-- ---- of files

-- What `prove` writes for the bytes of two tables is accepted by `verify`, for the digits of the roots that commit to them, the same field and
-- the same bits: it then prints what `prove` printed, the sum, and ends with the status 0.
abbrev pub WrittenProofsAreAccepted : {H : Type 0} → (H → List ℕ → List ℕ) → Type 0
WrittenProofsAreAccepted {H} digest =
    (hasher : H) (bits : ℕ) (field : TableField) (left right left_root right_root left_digits right_digits proof line said : List ℕ)
    (status code : ℕ) → IsWordCommitment (digest hasher) bits field left left_root → IsWordCommitment (digest hasher) bits field right right_root
    → NamesRoot left_digits left_root → NamesRoot right_digits right_root → IsProveReport digest hasher bits field left right proof line status
    → IsVerifyReport digest hasher bits field left_digits right_digits proof said code
    → (said ≡ line) × (code ≡ 0)
