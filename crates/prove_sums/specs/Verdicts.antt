-- What is proved of two tables, and what a verifier says of a proof, over elements and bytes alone. Elements have numbers by `repr`, the sum is
-- `bit_xor` and the product `times`. `hash` and `digest` are hash functions.
use Rattle.std.specs.Prelude.{◌≡◌, ◌≢◌, ◌⊎◌, ◌↔◌, ℕ, ◌^◌, ◌<◌, Bool, true, false, List, [], ◌∷◌, ◌++◌, length, map, slice_index, Err, IsTrue, Ok, Result}
use Rattle.std.specs.List.{flat_map}
use Rattle.std.specs.declared.alloc.Global.{Global}
use Rattle.std.specs.declared.option.Option.{Option}
use Rattle.std.specs.declared.option.Option.TheVariants.{None, Some}
use Rattle.transcripts.specs.ByteCalls.{after, observing}
use Rattle.transcripts.specs.HashBuffers.{HashState, hash_transitions}
use Rattle.field_bytes.specs.Bytes.{low_bytes}
use Rattle.field_bytes.specs.Streams.{joined_bytes}
use Rattle.transcript_elements.specs.Sampled.{SamplesBits, SamplesCoefficients, check_calls, passes}
use Rattle.field_base.specs.Basis.{basis_image, ghash_images}
use Rattle.field_base.specs.Remainder.{ghash_modulus, mul_mod}
use Rattle.word_tables.specs.Cantor.{cantor_vector}
use Rattle.sum_checks.specs.Sumcheck.{IsRunOf, messages_of}
use Rattle.sum_checks.specs.SumcheckClaims.{reduced_claim}
use Rattle.protocols.specs.CommitmentScheme.{matrix_rows, row_levels, word_levels}
use Rattle.protocols.specs.JointTables.{IsHonestOpeningOf, VerifiesTables, sent_tables}
use Rattle.protocols.specs.Tables.{AreExtendedColumns}
use Rattle.protocols.specs.ProductSums.{IsSummed, sum_statement}
use Rattle.transcripts.specs.Commitments.{IsTreeOver, root_of, row_at}
use Rattle.transcripts.specs.MerkleTrees.{rows_root}
use Rattle.transcripts.specs.declared.merkle_tree.MerkleTree.{MerkleTree}
use Rattle.field_element.specs.Element.{repr_of}
use Rattle.prove_sums.specs.Bits.{AreFor, NoneIsFor}
use Rattle.prove_sums.specs.ProofFiles.{IsFileOf, IsNoFile, file_bytes, number_in}
use Rattle.prove_sums.specs.Tables.{IsTable}
use Rattle.prove_sums.specs.declared.tables.Table.{Table}
use Rattle.prove_sums.specs.declared.tables.TableField.{TableField}
use Rattle.prove_sums.specs.Shapes.{messages_in, sent_in, sum_in, values_in}
use Rattle.prove_sums.specs.declared.refusal.Refusal.{Refusal}
use Rattle.prove_sums.specs.declared.refusal.Refusal.TheVariants.{NotAProof, OtherVersion, OtherField, Length, OtherParameters, TooFewBits, OtherLeft, OtherRight, NotProved}

-- ---- the sum

-- what a verifier is left with of the claim that the first element is the sum: a claim at a point, by the messages
pub record IsReducedClaim {C F : Type 0} (observes gives : C → F → C → Type 0) (repr : F → ℕ) (width : ℕ) (times : ℕ → ℕ → ℕ) (n : ℕ)
    (elements : List F) (old : C) (point : List F) (claim : ℕ) (new : C) : Type 0 where
  pub run : IsRunOf observes gives repr old (sum_statement width times n (sum_in repr elements)) (messages_of 2 n (messages_in n elements)) point new
  pub left : claim ≡ reduced_claim width times (sum_in repr elements) (map (map repr) (messages_of 2 n (messages_in n elements))) (map repr point)
  pub challenge_count : length point ≡ n

-- ---- the verdict

-- the claim is the product of two values
abbrev pub IsProductOf : {F : Type 0} → (F → ℕ) → (ℕ → ℕ → ℕ) → List F → ℕ → Type 0
IsProductOf repr times values claim = claim ≡ times (slice_index (map repr values) 0) (slice_index (map repr values) 1)

-- The verdict on elements and nodes: true exactly if one row opens both tables' values under the roots, at the point that the messages lead
-- to, and the claim that they leave is the product of these values.
pub record VerifiesSum {C F : Type 0} (observes gives : C → F → C → Type 0) (passing : C → ℕ → ℕ → Bool)
    (checks : C → ℕ → ℕ → C → Type 0) (gives_bits : C → ℕ → ℕ → C → Type 0) (number repr : F → ℕ) (hash : List ℕ → List ℕ)
    (size width : ℕ) (times : ℕ → ℕ → ℕ) (vector : ℕ → ℕ) (m n : ℕ) (left right : List ℕ) (elements : List F) (nodes : List (List ℕ))
    (old : C) (accepted : Bool) : Type 0 where
  pub point : List F
  pub claim : ℕ
  pub opens : Bool
  pub between : C
  pub new : C
  pub reduced : IsReducedClaim observes gives repr width times n elements old point claim between
  pub opened : VerifiesTables observes gives passing checks gives_bits repr hash size width times vector m n (left ∷ right ∷ []) point
      (sent_in number m n elements nodes) between opens new
  pub decided : IsTrue accepted ↔ IsTrue opens × IsProductOf repr times (values_in n elements) claim

-- ---- the prover

-- a table of 2 ^ n elements, the columns of its extension, and a tree of as many leaves
pub record HoldsTable {F A : Type 0} (repr : F → ℕ) (width : ℕ) (times : ℕ → ℕ → ℕ) (vector : ℕ → ℕ) (m n : ℕ) (elements columns : List F)
    (tree : MerkleTree A) : Type 0 where
  pub count : length elements ≡ 2 ^ n
  pub extended : AreExtendedColumns repr width times vector (row_levels m n) 2 (2 ^ matrix_rows m n) (map repr elements) columns
  pub depth : tree.depth ≡ word_levels m n

-- what a prover sends beside nodes: a sum, messages, both tables' values, a witness of work, a row, and the columns of each that are opened
pub record SentParts (F : Type 0) : Type 0 where
  pub sum : F
  pub messages : List F
  pub values : List F
  pub witness : F
  pub row : List F
  pub columns : List (List F)

-- .. as elements, one after the other
abbrev pub sent_elements : {F : Type 0} → SentParts F → List F
sent_elements parts =
    parts.sum ∷ parts.messages ++ (parts.values ++ (parts.witness ∷ parts.row ++ flat_map (λ columns. columns) parts.columns))

-- What an honest prover sends of two tables: the sum of their products, its messages, and what opens both tables at the point to which these
-- lead, with nodes, first those of the left tree, then those of the right one.
pub record IsHonestProof {C F A : Type 0} (observes gives : C → F → C → Type 0) (passing : C → ℕ → ℕ → Bool)
    (checks : C → ℕ → ℕ → C → Type 0) (gives_bits : C → ℕ → ℕ → C → Type 0) (number repr : F → ℕ) (size width : ℕ) (times : ℕ → ℕ → ℕ)
    (vector : ℕ → ℕ) (m n : ℕ) (left right left_columns right_columns : List F) (left_tree right_tree : MerkleTree A) (elements : List F)
    (nodes : List (List ℕ)) (old : C) : Type 0 where
  pub parts : SentParts F
  pub point : List F
  pub openers : List (List (List ℕ))
  pub between : C
  pub new : C
  pub summed : IsSummed observes gives repr width times n left right old parts.sum parts.messages point between
  pub opened : IsHonestOpeningOf observes gives passing checks gives_bits repr size width times vector m n
      ((left_columns, left_tree) ∷ (right_columns, right_tree) ∷ []) point
      (sent_tables parts.values parts.row (number parts.witness) parts.columns openers) between new
  pub written : elements ≡ sent_elements parts
  pub nodes_are : nodes ≡ flat_map (λ opening. opening) openers

-- ---- in the field of GHASH, and in a transcript over a hash function

-- the product
abbrev pub word_times : ℕ → ℕ → ℕ
word_times = mul_mod 128 ghash_modulus

-- the Cantor vectors, at whose sums the code words have their values
abbrev pub word_vector : ℕ → ℕ
word_vector i = basis_image 128 ghash_modulus ghash_images (cantor_vector i)

-- an element is observed: its 16 bytes are, the lowest first
abbrev pub observes_number : {H : Type 0} → (H → List ℕ → List ℕ) → HashState H → ℕ → HashState H → Type 0
observes_number digest old n new = new ≡ after (hash_transitions digest) (observing (low_bytes 16 n)) old

-- an element is sampled: a number below 2 ^ 128, by its 16 bytes, the lowest first
abbrev pub gives_number : {H : Type 0} → (H → List ℕ → List ℕ) → HashState H → ℕ → HashState H → Type 0
gives_number digest old n new = (n < 2 ^ 128) × SamplesCoefficients (hash_transitions digest) 16 128 1 old n new

-- whether a witness works for so many bits
abbrev pub passes_number : {H : Type 0} → (H → List ℕ → List ℕ) → HashState H → ℕ → ℕ → Bool
passes_number digest old bits witness = passes (hash_transitions digest) 16 bits old witness

-- where checking a witness leads
abbrev pub checks_number : {H : Type 0} → (H → List ℕ → List ℕ) → HashState H → ℕ → ℕ → HashState H → Type 0
checks_number digest old bits witness new = new ≡ after (hash_transitions digest) (check_calls 16 bits witness) old

-- what sampling so many bits gives, and where it leads
abbrev pub samples_bits : {H : Type 0} → (H → List ℕ → List ℕ) → HashState H → ℕ → ℕ → HashState H → Type 0
samples_bits digest old bits number new = SamplesBits (hash_transitions digest) old bits number new

-- the verdict in the transcript that begins with these bytes
abbrev pub IsSumVerdict : {F H : Type 0} → (H → List ℕ → List ℕ) → H → (F → ℕ) → List ℕ → ℕ → ℕ → List ℕ → List ℕ → List F → List (List ℕ)
    → Bool → Type 0
IsSumVerdict digest hasher repr front m n left right elements nodes accepted =
    VerifiesSum (λ old x new. observes_number digest old (repr x) new) (λ old x new. gives_number digest old (repr x) new) (passes_number digest)
    (checks_number digest) (samples_bits digest) repr repr (digest hasher) 16 128 word_times word_vector m n left right elements nodes
    (hasher, front, []) accepted

-- .. and what an honest prover sends of two tables with these columns
abbrev pub IsHonestSum : {F H A : Type 0} → (H → List ℕ → List ℕ) → H → (F → ℕ) → List ℕ → ℕ → ℕ → List F → List F → List F → List F
    → MerkleTree A → MerkleTree A → List F → List (List ℕ) → Type 0
IsHonestSum digest hasher repr front m n left right left_columns right_columns left_tree right_tree elements nodes =
    IsHonestProof (λ old x new. observes_number digest old (repr x) new) (λ old x new. gives_number digest old (repr x) new)
    (passes_number digest) (checks_number digest) (samples_bits digest) repr repr 16 128 word_times word_vector m n left right left_columns
    right_columns left_tree right_tree elements nodes (hasher, front, [])

-- ---- tables

-- the root that commits to a table: that of the tree over the columns of its extension
pub record IsTableRoot {F : Type 0} (hash : List ℕ → List ℕ) (repr : F → ℕ) (m n : ℕ) (elements columns : List F) (root : List ℕ) : Type 0 where
  pub extended : AreExtendedColumns repr 128 word_times word_vector (row_levels m n) 2 (2 ^ matrix_rows m n) (map repr elements) columns
  pub rooted : root ≡ rows_root hash (word_levels m n) (λ p. joined_bytes 16 repr (row_at (2 ^ matrix_rows m n) columns p))

-- a tree over the columns of a table's extension, with this root
pub record IsTableTree {F A : Type 0} (hash : List ℕ → List ℕ) (repr : F → ℕ) (m n : ℕ) (columns : List F) (root : List ℕ)
    (tree : MerkleTree A) : Type 0 where
  pub over : IsTreeOver hash (λ p. joined_bytes 16 repr (row_at (2 ^ matrix_rows m n) columns p)) tree
  pub depth : tree.depth ≡ word_levels m n
  pub top : root ≡ root_of tree

-- the root that commits to the bytes of a table of a field, with the sizes for so many bits
pub record IsCommitment {F : Type 0} (hash : List ℕ → List ℕ) (repr : F → ℕ) (bits : ℕ) (field : TableField) (bytes root : List ℕ)
    : Type 0 where
  pub queries : ℕ
  pub rounds : ℕ
  pub elements : List F
  pub columns : List F
  pub sized : AreFor bits queries rounds
  pub table : IsTable field repr bytes rounds elements
  pub commits : IsTableRoot hash repr queries rounds elements columns root

-- ---- files

-- a file of a proof for tables of words of a field with these roots, with the sizes for so many bits, and this verdict on it
abbrev pub HasVerdict : {F H : Type 0} → (H → List ℕ → List ℕ) → H → (F → ℕ) → ℕ → TableField → List ℕ → List ℕ → List ℕ → Bool → Type 0
HasVerdict {F} digest hasher repr bits field left right bytes accepted =
    (m n : ℕ) × (elements : List F) × (nodes : List (List ℕ)) × AreFor bits m n × IsFileOf repr bytes field m n left right elements nodes
    × IsSumVerdict digest hasher repr (file_bytes field m n left right [] []) m n left right elements nodes accepted

-- why a proof is refused, if it is
abbrev pub refusal_in : {T : Type 0} → Result T Refusal → Option Refusal
refusal_in (Ok proof) = None
refusal_in (Err refusal) = Some refusal

-- why sizes are not those for so many bits
abbrev pub IsSizeRefusal : ℕ → ℕ → ℕ → Refusal → Type 0
IsSizeRefusal bits m n OtherParameters = (k : ℕ) × AreFor bits k n × (m ≢ k)
IsSizeRefusal bits m n TooFewBits = NoneIsFor bits n
IsSizeRefusal bits m n NotAProof = ⊥
IsSizeRefusal bits m n OtherVersion = ⊥
IsSizeRefusal bits m n OtherField = ⊥
IsSizeRefusal bits m n Length = ⊥
IsSizeRefusal bits m n OtherLeft = ⊥
IsSizeRefusal bits m n OtherRight = ⊥
IsSizeRefusal bits m n NotProved = ⊥

-- What is answered on a file of a proof for the tables of words of a field with these roots, with the sizes for so many bits: nothing, and it
-- is accepted, if it names this field, has these sizes and roots, and the verdict on what it holds is true; else what is wrong.
abbrev pub IsAnswerTo : {F H : Type 0} → (H → List ℕ → List ℕ) → H → (F → ℕ) → ℕ → TableField → List ℕ → List ℕ → List ℕ
    → Option Refusal → Type 0
IsAnswerTo digest hasher repr bits field left right bytes None = HasVerdict digest hasher repr bits field left right bytes true
IsAnswerTo digest hasher repr bits field left right bytes (Some NotProved) = HasVerdict digest hasher repr bits field left right bytes false
IsAnswerTo {F} digest hasher repr bits field left right bytes (Some OtherLeft) =
    (m n : ℕ) × (one other : List ℕ) × (elements : List F) × (nodes : List (List ℕ)) × IsFileOf repr bytes field m n one other elements nodes
    × (one ≢ left)
IsAnswerTo {F} digest hasher repr bits field left right bytes (Some OtherRight) =
    (m n : ℕ) × (other : List ℕ) × (elements : List F) × (nodes : List (List ℕ)) × IsFileOf repr bytes field m n left other elements nodes
    × (other ≢ right)
IsAnswerTo {F} digest hasher repr bits field left right bytes (Some OtherParameters) =
    (m n : ℕ) × (one other : List ℕ) × (elements : List F) × (nodes : List (List ℕ)) × IsFileOf repr bytes field m n one other elements nodes
    × IsSizeRefusal bits m n OtherParameters
IsAnswerTo {F} digest hasher repr bits field left right bytes (Some TooFewBits) =
    (m n : ℕ) × (one other : List ℕ) × (elements : List F) × (nodes : List (List ℕ)) × IsFileOf repr bytes field m n one other elements nodes
    × IsSizeRefusal bits m n TooFewBits
IsAnswerTo digest hasher repr bits field left right bytes (Some Length) = IsNoFile repr bytes
IsAnswerTo digest hasher repr bits field left right bytes (Some NotAProof) = IsNoFile repr bytes
IsAnswerTo digest hasher repr bits field left right bytes (Some OtherVersion) = IsNoFile repr bytes
IsAnswerTo {F} digest hasher repr bits field left right bytes (Some OtherField) =
    IsNoFile repr bytes
    ⊎ ((f : TableField) × (m n : ℕ) × (one other : List ℕ) × (elements : List F) × (nodes : List (List ℕ))
    × IsFileOf repr bytes f m n one other elements nodes × (f ≢ field))

-- What the program writes for the bytes of two tables of words of a field, with the sizes for so many bits: they have as many words, one as the
-- other, and the file names the field, and has the roots that commit to them, and what an honest prover sends, with nodes of the trees that
-- have these roots.
pub record IsProgramProof {F H : Type 0} (digest : H → List ℕ → List ℕ) (hasher : H) (repr : F → ℕ) (bits : ℕ) (field : TableField)
    (left right proof : List ℕ) : Type 0 where
  pub queries : ℕ
  pub rounds : ℕ
  pub one : List F
  pub other : List F
  pub one_columns : List F
  pub other_columns : List F
  pub one_root : List ℕ
  pub other_root : List ℕ
  pub one_tree : MerkleTree Global
  pub other_tree : MerkleTree Global
  pub elements : List F
  pub nodes : List (List ℕ)
  pub sized : AreFor bits queries rounds
  pub left_table : IsTable field repr left rounds one
  pub right_table : IsTable field repr right rounds other
  pub left_root : IsTableRoot (digest hasher) repr queries rounds one one_columns one_root
  pub right_root : IsTableRoot (digest hasher) repr queries rounds other other_columns other_root
  pub left_tree : IsTableTree (digest hasher) repr queries rounds one_columns one_root one_tree
  pub right_tree : IsTableTree (digest hasher) repr queries rounds other_columns other_root other_tree
  pub file : IsFileOf repr proof field queries rounds one_root other_root elements nodes
  pub honest : IsHonestSum digest hasher repr (file_bytes field queries rounds one_root other_root [] []) queries rounds one other one_columns other_columns
      one_tree other_tree elements nodes

-- ---- the same of words

-- what is answered on a file
abbrev pub IsWordAnswer : {H : Type 0} → (H → List ℕ → List ℕ) → H → ℕ → TableField → List ℕ → List ℕ → List ℕ → Option Refusal → Type 0
IsWordAnswer digest hasher bits field left right bytes refusal =
    IsAnswerTo digest hasher (number_in (λ (table : Table). table.elements.items) repr_of) bits field left right bytes refusal

-- the root that commits to a table
abbrev pub IsWordCommitment : (List ℕ → List ℕ) → ℕ → TableField → List ℕ → List ℕ → Type 0
IsWordCommitment hash bits field bytes root =
    IsCommitment hash (number_in (λ (table : Table). table.elements.items) repr_of) bits field bytes root

-- what is written for two tables
abbrev pub IsWordProof : {H : Type 0} → (H → List ℕ → List ℕ) → H → ℕ → TableField → List ℕ → List ℕ → List ℕ → Type 0
IsWordProof digest hasher bits field left right proof =
    IsProgramProof digest hasher (number_in (λ (table : Table). table.elements.items) repr_of) bits field left right proof
