-- Openings of values of tables of small elements, of which the packed table is committed to (B. Diamond and J. Posen, Polylogarithmic proofs
-- for multilinears over binary towers, 2024, section 3: ring switching). Elements have numbers by `repr`, and SmallTables.antt has parts.
use Rattle.std.specs.Prelude.{◌≡◌, ◌⊎◌, ◌↔◌, ℕ, ◌+◌, ◌*◌, ◌^◌, ◌<◌, ◌≤◌, Bool, true, List, [], ◌∷◌, ◌++◌, length, map, take, drop, get_or}
use Rattle.std.specs.Prelude.{IsTrue, bit_xor, slice_index}
use Rattle.std.specs.Simd.Lanes.{zip2}
use Rattle.field_base.specs.Field.{IsField}
use Rattle.field_base.specs.Orders.{AreCantorVectors}
use Rattle.field_slices.specs.Multilinear.{multilinear_value}
use Rattle.transcripts.specs.Lists.{InTurn}
use Rattle.transcripts.specs.Commitments.{root_of}
use Rattle.transcripts.specs.MerkleTrees.{HaveDigestSize}
use Rattle.transcripts.specs.declared.merkle_tree.MerkleTree.{MerkleTree}
use Rattle.sum_checks.specs.Sumcheck.{messages_of}
use Rattle.sum_checks.specs.SumcheckClaims.{IsSaved}
use Rattle.sum_checks.specs.ZeroCheck.{IsRootAt}
use Rattle.protocols.specs.CommitmentScheme.{HoldsColumns, matrix_rows, row_levels, value_columns, word_levels}
use Rattle.protocols.specs.JointTables.{SentTables, VerifiesTables}
use Rattle.protocols.specs.OpenedTables.{AreColumnsOf, ShowsTable}
use Rattle.protocols.specs.ProductSums.{IsReducedSum, interleaved, product_terms}
use Rattle.protocols.specs.RootColumns.{HasSent, HaveOtherColumns}
use Rattle.small_tables.specs.SmallTables.{IsSpaceOver, mixed_sum, mixed_weights, part_rows, point_scalars, small_values, value_parts}

-- what is sent of a value: its parts, the messages of the sum-check, and an opening of the packed table, alone, where that ends
pub record SentSmall (F : Type 0) : Type 0 where
  pub parts : List F
  pub messages : List F
  pub packed : SentTables F

-- elements are observed in order, and then a point of k coordinates is sampled
pub record IsPointDrawn {C F : Type 0} (observes gives : C → F → C → Type 0) (old : C) (sent : List F) (k : ℕ) (point : List F) (new : C)
    : Type 0 where
  pub begun : C
  pub observed : InTurn observes sent old begun
  pub sampled : InTurn gives point begun new
  pub count : length point ≡ k

-- The verdict on a value of a table of small elements at a point, of which the first n coordinates are of the packed table: the point, the
-- value and the parts are observed and a point is drawn, by which parts are mixed; the mixed sum is reduced by sum-check to one value of
-- the packed table, and that is opened. It is true exactly if the opening is accepted, the parts have the value at the last coordinates,
-- and the claim that is left is the weights' value times the packed table's.
pub record VerifiesSmall {C F : Type 0} (observes gives : C → F → C → Type 0) (passing : C → ℕ → ℕ → Bool)
    (checks gives_bits : C → ℕ → ℕ → C → Type 0) (repr : F → ℕ) (hash : List ℕ → List ℕ) (size width : ℕ) (times : ℕ → ℕ → ℕ)
    (vector : ℕ → ℕ) (m n w k : ℕ) (root : List ℕ) (point : List F) (value : F) (sent : SentSmall F) (old : C) (accepted : Bool) : Type 0 where
  pub mix : List F
  pub mixing : C
  pub at : List F
  pub claim : ℕ
  pub between : C
  pub opens : Bool
  pub new : C
  pub drawn : IsPointDrawn observes gives old (point ++ value ∷ sent.parts) k mix mixing
  pub reduced : IsReducedSum observes gives repr width times n (mixed_sum times w (point_scalars times (map repr mix)) (map repr sent.parts))
      sent.messages mixing at claim between
  pub opened : VerifiesTables observes gives passing checks gives_bits repr hash size width times vector m n (root ∷ []) at sent.packed between
      opens new
  pub count : length sent.parts ≡ 2 ^ k
  pub decided : IsTrue accepted
      ↔ IsTrue opens
      × (repr value ≡ multilinear_value times (map repr sent.parts) (map repr (drop n point)))
      × (claim ≡ times (multilinear_value times (mixed_weights times w (point_scalars times (map repr mix)) (map repr (take n point))) (map repr at))
      (slice_index (map repr sent.packed.values) 0))

-- Completeness: whatever the hash function is, what is sent of a packed table has the value of its small elements at the point, and a
-- verifier accepts it in a transcript of the same state.
abbrev pub IsHonestSmall : {C F A : Type 0} → (C → F → C → Type 0) → (C → F → C → Type 0) → (C → ℕ → ℕ → Bool) → (C → ℕ → ℕ → C → Type 0)
    → (C → ℕ → ℕ → C → Type 0) → (F → ℕ) → ℕ → ℕ → (ℕ → ℕ → ℕ) → (ℕ → ℕ) → ℕ → ℕ → ℕ → ℕ → List F → List F → MerkleTree A → List F → F
    → SentSmall F → C → Type 0
IsHonestSmall observes gives passing checks gives_bits repr size width times vector m n w k table columns tree point value sent old =
    (hash : List ℕ → List ℕ) → HoldsColumns hash repr size width times vector m n table columns tree
    → (repr value ≡ multilinear_value times (small_values w k (map repr table)) (map repr point))
    × VerifiesSmall observes gives passing checks gives_bits repr hash size width times vector m n w k (root_of tree) point value sent old true

-- The whole: verdicts on one opening are the same in transcripts of the same state.
abbrev pub SmallVerdictsAgree : {C S F : Type 0} → (C → S) → (C → F → C → Type 0) → (C → F → C → Type 0) → (C → ℕ → ℕ → Bool)
    → (C → ℕ → ℕ → C → Type 0) → (C → ℕ → ℕ → C → Type 0) → (F → ℕ) → ℕ → ℕ → (ℕ → ℕ → ℕ) → (ℕ → ℕ) → Type 0
SmallVerdictsAgree {C} {S} {F} state observes gives passing checks gives_bits repr size width times vector =
    (hash : List ℕ → List ℕ) (m n w k : ℕ) (root : List ℕ) (point : List F) (value : F) (sent : SentSmall F) (prover verifier : C)
    (one other : Bool) → state prover ≡ state verifier
    → VerifiesSmall observes gives passing checks gives_bits repr hash size width times vector m n w k root point value sent prover one
    → VerifiesSmall observes gives passing checks gives_bits repr hash size width times vector m n w k root point value sent verifier other
    → one ≡ other

-- ---- soundness

-- an opening of a root that is accepted, from some state of a transcript
pub record AcceptedSmall {C F : Type 0} (observes gives : C → F → C → Type 0) (passing : C → ℕ → ℕ → Bool)
    (checks gives_bits : C → ℕ → ℕ → C → Type 0) (repr : F → ℕ) (size width : ℕ) (times : ℕ → ℕ → ℕ) (vector : ℕ → ℕ)
    (hash : List ℕ → List ℕ) (digest m n w k : ℕ) (root : List ℕ) : Type 0 where
  pub point : List F
  pub value : F
  pub sent : SentSmall F
  pub old : C
  pub coordinates : length point ≡ n + k
  pub digests : HaveDigestSize digest (get_or sent.packed.nodes 0 [])
  pub verdict : VerifiesSmall observes gives passing checks gives_bits repr hash size width times vector m n w k root point value sent old true

-- What it shows of a packed table, whose value where the sum-check ends is the one that is opened: the value is that of its small elements at
-- the point, or a coordinate of the point that mixes parts is the root of a line that is not 0, which the parts settle before, or a challenge
-- saves the claim that the mixed sum is the sum of the products.
abbrev pub ShowsSmall : {F : Type 0} → (F → ℕ) → ℕ → (ℕ → ℕ → ℕ) → ℕ → ℕ → ℕ → List F → F → SentSmall F → List F → List F → List ℕ → Type 0
ShowsSmall repr width times n w k point value sent mix at table =
    (repr value ≡ multilinear_value times (small_values w k table) (map repr point))
    ⊎ ((j : ℕ) × IsRootAt times
    (part_rows times w k (zip2 bit_xor (map repr sent.parts) (value_parts times w k table (map repr (take n point))))) (map repr mix) j)
    ⊎ ((j : ℕ) × IsSaved width times product_terms 2 (mixed_sum times w (point_scalars times (map repr mix)) (map repr sent.parts))
    (interleaved (mixed_weights times w (point_scalars times (map repr mix)) (map repr (take n point))) table) (map repr at)
    (map (map repr) (messages_of 2 n sent.messages)) j)

-- .. and of columns: they commit to a table of which it shows this, or a coordinate of the point where the sum-check ends is lucky, or the
-- places are
abbrev pub ShowsPacked : {F : Type 0} → (F → ℕ) → ℕ → (ℕ → ℕ → ℕ) → (ℕ → ℕ) → ℕ → ℕ → ℕ → ℕ → ℕ → (ℕ → List ℕ) → List F → F → SentSmall F
    → List F → List F → List ℕ → Type 0
ShowsPacked repr width times vector m n w k e column point value sent mix at places =
    ShowsTable width times vector (row_levels m n) 2 e column (map repr (take (matrix_rows m n) at)) (map repr sent.packed.row) places
    (ShowsSmall repr width times n w k point value sent mix at)

-- Soundness, for every prover: of accepted openings under one root, any number of them, there is a function of columns that has all that they
-- open, and whatever such a function is, each shows its value of the one table to which it commits; or two of them have a collision.
abbrev pub SmallValuesAreBound : {C F : Type 0} → (C → F → C → Type 0) → (C → F → C → Type 0) → (C → ℕ → ℕ → Bool)
    → (C → ℕ → ℕ → C → Type 0) → (C → ℕ → ℕ → C → Type 0) → (F → ℕ) → ℕ → ℕ → (ℕ → ℕ → ℕ) → (ℕ → ℕ) → Type 0
SmallValuesAreBound {C} {F} observes gives passing checks gives_bits repr size width times vector =
    IsField width times → AreCantorVectors width times vector → ((b : ℕ) → b < width → vector b < 2 ^ width)
    → ((x : F) → repr x < 2 ^ width) → width ≤ 8 * size → (hash : List ℕ → List ℕ) (digest : ℕ)
    → ((bytes : List ℕ) → length (hash bytes) ≡ digest)
    → (m n w k e : ℕ) (root : List ℕ) → IsSpaceOver width times w k → word_levels m n ≤ width
    → 2 * e + 2 ^ row_levels m n ≤ 2 ^ 2 * 2 ^ row_levels m n
    → (count : ℕ) (opening : ℕ → AcceptedSmall observes gives passing checks gives_bits repr size width times vector hash digest m n w k root)
    → (((column : ℕ → List ℕ) × AreColumnsOf width (2 ^ 2 * 2 ^ row_levels m n) column
    × HasSent count (λ i. value_columns repr m n (get_or (opening i).sent.packed.columns 0 []) (get_or (opening i).sent.packed.nodes 0 [])
    (opening i).verdict.opened.places) column)
    × ((column : ℕ → List ℕ) → AreColumnsOf width (2 ^ 2 * 2 ^ row_levels m n) column
    → HasSent count (λ i. value_columns repr m n (get_or (opening i).sent.packed.columns 0 []) (get_or (opening i).sent.packed.nodes 0 [])
    (opening i).verdict.opened.places) column
    → (i : ℕ) → i < count
    → ShowsPacked repr width times vector m n w k e column (opening i).point (opening i).value (opening i).sent (opening i).verdict.mix
    (opening i).verdict.at (opening i).verdict.opened.places))
    ⊎ HaveOtherColumns hash size (word_levels m n) root count
    (λ i. value_columns repr m n (get_or (opening i).sent.packed.columns 0 []) (get_or (opening i).sent.packed.nodes 0 [])
    (opening i).verdict.opened.places)
