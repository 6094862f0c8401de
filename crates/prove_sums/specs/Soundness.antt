-- Soundness of sums of products of two tables, for every prover: what accepted proofs show of the columns that two roots hold.
use Rattle.std.specs.Prelude.{◌≡◌, ◌⊎◌, ℕ, ◌+◌, ◌*◌, ◌^◌, ◌<◌, ◌≤◌, Bool, true, List, [], ◌∷◌, ◌++◌, length, map, take, drop, bit_xor, slice_index}
use Rattle.field_base.specs.Field.{IsField}
use Rattle.field_base.specs.Orders.{AreCantorVectors}
use Rattle.field_element.specs.Element.{repr_of}
use Rattle.field_slices.specs.Multilinear.{multilinear_value}
use Rattle.transcripts.specs.MerkleTrees.{HaveDigestSize}
use Rattle.sum_checks.specs.Sumcheck.{messages_of}
use Rattle.sum_checks.specs.SumcheckClaims.{AreMessages, IsSaved, reduced_claim}
use Rattle.sum_checks.specs.Terms.{cube_sum}
use Rattle.sum_checks.specs.ZeroCheck.{IsRootAt}
use Rattle.protocols.specs.CommitmentScheme.{matrix_rows, row_levels, value_columns, word_levels}
use Rattle.protocols.specs.OpenedTables.{AreColumnsOf, AreLuckyPlaces, CommitsTo, HasLuckyCoordinate}
use Rattle.protocols.specs.RootColumns.{HasSent, HaveOtherColumns, SentColumns}
use Rattle.protocols.specs.Tables.{AgreesAt}
use Rattle.protocols.specs.ProductSums.{interleaved, product_terms}
use Rattle.prove_sums.specs.declared.tables.Table.{Table}
use Rattle.prove_sums.specs.declared.tables.TableField.{TableField}
use Rattle.prove_sums.specs.ProofFiles.{IsFileOf, file_bytes, number_in}
use Rattle.prove_sums.specs.Shapes.{columns_in, element_count, messages_in, nodes_in, row_in, sum_in, values_in}
use Rattle.prove_sums.specs.SoundnessErrors.{IsAcceptedRun, joint_column, sends_always}
use Rattle.prove_sums.specs.Verdicts.{IsSumVerdict, VerifiesSum, word_times, word_vector}

-- ---- of columns

-- by how much two values differ from those of two tables at a point
abbrev pub both_differences : (ℕ → ℕ → ℕ) → List ℕ → List ℕ → List ℕ → List ℕ → List ℕ
both_differences times values one other point =
    bit_xor (slice_index values 0) (multilinear_value times one point) ∷ bit_xor (slice_index values 1) (multilinear_value times other point) ∷ []

-- What messages, values and a row show of the columns of two tables, whatever these are: the columns commit to two tables, and the sum is
-- that of the products of both, or a round is saved, or the challenge that combines the tables is lucky for the values, the root of a line
-- that is not 0; or else that challenge or a coordinate of the point is lucky for the columns of both, one above the other, or the places
-- are for the row.
abbrev pub ShowsSum : ℕ → (ℕ → ℕ → ℕ) → (ℕ → ℕ) → ℕ → ℕ → ℕ → (ℕ → List ℕ) → (ℕ → List ℕ) → ℕ → List (List ℕ) → List ℕ → List ℕ
    → List ℕ → List ℕ → List ℕ → List ℕ → Type 0
ShowsSum width times vector k r e left right sum messages combining values first others row places =
    ((one other : List ℕ) × CommitsTo width times vector k r e (2 ^ length first) left one
    × CommitsTo width times vector k r e (2 ^ length first) right other
    × ((sum ≡ cube_sum times product_terms 2 (length (first ++ others)) (interleaved one other))
    ⊎ ((j : ℕ) × IsSaved width times product_terms 2 sum (interleaved one other) (first ++ others) messages j)
    ⊎ ((j : ℕ) × IsRootAt times (both_differences times values one other (first ++ others)) combining j)))
    ⊎ HasLuckyCoordinate width times vector k r e (joint_column (2 ^ length first) left right) (combining ++ first)
    ⊎ AreLuckyPlaces width times vector k r e (joint_column (2 ^ length first) left right) (combining ++ first) row places

-- Messages that leave the product of two values as the claim, and a row that agrees with the columns of both tables at places and has what the
-- values have at one challenge, show the sum, for every prover.
abbrev pub SumsNeedLuck : Type 0
SumsNeedLuck =
    (width : ℕ) (times : ℕ → ℕ → ℕ) (vector : ℕ → ℕ) → 2 ≤ width → IsField width times → AreCantorVectors width times vector
    → ((b : ℕ) → b < width → vector b < 2 ^ width)
    → (k r e : ℕ) (left right : ℕ → List ℕ) (sum : ℕ) (messages : List (List ℕ)) (combining values first others row places : List ℕ)
    → r + k ≤ width → 2 * e + 2 ^ k ≤ 2 ^ r * 2 ^ k → length combining ≡ 1 → length others ≡ k
    → AreColumnsOf width (2 ^ r * 2 ^ k) left → AreColumnsOf width (2 ^ r * 2 ^ k) right
    → sum < 2 ^ width → AreMessages width 2 messages → length messages ≡ length (first ++ others)
    → ((i : ℕ) → slice_index values i < 2 ^ width)
    → reduced_claim width times sum messages (first ++ others) ≡ times (slice_index values 0) (slice_index values 1)
    → AgreesAt width times vector k r (combining ++ first) row places
    (λ i. joint_column (2 ^ length first) left right (slice_index places i))
    → multilinear_value times values combining ≡ multilinear_value times row others
    → ShowsSum width times vector k r e left right sum messages combining values first others row places

-- ---- of proofs

-- what is asked of a field, of elements of `size` bytes: it has Cantor vectors, at whose sums code words have their values, and an element is
-- the one of its number
pub record HasPoints {F : Type 0} (repr : F → ℕ) (size width : ℕ) (times : ℕ → ℕ → ℕ) (vector : ℕ → ℕ) : Type 0 where
  pub field : IsField width times
  pub vectors : AreCantorVectors width times vector
  pub fit : (b : ℕ) → b < width → vector b < 2 ^ width
  pub range : (x : F) → repr x < 2 ^ width
  pub same : (x y : F) → repr x ≡ repr y → x ≡ y
  pub room : width ≤ 8 * size

-- a proof for two roots that is accepted, from some state of a transcript
pub record AcceptedProof {C F : Type 0} (observes gives : C → F → C → Type 0) (passing : C → ℕ → ℕ → Bool)
    (checks : C → ℕ → ℕ → C → Type 0) (gives_bits : C → ℕ → ℕ → C → Type 0) (number repr : F → ℕ) (size width : ℕ) (times : ℕ → ℕ → ℕ)
    (vector : ℕ → ℕ) (hash : List ℕ → List ℕ) (digest m n : ℕ) (left right : List ℕ) : Type 0 where
  pub elements : List F
  pub nodes : List (List ℕ)
  pub old : C
  pub count : length elements ≡ element_count m n
  pub digests : HaveDigestSize digest nodes
  pub verdict : VerifiesSum observes gives passing checks gives_bits number repr hash size width times vector m n left right elements nodes
      old true

-- the columns of table 0 or 1 that it opens
abbrev pub sent_columns : {F : Type 0} → (F → ℕ) → ℕ → ℕ → ℕ → List F → List (List ℕ) → List ℕ → SentColumns
sent_columns repr m n which elements nodes places = value_columns repr m n (columns_in m n which elements) (nodes_in which nodes) places

-- what its messages, values and row show of the columns of both roots
abbrev pub ElementsShowSum : {F : Type 0} → (F → ℕ) → ℕ → (ℕ → ℕ → ℕ) → (ℕ → ℕ) → ℕ → ℕ → ℕ → (ℕ → List ℕ) → (ℕ → List ℕ) → List F
    → List F → List F → List ℕ → Type 0
ElementsShowSum repr width times vector m n e one other elements point combining places =
    ShowsSum width times vector (row_levels m n) 2 e one other (sum_in repr elements)
    (map (map repr) (messages_of 2 n (messages_in n elements))) (map repr combining) (map repr (values_in n elements))
    (map repr (take (matrix_rows m n) point)) (map repr (drop (matrix_rows m n) point)) (map repr (row_in m n elements)) places

-- with these columns it is a run of the interactive protocol that a verifier accepts, with the challenges and the places as those that it
-- draws: so of all that it may draw, as few make a proof of a false sum accepted as runs are (`FewCheatsSucceed`, SoundnessErrors.antt)
abbrev pub ElementsAreRun : {F : Type 0} → (F → ℕ) → ℕ → (ℕ → ℕ → ℕ) → (ℕ → ℕ) → ℕ → ℕ → (ℕ → List ℕ) → (ℕ → List ℕ) → List F → List F
    → List F → List ℕ → Type 0
ElementsAreRun repr width times vector m n one other elements point combining places =
    IsAcceptedRun width times vector m n one other (sum_in repr elements)
    (sends_always (map (map repr) (messages_of 2 n (messages_in n elements))) (map repr (values_in n elements)) (map repr (row_in m n elements)))
    (map repr point) (map repr combining) places

-- there is a function of columns of elements, over so many places, that has those of the openings
abbrev pub HaveColumns : ℕ → ℕ → ℕ → (ℕ → SentColumns) → Type 0
HaveColumns width size count sent = (column : ℕ → List ℕ) × AreColumnsOf width size column × HasSent count sent column

-- What so many proofs show that open columns of two roots. There are functions of columns that have all that they open, and each proof shows
-- its sum of any such functions, and is a run with these: so of the columns that a prover has committed to, whatever is opened of them. The functions are of all
-- proofs, so that what is lucky is the same for all, and so are the tables to which they commit (`TableIsOne` of `protocols`). Or two proofs
-- open other columns at one place, and have a collision of the hash function.
abbrev pub RootsShowSums : {F : Type 0} → (F → ℕ) → (List ℕ → List ℕ) → ℕ → ℕ → (ℕ → ℕ → ℕ) → (ℕ → ℕ) → ℕ → ℕ → ℕ → List ℕ → List ℕ → ℕ
    → (ℕ → List F) → (ℕ → List (List ℕ)) → (ℕ → List F) → (ℕ → List F) → (ℕ → List ℕ) → Type 0
RootsShowSums repr hash size width times vector m n e left right count elements nodes point combining places =
    (HaveColumns width (2 ^ 2 * 2 ^ row_levels m n) count (λ i. sent_columns repr m n 0 (elements i) (nodes i) (places i))
    × HaveColumns width (2 ^ 2 * 2 ^ row_levels m n) count (λ i. sent_columns repr m n 1 (elements i) (nodes i) (places i))
    × ((one other : ℕ → List ℕ) → AreColumnsOf width (2 ^ 2 * 2 ^ row_levels m n) one → AreColumnsOf width (2 ^ 2 * 2 ^ row_levels m n) other
    → HasSent count (λ i. sent_columns repr m n 0 (elements i) (nodes i) (places i)) one
    → HasSent count (λ i. sent_columns repr m n 1 (elements i) (nodes i) (places i)) other
    → (i : ℕ) → i < count
    → ElementsShowSum repr width times vector m n e one other (elements i) (point i) (combining i) (places i)
    × ElementsAreRun repr width times vector m n one other (elements i) (point i) (combining i) (places i)))
    ⊎ HaveOtherColumns hash size (word_levels m n) left count (λ i. sent_columns repr m n 0 (elements i) (nodes i) (places i))
    ⊎ HaveOtherColumns hash size (word_levels m n) right count (λ i. sent_columns repr m n 1 (elements i) (nodes i) (places i))

-- any proofs that are accepted for the same roots, as many as one likes, show sums of what these hold
abbrev pub SumsAreProved : {C F : Type 0} → (C → F → C → Type 0) → (C → F → C → Type 0) → (C → ℕ → ℕ → Bool)
    → (C → ℕ → ℕ → C → Type 0) → (C → ℕ → ℕ → C → Type 0) → (F → ℕ) → (F → ℕ) → ℕ → ℕ → (ℕ → ℕ → ℕ) → (ℕ → ℕ) → Type 0
SumsAreProved observes gives passing checks gives_bits number repr size width times vector =
    (hash : List ℕ → List ℕ) (digest : ℕ) → ((bytes : List ℕ) → length (hash bytes) ≡ digest)
    → (m n e : ℕ) (left right : List ℕ) → 2 ≤ width → word_levels m n ≤ width → 2 * e + 2 ^ row_levels m n ≤ 2 ^ 2 * 2 ^ row_levels m n
    → (count : ℕ)
    (proof : ℕ → AcceptedProof observes gives passing checks gives_bits number repr size width times vector hash digest m n left right)
    → RootsShowSums repr hash size width times vector m n e left right count (λ i. (proof i).elements) (λ i. (proof i).nodes)
    (λ i. (proof i).verdict.point) (λ i. (proof i).verdict.opened.challenges) (λ i. (proof i).verdict.opened.places)

-- ---- of files

-- a file of a proof for the tables with these roots, of 2 ^ n words of some field, of which 2 ^ m places are opened, which is accepted
pub record AcceptedFile {F H : Type 0} (digest : H → List ℕ → List ℕ) (hasher : H) (repr : F → ℕ) (m n : ℕ) (left right : List ℕ)
    : Type 0 where
  pub bytes : List ℕ
  pub field : TableField
  pub elements : List F
  pub nodes : List (List ℕ)
  pub file : IsFileOf repr bytes field m n left right elements nodes
  pub verdict : IsSumVerdict digest hasher repr (file_bytes field m n left right [] []) m n left right elements nodes true

-- The same of files that the program accepts for the same roots, by a hasher whose digests have 32 bytes.
abbrev pub FilesShowSums : {F H : Type 0} → (H → List ℕ → List ℕ) → (F → ℕ) → Type 0
FilesShowSums {F} {H} digest repr =
    (hasher : H) → ((bytes : List ℕ) → length (digest hasher bytes) ≡ 32)
    → (m n e : ℕ) (left right : List ℕ) → 2 * e + 2 ^ row_levels m n ≤ 2 ^ 2 * 2 ^ row_levels m n
    → (count : ℕ) (file : ℕ → AcceptedFile digest hasher repr m n left right)
    → RootsShowSums repr (digest hasher) 16 128 word_times word_vector m n e left right count (λ i. (file i).elements) (λ i. (file i).nodes)
    (λ i. (file i).verdict.point) (λ i. (file i).verdict.opened.challenges) (λ i. (file i).verdict.opened.places)

-- .. of words
abbrev pub WordFilesShowSums : {H : Type 0} → (H → List ℕ → List ℕ) → Type 0
WordFilesShowSums digest = FilesShowSums digest (number_in (λ (table : Table). table.elements.items) repr_of)
