-- A commitment to one table of 2 ^ n elements, at the rate 1 / 4, and openings of its value at a point at up to 2 ^ m places
-- (S. Ames, C. Hazay, Y. Ishai and M. Venkitasubramaniam, Ligero, 2017, section 4; B. Diamond and J. Posen, Succinct arguments over towers
-- of binary fields, 2023, section 3). Elements have numbers by `repr`, and Tables.antt has the columns.
use Rattle.std.specs.Prelude.{◌≡◌, ◌⊎◌, ℕ, suc, ◌+◌, ◌-◌, ◌*◌, ◌/◌, ◌%◌, ◌^◌, ◌<◌, ◌≤◌, Bool, List, length, map}
use Rattle.std.specs.Prelude.{slice_index}
use Rattle.std.specs.List.{range_with_len}
use Rattle.field_bytes.specs.Streams.{joined_bytes}
use Rattle.transcripts.specs.Commitments.{IsTreeOver, row_at}
use Rattle.transcripts.specs.Queries.{AreQueries}
use Rattle.transcripts.specs.declared.merkle_tree.MerkleTree.{MerkleTree}
use Rattle.sum_checks.specs.Sumcheck.{IsTurn}
use Rattle.sum_checks.specs.declared.error.ProtocolError.{ProtocolError}
use Rattle.sum_checks.specs.declared.error.ProtocolError.TheVariants.{Memory, NoWitness}
use Rattle.transcripts.specs.Grinding.{NonePasses, candidate_count}
use Rattle.protocols.specs.RootColumns.{SentColumns}
use Rattle.protocols.specs.Tables.{AreExtendedColumns}

-- ---- sizes

-- a table is a matrix of 2 ^ matrix_rows m n rows: a row is then about as long as 2 ^ m columns are together
abbrev pub matrix_rows : ℕ → ℕ → ℕ
matrix_rows m n = (n - m) / 2

-- a row has 2 ^ row_levels m n elements
abbrev pub row_levels : ℕ → ℕ → ℕ
row_levels m n = n - matrix_rows m n

-- a row's code word has 2 ^ word_levels m n places, four for each of its elements
abbrev pub word_levels : ℕ → ℕ → ℕ
word_levels m n = 2 + row_levels m n

-- one place is opened in each block of places, and a place of a block is a number of so many bits
abbrev pub place_bits : ℕ → ℕ → ℕ
place_bits m n = word_levels m n - m

-- there are 2 ^ m blocks, or as many as places where those are fewer
abbrev pub place_count : ℕ → ℕ → ℕ
place_count m n = 2 ^ (word_levels m n - place_bits m n)

-- the places that these numbers are in their blocks
abbrev pub block_places : ℕ → List ℕ → List ℕ
block_places bits numbers = map (λ i. i * 2 ^ bits + slice_index numbers i % 2 ^ bits) (range_with_len 0 (length numbers))

-- the bits of work before places are drawn
abbrev pub opening_work : ℕ
opening_work = 16

-- ---- commitments

-- a table of 2 ^ n elements, the columns of its extension, and the tree over their bytes
pub record HoldsColumns {F A : Type 0} (hash : List ℕ → List ℕ) (repr : F → ℕ) (size width : ℕ) (times : ℕ → ℕ → ℕ) (vector : ℕ → ℕ) (m n : ℕ)
    (table columns : List F) (tree : MerkleTree A) : Type 0 where
  pub count : length table ≡ 2 ^ n
  pub extended : AreExtendedColumns repr width times vector (row_levels m n) 2 (2 ^ matrix_rows m n) (map repr table) columns
  pub depth : tree.depth ≡ word_levels m n
  pub over : IsTreeOver hash (λ p. joined_bytes size repr (row_at (2 ^ matrix_rows m n) columns p)) tree

-- ---- openings

-- Elements are observed in order and a challenge is sampled, a witness is checked, which says whether it works, and then places are
-- sampled, a number for each block.
pub record ArePlacesDrawn {C F : Type 0} (observes gives : C → F → C → Type 0) (passing : C → ℕ → ℕ → Bool)
    (checks gives_bits : C → ℕ → ℕ → C → Type 0) (m n : ℕ) (sent : List F) (witness : ℕ) (old : C) (works : Bool) (places : List ℕ) (new : C)
    : Type 0 where
  pub challenge : F
  pub turned : C
  pub numbers : List ℕ
  pub turn : IsTurn observes gives old sent challenge turned
  pub queries : AreQueries passing checks gives_bits turned opening_work witness works (place_bits m n) numbers new
  pub count : length numbers ≡ place_count m n
  pub chosen : places ≡ block_places (place_bits m n) numbers

-- Why a prover stops in a transcript that has not failed, over a field of so many bits: memory was refused, or in some state of the
-- transcript no candidate is a witness of the work.
abbrev pub StopsOpening : {C : Type 0} → (C → ℕ → ℕ → Bool) → ℕ → ProtocolError → Type 0
StopsOpening {C} passing width error =
    (error ≡ Memory) ⊎ (error ≡ NoWitness) × ((state : C) × NonePasses (passing state opening_work) (candidate_count width))

-- ---- soundness

-- columns that are opened at places, with the nodes that open their bytes
abbrev pub value_columns : {F : Type 0} → (F → ℕ) → ℕ → ℕ → List F → List (List ℕ) → List ℕ → SentColumns
value_columns repr m n columns nodes places =
    record { places = places; column = λ k. map repr (row_at (2 ^ matrix_rows m n) columns k); nodes = nodes }

-- ---- bits

-- By `FewQuarterRateCheats` the share of points and places that make a verifier accept a row that is not what the point folds the near
-- matrix to is at most h 34 N / 2 ^ 128 + (163 / 256) ^ q in a field of 2 ^ 128 elements, of N places, q = 2 ^ m of them opened, and 2 ^ h
-- rows, and each challenge that combines tables is one coordinate more: so many ..
abbrev pub opening_error : ℕ → ℕ → ℕ → ℕ
opening_error levels m n = (levels + matrix_rows m n) * (34 * 2 ^ word_levels m n) * 256 ^ 2 ^ m + 2 ^ 128 * 163 ^ 2 ^ m

-- .. of these parts
abbrev pub opening_whole : ℕ → ℕ
opening_whole m = 2 ^ 128 * 256 ^ 2 ^ m

-- that is at most 2 ^ -bits for one table
abbrev pub HasBits : ℕ → ℕ → ℕ → Type 0
HasBits m n bits = 2 ^ bits * opening_error 0 m n ≤ opening_whole m

-- .. and no less than the half of it
pub record HasMostBits (m n bits : ℕ) : Type 0 where
  pub bound : 2 ^ bits * opening_error 0 m n ≤ opening_whole m
  pub most : opening_whole m < 2 ^ suc bits * opening_error 0 m n
