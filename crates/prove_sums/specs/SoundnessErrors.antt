-- The soundness error of proofs of sums of products of two tables, as a count of runs. The protocol is interactive
-- here: a prover has chosen the columns of two tables and a sum, and sends each message by the challenges before it, the
-- values of both tables by all of these, and one row by the challenge that combines the tables as well; a verifier draws
-- n challenges and that one, each one of the F elements of the field, and then a place in each block, all at random. For
-- so many of all lists of draws it accepts a sum that is false, at most, whatever the prover is (L. Babai and S. Moran,
-- Arthur-Merlin games, 1988, for such protocols; S. Ames, C. Hazay, Y. Ishai and M. Venkitasubramaniam, Ligero, 2017,
-- section 4, for columns that are opened).
use Rattle.std.specs.Prelude.{◌≡◌, ◌≢◌, ℕ, zero, suc, ◌+◌, ◌-◌, ◌*◌, ◌^◌, ◌<◌, ◌≤◌, Bool, true, cond, List, [], ◌++◌, length}
use Rattle.std.specs.Prelude.{drop, take, get_or, max, slice_index}
use Rattle.field_base.specs.Field.{IsField}
use Rattle.field_base.specs.Orders.{AreCantorVectors}
use Rattle.field_slices.specs.Multilinear.{multilinear_value}
use Rattle.field_slices.specs.Codes.{HasGap}
use Rattle.field_slices.specs.Openings.{AreNumbersBelow, sum_lists}
use Rattle.sum_checks.specs.SumcheckClaims.{reduced_claim}
use Rattle.sum_checks.specs.Terms.{cube_sum}
use Rattle.protocols.specs.CodeDistances.{point_generator}
use Rattle.protocols.specs.CommitmentScheme.{block_places, matrix_rows, place_bits, place_count, row_levels, word_levels}
use Rattle.protocols.specs.JointTables.{stacked}
use Rattle.protocols.specs.OpenedTables.{AreColumnsOf, CommitsTo}
use Rattle.protocols.specs.SoundnessErrors.{SendsMessages, sent_messages}
use Rattle.protocols.specs.Tables.{AgreesAt}
use Rattle.protocols.specs.ProductSums.{interleaved, product_terms}
use Rattle.prove_sums.specs.Bits.{error_parts, whole_parts, wrong_columns}
use Rattle.prove_sums.specs.Verdicts.{word_times, word_vector}

-- ---- runs

-- the columns of the left table and of the right one
abbrev pub both_columns : (ℕ → List ℕ) → (ℕ → List ℕ) → ℕ → ℕ → List ℕ
both_columns left right zero = left
both_columns left right (suc which) = right

-- column p of both, of `height` symbols each, one above the other
abbrev pub joint_column : ℕ → (ℕ → List ℕ) → (ℕ → List ℕ) → ℕ → List ℕ
joint_column height left right = stacked 2 height (both_columns left right)

-- what a prover does: its message of a round, by the challenges before it, the values of both tables, by all of these,
-- and the row, by these and by what combines the tables
pub record Prover : Type 0 where
  pub message : List ℕ → List ℕ
  pub values : List ℕ → List ℕ
  pub row : List ℕ → List ℕ → List ℕ

-- one that sends these messages, one after the other, these values and this row, whatever the challenges are
abbrev pub sends_always : List (List ℕ) → List ℕ → List ℕ → Prover
sends_always messages values row =
    record { message = λ past. get_or messages (length past) []; values = λ _. values; row = λ _ _. row }

-- A verifier accepts, by the challenges, the one that combines the tables, and the places that it draws: the messages
-- lead the sum to the product of the values, the row agrees with the columns of both tables at the places, and has at
-- the last challenges what the values have at the one that combines.
pub record IsAcceptedRun (width : ℕ) (times : ℕ → ℕ → ℕ) (vector : ℕ → ℕ) (m n : ℕ) (left right : ℕ → List ℕ) (sum : ℕ)
    (prover : Prover) (point combining places : List ℕ) : Type 0 where
  pub reduced : reduced_claim width times sum (sent_messages prover.message point) point
      ≡ times (slice_index (prover.values point) 0) (slice_index (prover.values point) 1)
  pub agrees : AgreesAt width times vector (row_levels m n) 2 (combining ++ take (matrix_rows m n) point)
      (prover.row point combining) places
      (λ i. joint_column (2 ^ matrix_rows m n) left right (slice_index places i))
  pub evaluates : multilinear_value times (prover.values point) combining
      ≡ multilinear_value times (prover.row point combining) (drop (matrix_rows m n) point)

-- A prover cheats: its columns are not those of two tables whose products have the sum, but for at most e columns.
-- A test of challenges and of numbers of places holds only where the verifier accepts.
pub record Cheats (width : ℕ) (times : ℕ → ℕ → ℕ) (vector : ℕ → ℕ) (m n e : ℕ) (left right : ℕ → List ℕ) (sum : ℕ)
    (prover : Prover) (accepted : List ℕ → List ℕ → List ℕ → Bool) : Type 0 where
  pub left_fits : AreColumnsOf width (2 ^ 2 * 2 ^ row_levels m n) left
  pub right_fits : AreColumnsOf width (2 ^ 2 * 2 ^ row_levels m n) right
  pub sum_fits : sum < 2 ^ width
  pub sends : SendsMessages width 2 prover.message
  pub values_fit : (point : List ℕ) (i : ℕ) → slice_index (prover.values point) i < 2 ^ width
  pub wrong : (one other : List ℕ) → CommitsTo width times vector (row_levels m n) 2 e (2 ^ matrix_rows m n) left one
      → CommitsTo width times vector (row_levels m n) 2 e (2 ^ matrix_rows m n) right other
      → sum ≢ cube_sum times product_terms 2 n (interleaved one other)
  pub tests : (point combining numbers : List ℕ) → AreNumbersBelow n (2 ^ width) point
      → AreNumbersBelow 1 (2 ^ width) combining
      → AreNumbersBelow (place_count m n) (2 ^ place_bits m n) numbers
      → accepted point combining numbers ≡ true
      → IsAcceptedRun width times vector m n left right sum prover point combining
      (block_places (place_bits m n) numbers)

-- how many lists of challenges and of numbers of places there are
abbrev pub all_runs : ℕ → ℕ → ℕ → ℕ
all_runs width m n = (2 ^ width) ^ suc n * (2 ^ place_bits m n) ^ place_count m n

-- of how many of these a test holds
abbrev pub accepted_runs : ℕ → ℕ → ℕ → (List ℕ → List ℕ → List ℕ → Bool) → ℕ
accepted_runs width m n accepted =
    sum_lists n (2 ^ width)
    (λ point. sum_lists 1 (2 ^ width)
    (λ combining. sum_lists (place_count m n) (2 ^ place_bits m n)
    (λ numbers. cond (accepted point combining numbers) 1 0)))

-- Over every field: the share of runs that accept a prover that cheats is at most
-- max(2 n + 1, (h + 1) lucky) / F + (1 - (e + 1) / N)^q, with N = q 2 ^ b places, q of them drawn, one in each block of 2 ^ b, and 2 ^ h rows,
-- where lines are near the code at more than `lucky` points only if they are near it as a whole.
abbrev pub FewCheatsSucceed : Type 0
FewCheatsSucceed =
    (width : ℕ) (times : ℕ → ℕ → ℕ) (vector : ℕ → ℕ) → 2 ≤ width → IsField width times
    → AreCantorVectors width times vector
    → ((b : ℕ) → b < width → vector b < 2 ^ width)
    → (m n e lucky : ℕ) → word_levels m n ≤ width → 2 * e + 2 ^ row_levels m n ≤ 2 ^ 2 * 2 ^ row_levels m n
    → HasGap width times (2 ^ row_levels m n) (2 ^ 2 * 2 ^ row_levels m n)
    (point_generator width times vector (row_levels m n)) e lucky
    → (left right : ℕ → List ℕ) (sum : ℕ) (prover : Prover) (accepted : List ℕ → List ℕ → List ℕ → Bool)
    → Cheats width times vector m n e left right sum prover accepted
    → 2 ^ width * (place_count m n ^ place_count m n * accepted_runs width m n accepted)
    ≤ max (suc (2 * n)) (suc (matrix_rows m n) * lucky) * (2 ^ width) ^ suc n * (2 ^ 2 * 2 ^ row_levels m n) ^ place_count m n
    + 2 ^ width * ((2 ^ width) ^ suc n * (2 ^ 2 * 2 ^ row_levels m n - (e + 1)) ^ place_count m n)

-- ---- over the field of GHASH

-- with the sizes and in the numbers of Bits.antt: whatever the prover is, at most that share of all runs accepts a sum that is false
abbrev pub ErrorsAreSmall : Type 0
ErrorsAreSmall =
    (m n : ℕ) → 7 ≤ m → m ≤ 8 → n ≤ 39
    → (left right : ℕ → List ℕ) (sum : ℕ) (prover : Prover) (accepted : List ℕ → List ℕ → List ℕ → Bool)
    → Cheats 128 word_times word_vector m n (wrong_columns m n) left right sum prover accepted
    → whole_parts m * accepted_runs 128 m n accepted ≤ error_parts m n * all_runs 128 m n

-- so that at most one of 2 ^ b runs accepts a sum that is false
abbrev pub AreSoundBits : ℕ → ℕ → ℕ → Type 0
AreSoundBits m n bits =
    (left right : ℕ → List ℕ) (sum : ℕ) (prover : Prover) (accepted : List ℕ → List ℕ → List ℕ → Bool)
    → Cheats 128 word_times word_vector m n (wrong_columns m n) left right sum prover accepted
    → 2 ^ bits * accepted_runs 128 m n accepted ≤ all_runs 128 m n
