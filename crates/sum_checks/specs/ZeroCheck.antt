-- Where a multilinear polynomial that is not 0 has the value 0 (J. Thaler, Proofs, Arguments, and Zero-Knowledge, sections 3.5 and 4.6),
-- and the sum that shows that three tables meet a b = c at every corner.
use Rattle.std.specs.Prelude.{◌≡◌, ◌≢◌, ◌⊎◌, ℕ, zero, suc, ◌+◌, ◌-◌, ◌*◌, ◌/◌, ◌%◌, ◌^◌, ◌<◌, ◌≤◌, List, [], ◌∷◌, length, map, take, slice_index, bit_xor}
use Rattle.std.specs.List.{range_with_len}
use Rattle.field_base.specs.Field.{IsField}
use Rattle.field_slices.specs.Multilinear.{AreCornerValues, eq_coordinate, eq_corner, folded_all, multilinear_value, on_line}
use Rattle.sum_checks.specs.SumcheckClaims.{AreHonestMessages, AreMessages, IsSaved, reduced_claim}
use Rattle.sum_checks.specs.Terms.{Product, cube_sum}

-- a line, by its values at 0 and 1, is not 0
abbrev pub IsNonzeroLine : ℕ → ℕ → Type 0
IsNonzeroLine v w = (v ≢ 0) ⊎ (w ≢ 0)

-- Coordinate k of the point is the root of a line that is not 0: the line through the values at two corners that are left where the
-- coordinates before are set, and that differ in their first coordinate.
pub record IsRootAt (times : ℕ → ℕ → ℕ) (values point : List ℕ) (k : ℕ) : Type 0 where
  pub inside : k < length point
  pub corner : ℕ
  pub line : IsNonzeroLine (slice_index (folded_all times (take k point) values) corner)
      (slice_index (folded_all times (take k point) values) (2 ^ (length point - suc k) + corner))
  pub root : on_line times (slice_index point k) (slice_index (folded_all times (take k point) values) corner)
      (slice_index (folded_all times (take k point) values) (2 ^ (length point - suc k) + corner))
      ≡ 0

-- values that are not all 0 have the value 0 at a point only where a coordinate is such a root
abbrev pub ZeroNeedsRoot : Type 0
ZeroNeedsRoot =
    (width : ℕ) (times : ℕ → ℕ → ℕ) (values point : List ℕ) (i : ℕ) → IsField width times → 0 < width
    → AreCornerValues width (length point) values → i < 2 ^ length point → slice_index values i ≢ 0
    → multilinear_value times values point ≡ 0 → (k : ℕ) × IsRootAt times values point k

-- a line that is not 0 has one root at most
abbrev pub LinesHaveOneRoot : Type 0
LinesHaveOneRoot =
    (width : ℕ) (times : ℕ → ℕ → ℕ) (v w x y : ℕ) → IsField width times → 0 < width → v < 2 ^ width → w < 2 ^ width → x < 2 ^ width
    → y < 2 ^ width → IsNonzeroLine v w → on_line times x v w ≡ 0 → on_line times y v w ≡ 0 → x ≡ y

-- the terms e a b + e c of four tables
abbrev pub zero_check_terms : List Product
zero_check_terms =
    (record { coefficient = 1; factors = 0 ∷ 1 ∷ 2 ∷ [] }) ∷ (record { coefficient = 1; factors = 0 ∷ 3 ∷ [] }) ∷ []

-- a b + c at each of 2 ^ n corners, by rows of e, a, b and c
abbrev pub zero_check_values : (ℕ → ℕ → ℕ) → ℕ → List ℕ → List ℕ
zero_check_values times n rows =
    map (λ i. bit_xor (times (slice_index rows (i * 4 + 1)) (slice_index rows (i * 4 + 2))) (slice_index rows (i * 4 + 3))) (range_with_len 0 (2 ^ n))

-- where e is eq(point, corner), the sum of the terms is the value at the point of a b + c
abbrev pub ZeroCheckEvaluates : Type 0
ZeroCheckEvaluates =
    (width : ℕ) (times : ℕ → ℕ → ℕ) (rows point : List ℕ) → IsField width times
    → ((i : ℕ) → slice_index rows i < 2 ^ width)
    → ((i : ℕ) → i < 2 ^ length point → slice_index rows (i * 4 + 0) ≡ eq_corner times point i)
    → cube_sum times zero_check_terms 4 (length point) rows ≡ multilinear_value times (zero_check_values times (length point) rows) point

-- ---- the rows of a zero-check

-- table j of e, a, b and c at corner i, where e is eq(point, corner)
unfoldable pub zero_check_entry : (ℕ → ℕ → ℕ) → List ℕ → List ℕ → List ℕ → List ℕ → ℕ → ℕ → ℕ
zero_check_entry times point a b c i zero = eq_corner times point i
zero_check_entry times point a b c i (suc zero) = slice_index a i
zero_check_entry times point a b c i (suc (suc zero)) = slice_index b i
zero_check_entry times point a b c i (suc (suc (suc j))) = slice_index c i

-- the rows of the four tables
abbrev pub zero_check_rows : (ℕ → ℕ → ℕ) → List ℕ → List ℕ → List ℕ → List ℕ → List ℕ
zero_check_rows times point a b c = map (λ k. zero_check_entry times point a b c (k / 4) (k % 4)) (range_with_len 0 (2 ^ length point * 4))

-- eq(point, other): the product over the coordinates, of two points of as many
unfoldable pub eq_point : (ℕ → ℕ → ℕ) → List ℕ → List ℕ → ℕ
eq_point times [] others = 1
eq_point times (x ∷ xs) [] = 1
eq_point times (x ∷ xs) (y ∷ ys) = times (eq_coordinate times x y) (eq_point times xs ys)

-- eq(point, challenges) (a b + c), with the values of a, b and c at the challenges
abbrev pub zero_check_value : (ℕ → ℕ → ℕ) → List ℕ → List ℕ → List ℕ → List ℕ → List ℕ → ℕ
zero_check_value times point challenges a b c =
    times (eq_point times point challenges)
    (bit_xor (times (multilinear_value times a challenges) (multilinear_value times b challenges)) (multilinear_value times c challenges))

-- a b + c at each corner
abbrev pub zero_differences : (ℕ → ℕ → ℕ) → ℕ → List ℕ → List ℕ → List ℕ → List ℕ
zero_differences times n a b c = map (λ i. bit_xor (times (slice_index a i) (slice_index b i)) (slice_index c i)) (range_with_len 0 (2 ^ n))

-- ---- completeness and soundness

-- where a b = c at every corner, honest messages lead from the sum 0 to the value at the challenges
abbrev pub ZerosReduce : Type 0
ZerosReduce =
    (width : ℕ) (times : ℕ → ℕ → ℕ) (a b c point challenges : List ℕ) (messages : List (List ℕ)) → IsField width times → 2 ≤ width
    → AreCornerValues width (length point) a → AreCornerValues width (length point) b → AreCornerValues width (length point) c
    → length challenges ≡ length point
    → ((i : ℕ) → i < 2 ^ length point → times (slice_index a i) (slice_index b i) ≡ slice_index c i)
    → AreHonestMessages times zero_check_terms 4 3 (zero_check_rows times point a b c) messages challenges
    → reduced_claim width times 0 messages challenges ≡ zero_check_value times point challenges a b c

-- Where a b and c differ at a corner, messages of any prover lead from the sum 0 to the value at the challenges only where a coordinate of
-- the point is the root of a line that is not 0, or a challenge saves the claim that the sum is 0.
abbrev pub FalseZerosNeedLuck : Type 0
FalseZerosNeedLuck =
    (width : ℕ) (times : ℕ → ℕ → ℕ) (a b c point challenges : List ℕ) (messages : List (List ℕ)) (i : ℕ) → IsField width times → 2 ≤ width
    → AreCornerValues width (length point) a → AreCornerValues width (length point) b → AreCornerValues width (length point) c
    → length challenges ≡ length point → AreMessages width 3 messages → length messages ≡ length challenges
    → i < 2 ^ length point → times (slice_index a i) (slice_index b i) ≢ slice_index c i
    → reduced_claim width times 0 messages challenges ≡ zero_check_value times point challenges a b c
    → ((k : ℕ) × IsRootAt times (zero_differences times (length point) a b c) point k)
    ⊎ ((k : ℕ) × IsSaved width times zero_check_terms 4 0 (zero_check_rows times point a b c) challenges messages k)
