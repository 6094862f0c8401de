-- Tables of elements of a small field that are packed into elements of a large one (B. Diamond and J. Posen, Succinct arguments over towers
-- of binary fields, 2023, section 4, and Polylogarithmic proofs for multilinears over binary towers, 2024, section 3). An element of the
-- large field has 2 ^ k coefficients, the chunks of w bits of its number, which are elements of the small field. `times` is the product of
-- the large field, and a sum is `bit_xor`.
use Rattle.std.specs.Prelude.{◌≡◌, ◌≢◌, ℕ, ◌+◌, ◌*◌, ◌/◌, ◌%◌, ◌^◌, ◌<◌, List, ◌++◌, length, map}
use Rattle.std.specs.Prelude.{bit_xor, slice_index}
use Rattle.std.specs.List.{range_with_len}
use Rattle.std.specs.Simd.Lanes.{zip2}
use Rattle.field_base.specs.Basis.{sum_below}
use Rattle.field_base.specs.Chunks.{chunk}
use Rattle.field_base.specs.Field.{IsField}
use Rattle.field_base.specs.Ring.{IsRing}
use Rattle.field_slices.specs.Multilinear.{AreCornerValues, eq_corner, multilinear_value}
use Rattle.sum_checks.specs.ZeroCheck.{IsRootAt}
use Rattle.protocols.specs.Tables.{column_values}

-- ---- small fields

-- A field of 2 ^ width elements is a vector space of 2 ^ k dimensions over the numbers below 2 ^ w: one of these multiplies an element
-- chunk by chunk.
pub record IsSpaceOver (width : ℕ) (times : ℕ → ℕ → ℕ) (w k : ℕ) : Type 0 where
  pub some : 0 < w
  pub bits : width ≡ w * 2 ^ k
  pub scales : (i c a : ℕ) → i < 2 ^ k → c < 2 ^ w → chunk w i (times c a) ≡ times c (chunk w i a)

-- the table of small elements that a table packs: number v 2 ^ k + u of them is coefficient u of element v
abbrev pub small_values : ℕ → ℕ → List ℕ → List ℕ
small_values w k table = map (λ i. chunk w (i % 2 ^ k) (slice_index table (i / 2 ^ k))) (range_with_len 0 (length table * 2 ^ k))

-- The parts of its value at a point: part u is the value at the first coordinates of the polynomial whose corner values are the
-- coefficients u.
abbrev pub value_parts : (ℕ → ℕ → ℕ) → ℕ → ℕ → List ℕ → List ℕ → List ℕ
value_parts times w k table first = column_values times first (2 ^ k) (small_values w k table)

-- ---- mixed parts

-- a linear map over the small field: coefficient m of an element is multiplied by scalar m, and all are summed
abbrev pub mixed : (ℕ → ℕ → ℕ) → ℕ → List ℕ → ℕ → ℕ
mixed times w scalars y = sum_below (λ m. times (slice_index scalars m) (chunk w m y)) (length scalars)

-- the element whose coefficients are the images of parts, extended linearly: the sum of X_u times the image of part u, where coefficient u
-- of X_u is 1 and the others are 0
abbrev pub mixed_sum : (ℕ → ℕ → ℕ) → ℕ → List ℕ → List ℕ → ℕ
mixed_sum times w scalars parts =
    sum_below (λ u. times (2 ^ (w * u)) (mixed times w scalars (slice_index parts u))) (length parts)

-- the images of eq(first, corner) at the corners
abbrev pub mixed_weights : (ℕ → ℕ → ℕ) → ℕ → List ℕ → List ℕ → List ℕ
mixed_weights times w scalars first = map (λ v. mixed times w scalars (eq_corner times first v)) (range_with_len 0 (2 ^ length first))

-- the scalars of a point: eq(point, m)
abbrev pub point_scalars : (ℕ → ℕ → ℕ) → List ℕ → List ℕ
point_scalars times point = map (eq_corner times point) (range_with_len 0 (2 ^ length point))

-- the rows of parts: coefficient u of row m is coefficient m of part u
abbrev pub part_rows : (ℕ → ℕ → ℕ) → ℕ → ℕ → List ℕ → List ℕ
part_rows times w k parts =
    map (λ m. sum_below (λ u. times (2 ^ (w * u)) (chunk w m (slice_index parts u))) (2 ^ k)) (range_with_len 0 (2 ^ k))

-- ---- laws

-- the value at a point is that of its parts at the last coordinates
abbrev pub SmallValuesAreWeighted : Type 0
SmallValuesAreWeighted =
    (width : ℕ) (times : ℕ → ℕ → ℕ) (w k : ℕ) (table first last : List ℕ) → IsRing width 1 times → IsSpaceOver width times w k
    → length table ≡ 2 ^ length first → length last ≡ k
    → multilinear_value times (small_values w k table) (first ++ last) ≡ multilinear_value times (value_parts times w k table first) last

-- the mixed sum of the parts is the sum over the corners of the weights times the packed elements
abbrev pub MixedSumsAreParts : Type 0
MixedSumsAreParts =
    (width : ℕ) (times : ℕ → ℕ → ℕ) (w k : ℕ) (table first scalars : List ℕ) → IsRing width 1 times → IsSpaceOver width times w k
    → AreCornerValues width (length first) table → length scalars ≡ 2 ^ k
    → mixed_sum times w scalars (value_parts times w k table first)
    ≡ sum_below (λ v. times (slice_index (mixed_weights times w scalars first) v) (slice_index table v)) (2 ^ length first)

-- Other parts have another mixed sum, or a coordinate of the point of the scalars is the root of a line that is not 0, which the
-- differences of the parts settle before the point is drawn.
abbrev pub FalsePartsNeedRoot : Type 0
FalsePartsNeedRoot =
    (width : ℕ) (times : ℕ → ℕ → ℕ) (w k : ℕ) (sent parts point : List ℕ) (u : ℕ) → IsField width times → IsSpaceOver width times w k
    → AreCornerValues width k sent → AreCornerValues width k parts → length point ≡ k → u < 2 ^ k
    → slice_index sent u ≢ slice_index parts u
    → mixed_sum times w (point_scalars times point) sent ≡ mixed_sum times w (point_scalars times point) parts
    → (j : ℕ) × IsRootAt times (part_rows times w k (zip2 bit_xor sent parts)) point j
