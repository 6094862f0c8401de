-- Multilinear polynomials over a ring whose elements are numbers, given by their values at the corners of the cube {0, 1}^n
-- (C. Lund, L. Fortnow, H. Karloff and N. Nisan, Algebraic methods for interactive proof systems, 1992; J. Thaler, Proofs,
-- Arguments, and Zero-Knowledge, section 3.5). Corner i has bit n - 1 of i as its first coordinate, and bit 0 as its last. A sum is
-- `bit_xor`, and `times` the product.
use Rattle.std.specs.Prelude.{◌≡◌, ℕ, zero, suc, ◌/◌, ◌^◌, ◌<◌, List, [], ◌∷◌, length, take, drop, slice_index, bit_xor}
use Rattle.std.specs.Int.{bit_at}
use Rattle.std.specs.Simd.Lanes.{zip2}
use Rattle.field_base.specs.Basis.{sum_below}
use Rattle.field_base.specs.Ring.{IsRing}

-- x y + (1 + x) (1 + y), which of two bits is 1 where they are equal, and else 0
abbrev pub eq_coordinate : (ℕ → ℕ → ℕ) → ℕ → ℕ → ℕ
eq_coordinate times x y = bit_xor (times x y) (times (bit_xor 1 x) (bit_xor 1 y))

-- eq(point, corner i): the product of those over the coordinates
unfoldable pub eq_corner : (ℕ → ℕ → ℕ) → List ℕ → ℕ → ℕ
eq_corner times [] i = 1
eq_corner times (x ∷ xs) i = times (eq_coordinate times x (bit_at i (length xs))) (eq_corner times xs i)

-- the value at a point of the multilinear polynomial that has value i at corner i: the sum over the corners of that value times
-- eq(point, corner i)
abbrev pub multilinear_value : (ℕ → ℕ → ℕ) → List ℕ → List ℕ → ℕ
multilinear_value times values point = sum_below (λ i. times (slice_index values i) (eq_corner times point i)) (2 ^ length point)

-- the line through v at 0 and w at 1, at r
abbrev pub on_line : (ℕ → ℕ → ℕ) → ℕ → ℕ → ℕ → ℕ
on_line times r v w = bit_xor v (times r (bit_xor v w))

-- the values at the corners that are left where the first coordinate is r
abbrev pub folded : (ℕ → ℕ → ℕ) → ℕ → List ℕ → List ℕ
folded times r values = zip2 (on_line times r) (take (length values / 2) values) (drop (length values / 2) values)

-- the same for the first coordinates one after the other
unfoldable pub folded_all : (ℕ → ℕ → ℕ) → List ℕ → List ℕ → List ℕ
folded_all times [] values = values
folded_all times (r ∷ rs) values = folded_all times rs (folded times r values)

-- corner i of the cube of n coordinates, as a point
unfoldable pub corner : ℕ → ℕ → List ℕ
corner zero i = []
corner (suc n) i = bit_at i n ∷ corner n i

-- values of elements, one for each corner of the cube of n coordinates
pub record AreCornerValues (width n : ℕ) (values : List ℕ) : Type 0 where
  pub count : length values ≡ 2 ^ n
  pub each_fits : (i : ℕ) → slice_index values i < 2 ^ width

-- the value at a point is what folding by each of its coordinates leaves
abbrev pub FoldingEvaluates : Type 0
FoldingEvaluates = (width : ℕ) (times : ℕ → ℕ → ℕ) (point values : List ℕ) → IsRing width 1 times
    → AreCornerValues width (length point) values → folded_all times point values ≡ multilinear_value times values point ∷ []

-- the value with r as the first coordinate is on the line through those with 0 and 1, and that of the folded values at the others
abbrev pub FirstCoordinateIsLinear : Type 0
FirstCoordinateIsLinear = (width : ℕ) (times : ℕ → ℕ → ℕ) (r : ℕ) (point values : List ℕ) → IsRing width 1 times → 0 < width
    → AreCornerValues width (suc (length point)) values
    → (multilinear_value times values (r ∷ point)
    ≡ on_line times r (multilinear_value times values (0 ∷ point)) (multilinear_value times values (1 ∷ point)))
    × (multilinear_value times values (r ∷ point) ≡ multilinear_value times (folded times r values) point)

-- at the corners the polynomial has the values that it is given by
abbrev pub ExtendsCornerValues : Type 0
ExtendsCornerValues = (width : ℕ) (times : ℕ → ℕ → ℕ) (n : ℕ) (values : List ℕ) → IsRing width 1 times → 0 < width
    → AreCornerValues width n values → (i : ℕ) → i < 2 ^ n → multilinear_value times values (corner n i) ≡ slice_index values i
