-- Values of tables by those of their columns, and code words that agree with the columns of extended tables.
use Rattle.std.proofs.Common.{◌≡◌, ℕ, ◌+◌, ◌*◌, ◌^◌, ◌<◌, ◌≤◌, List, [], ◌∷◌, ◌++◌, length, take, drop, refl, sym, ◌∙◌, ap, subst, arith}
use Rattle.std.specs.Prelude.{slice_index}
use Rattle.std.proofs.Math.Nat.{add-mul, mul-le-mul_right}
use Rattle.std.proofs.lemmas.Grind.{same_number_lists}
use Rattle.std.proofs.lemmas.List.{get_or-drop, get_or-take, length-append, length-drop, length-take-le}
use Rattle.std.proofs.lemmas.List.FromFn.{get_or-map-range_with_len, length-map-range_with_len}
use Rattle.std.proofs.lemmas.Nat.{pow-add, pow_pos}
use native.Mathlib.Nat.{one-mul}
use Rattle.field_base.specs.Basis.{sum_below}
use Rattle.field_base.specs.Ring.{IsRing}
use Rattle.field_base.proofs.BasisSums.{sum_below-same}
use Rattle.field_slices.specs.Multilinear.{AreCornerValues, eq_corner, folded, folded_all, multilinear_value}
use Rattle.field_slices.proofs.CubeLaws.{folding-evaluates}
use Rattle.protocols.proofs.CodeColumns.{combinations_are_code_words}
use Rattle.sum_checks.proofs.Rows.{even-length, folded-fit, folded-values, rows-twice}
use Rattle.protocols.proofs.Words.{parts_determine}
use Rattle.transcripts.specs.Commitments.{row_at}
use Rattle.protocols.specs.Interleaved.{combination}
use Rattle.protocols.specs.Tables.{AgreesAt, column_at, column_values, ColumnValuesAgree, ColumnValuesEvaluate, ExtendsTable, FewPlacesAgree}
use Rattle.sum_checks.specs.Terms.{table_value}

-- ---- columns

-- value i of a column
column-value : (height size : ℕ) (matrix : List ℕ) (p i : ℕ) → i < height
    → slice_index (column_at height size matrix p) i ≡ slice_index matrix (i * size + p)
column-value height size matrix p i below = get_or-map-range_with_len (λ (j : ℕ). slice_index matrix (j * size + p)) 0 height i i 0 below (omega arith)

module _ (times : ℕ → ℕ → ℕ) (point : List ℕ) (size : ℕ) (matrix : List ℕ) where
  -- the value of a column at a point
  pub column-table : (p : ℕ) → multilinear_value times (column_at (2 ^ length point) size matrix p) point ≡ table_value times size matrix point p
  column-table p =
      sum_below-same (λ i. times (slice_index (column_at (2 ^ length point) size matrix p) i) (eq_corner times point i))
      (λ i. times (slice_index matrix (i * size + p)) (eq_corner times point i)) (2 ^ length point)
      (λ i below. ap (λ (v : ℕ). times v (eq_corner times point i)) (column-value (2 ^ length point) size matrix p i below))

  pub values-length : length (column_values times point size matrix) ≡ size
  values-length = length-map-range_with_len (λ p. multilinear_value times (column_at (2 ^ length point) size matrix p) point) 0 size

  pub values-at : (p : ℕ) → p < size
      → slice_index (column_values times point size matrix) p ≡ multilinear_value times (column_at (2 ^ length point) size matrix p) point
  values-at p below =
      get_or-map-range_with_len (λ p. multilinear_value times (column_at (2 ^ length point) size matrix p) point) 0 size p p 0 below (omega arith)

-- ---- values by the first coordinates and the others

folded_all-append : (times : ℕ → ℕ → ℕ) (first others values : List ℕ)
    → folded_all times (first ++ others) values ≡ folded_all times others (folded_all times first values)
unfolding folded_all
folded_all-append times [] others values = refl
folded_all-append times (r ∷ first) others values = folded_all-append times first others (folded times r values)

module _ (width : ℕ) (times : ℕ → ℕ → ℕ) (ring : IsRing width 1 times) (wide : 0 < width) (count : ℕ) where
  folded_all-length : (point values : List ℕ) → length values ≡ 2 ^ length point * count → length (folded_all times point values) ≡ count
  unfolding folded_all
  folded_all-length [] values size = size ∙ one-mul count
  folded_all-length (r ∷ rs) values size =
      folded_all-length rs (folded times r values)
      (even-length (2 ^ length rs * count) values (rows-twice count (length rs) values size) times r)

  folded_all-fit : (point values : List ℕ) → length values ≡ 2 ^ length point * count → ((i : ℕ) → slice_index values i < 2 ^ width)
      → (i : ℕ) → slice_index (folded_all times point values) i < 2 ^ width
  unfolding folded_all
  folded_all-fit [] values size fits i = fits i
  folded_all-fit (r ∷ rs) values size fits i =
      folded_all-fit rs (folded times r values)
      (even-length (2 ^ length rs * count) values (rows-twice count (length rs) values size) times r)
      (folded-fit width times ring wide (2 ^ length rs * count) r values (rows-twice count (length rs) values size) fits) i

  folded_all-columns : (point values : List ℕ) → length values ≡ 2 ^ length point * count → ((i : ℕ) → slice_index values i < 2 ^ width)
      → folded_all times point values ≡ column_values times point count values
  folded_all-columns point values size fits =
      same_number_lists (folded_all times point values) (column_values times point count values)
      (long ∙ sym (values-length times point count values))
      (λ j below.
      let inside : j < count = subst (λ (n : ℕ). j < n) long below in
      folded-values width times ring wide count point values size fits j inside
      ∙ sym (values-at times point count values j inside ∙ column-table times point count values j))
    where
      long : length (folded_all times point values) ≡ count
      long = folded_all-length point values size

pub column_values_evaluate : ColumnValuesEvaluate
column_values_evaluate width times first others table ring wide corners =
    let count : ℕ = 2 ^ length others in
    let parts : length table ≡ 2 ^ length first * count =
    corners.count ∙ ap (λ (n : ℕ). 2 ^ n) (length-append first others) ∙ pow-add 2 (length first) (length others) in
    let same = folded_all-columns width times ring wide count first table parts corners.each_fits in
    let below : AreCornerValues width (length others) (column_values times first count table) = record {
      count = values-length times first count table;
      each_fits = λ i.
          subst (λ l. slice_index l i < 2 ^ width) same (folded_all-fit width times ring wide count first table parts corners.each_fits i);
    } in
    ap (λ l. slice_index l 0)
    (sym (folding-evaluates width times ring (first ++ others) table corners)
    ∙ folded_all-append times first others table ∙ ap (folded_all times others) same
    ∙ folding-evaluates width times ring others (column_values times first count table) below)

-- ---- extended tables

-- symbol p of row i
row-value : (size : ℕ) (matrix : List ℕ) (i p : ℕ) → p < size → slice_index (row_at size matrix i) p ≡ slice_index matrix (i * size + p)
row-value size matrix i p below = get_or-take size (drop (i * size) matrix) p 0 below ∙ get_or-drop (i * size) matrix p 0

-- a row of the transpose of a matrix is its column
pub transposed-column : (height size : ℕ) (matrix columns : List ℕ) (p : ℕ) → length columns ≡ size * height → p < size
    → ((j : ℕ) → j < height → slice_index columns (p * height + j) ≡ slice_index matrix (j * size + p))
    → row_at height columns p ≡ column_at height size matrix p
transposed-column height size matrix columns p long below same =
    same_number_lists (row_at height columns p) (column_at height size matrix p)
    (short ∙ sym (length-map-range_with_len (λ (j : ℕ). slice_index matrix (j * size + p)) 0 height))
    (λ j within.
    let inside : j < height = subst (λ (n : ℕ). j < n) short within in
    row-value height columns p j inside ∙ same j inside ∙ sym (column-value height size matrix p j inside))
  where
    short : length (row_at height columns p) ≡ height
    short =
        let more : p + 1 ≤ size = omega (arith, below) in
        let room = mul-le-mul_right height more in
        let next : (p + 1) * height ≡ p * height + height = add-mul p 1 height ∙ ap (λ (n : ℕ). p * height + n) (one-mul height) in
        let left = length-drop (p * height) columns in
        length-take-le height (drop (p * height) columns) (omega (arith, room, next, left, long))

module _ (width : ℕ) (times : ℕ → ℕ → ℕ) (ring : IsRing width 1 times) (point : List ℕ) (size : ℕ) where
  -- the combination of the rows of a matrix by the values of eq
  abbrev joined : List ℕ → List ℕ
  joined matrix = combination times (eq_corner times point) (2 ^ length point) size (row_at size matrix)

  joined-at : (matrix : List ℕ) (p : ℕ) → p < size
      → slice_index (joined matrix) p ≡ multilinear_value times (column_at (2 ^ length point) size matrix p) point
  joined-at matrix p below =
      get_or-map-range_with_len (λ p. sum_below (λ i. times (eq_corner times point i) (slice_index (row_at size matrix i) p)) (2 ^ length point))
      0 size p p 0 below (omega arith)
      ∙ sum_below-same (λ i. times (eq_corner times point i) (slice_index (row_at size matrix i) p))
      (λ i. times (slice_index matrix (i * size + p)) (eq_corner times point i)) (2 ^ length point)
      (λ i inside.
      ap (times (eq_corner times point i)) (row-value size matrix i p below)
      ∙ ring.comm (eq_corner times point i) (slice_index matrix (i * size + p)))
      ∙ sym (column-table times point size matrix p)

module _ (width : ℕ) (times : ℕ → ℕ → ℕ) (vector : ℕ → ℕ) (wide : 0 < width) (ring : IsRing width 1 times) (k r : ℕ) (point table matrix : List ℕ)
    (extends : ExtendsTable width times vector k r (2 ^ length point) table matrix) where
  abbrev size : ℕ
  size = 2 ^ r * 2 ^ k

  room : 2 ^ k ≤ size
  room = let some : 1 ≤ 2 ^ r = pow_pos r in let least = mul-le-mul_right (2 ^ k) some in let one = one-mul (2 ^ k) in omega (arith, least, one)

  abbrev word : List ℕ
  word = joined width times ring point size matrix

  word-length : length word ≡ size
  word-length =
      length-map-range_with_len
      (λ p. sum_below (λ i. times (eq_corner times point i) (slice_index (row_at size matrix i) p)) (2 ^ length point)) 0 size

  -- a value of a column of the table is that of the column of the matrix
  same-value : (p : ℕ) → p < 2 ^ k → (i : ℕ) → i < 2 ^ length point
      → slice_index matrix (i * size + p) ≡ slice_index table (i * 2 ^ k + p)
  same-value p below i inside =
      let within : p < size = omega (arith, below, room) in
      sym (row-value size matrix i p within)
      ∙ sym (get_or-take (2 ^ k) (row_at size matrix i) p 0 below)
      ∙ ap (λ l. slice_index l p) (extends.systematic i inside)
      ∙ row-value (2 ^ k) table i p below

  begins : take (2 ^ k) word ≡ column_values times point (2 ^ k) table
  begins =
      same_number_lists (take (2 ^ k) word) (column_values times point (2 ^ k) table)
      (front ∙ sym (values-length times point (2 ^ k) table))
      (λ p short.
      let below : p < 2 ^ k = subst (λ (n : ℕ). p < n) front short in
      get_or-take (2 ^ k) word p 0 below
      ∙ joined-at width times ring point size matrix p (omega (arith, below, room)) ∙ column-table times point size matrix p
      ∙ sum_below-same (λ i. times (slice_index matrix (i * size + p)) (eq_corner times point i))
      (λ i. times (slice_index table (i * 2 ^ k + p)) (eq_corner times point i)) (2 ^ length point)
      (λ i inside. ap (λ (v : ℕ). times v (eq_corner times point i)) (same-value p below i inside))
      ∙ sym (values-at times point (2 ^ k) table p below ∙ column-table times point (2 ^ k) table p))
    where
      front : length (take (2 ^ k) word) ≡ 2 ^ k
      front = length-take-le (2 ^ k) word (omega (arith, word-length, room))

  values_agree : (places : List ℕ) → ((i : ℕ) → i < length places → slice_index places i < size)
      → AgreesAt width times vector k r point (column_values times point (2 ^ k) table) places
      (λ i. column_at (2 ^ length point) size matrix (slice_index places i))
  values_agree places inside =
      record {
        word = word;
        code_word =
            combinations_are_code_words width times vector wide ring k r (2 ^ length point) (eq_corner times point) (row_at size matrix)
            extends.code_words;
        begins = begins;
        below = inside;
        agrees = λ i below. sym (joined-at width times ring point size matrix (slice_index places i) (inside i below));
      }

pub column_values_agree : ColumnValuesAgree
column_values_agree width times vector wide ring k r point table matrix places extends inside =
    values_agree width times vector wide ring k r point table matrix extends places inside

pub few_places_agree : FewPlacesAgree
few_places_agree width times vector wide field vectors fit k r point table matrix row places few extends distinct enough accepted =
    let honest = values_agree width times vector wide field.ring k r point table matrix extends places accepted.below in
    sym accepted.begins
    ∙ ap (take (2 ^ k))
    (parts_determine width times vector wide field vectors fit k r accepted.word honest.word (slice_index places) few accepted.code_word
    honest.code_word distinct
    (λ i below.
    let within : i < length places = omega (arith, below, enough) in
    sym (accepted.agrees i within) ∙ honest.agrees i within))
    ∙ honest.begins
