-- Rows that agree with columns that commit to a table, by what a point folds near matrices to.
use Rattle.std.proofs.Common.{◌≡◌, ◌⊎◌, inl, inr, ℕ, ◌+◌, ◌-◌, ◌*◌, ◌/◌, ◌%◌, ◌^◌, ◌<◌, ◌≤◌, false, List, [], ◌∷◌, ◌++◌, length, map, take, drop, refl, sym, ◌∙◌, ap, ap₂, subst, le_trans, arith, lit<}
use Rattle.std.specs.Prelude.{bit_xor, nat_eq, not, slice_index}
use Rattle.std.specs.List.{range_with_len}
use Rattle.std.proofs.Math.Nat.{add-mul, mod-lt, mul-le-mul_right, mul_comm, pow-le-pow_right, two-pow-succ}
use Rattle.std.proofs.lemmas.Bool.{cases_lt}
use Rattle.std.proofs.lemmas.Bool.Decides.{eqb_tells}
use Rattle.std.proofs.lemmas.Grind.{same_number_lists}
use Rattle.std.proofs.lemmas.List.{get_or-drop, get_or-take, get_or_past, length-append, length-drop, length-take-le}
use Rattle.std.proofs.lemmas.List.FromFn.{get_or-map-range_with_len, length-map-range_with_len}
use Rattle.std.proofs.lemmas.Nat.{div-add-mod', div-mul-add, div_below, mul-add-lt, pow-add, pow_pos, xor_comm, xor_lt}
use native.Mathlib.Nat.{one-mul}
use lib.Bits.{xor_zero_r}
use Rattle.field_base.specs.Basis.{sum_below}
use Rattle.field_base.specs.Field.{IsField}
use Rattle.field_base.specs.Orders.{AreCantorVectors}
use Rattle.field_base.specs.Ring.{IsRing}
use Rattle.field_base.proofs.BasisSums.{sum_below-same}
use Rattle.field_base.proofs.PowerLemmas.{times-one}
use Rattle.field_slices.specs.Multilinear.{eq_corner, multilinear_value}
use Rattle.field_slices.proofs.CornerSums.{corners-line, weighted-line}
use Rattle.protocols.specs.CodeDistances.{point_generator}
use Rattle.protocols.proofs.CodeDistances.{code_words_have_distance, encoded-value}
use Rattle.field_slices.specs.Codes.{HasDistance, IsNear, IsWordOf}
use Rattle.field_slices.specs.Folds.{fold_rows, rows_folded}
use Rattle.field_slices.specs.Marks.{marked_below}
use Rattle.field_slices.specs.Openings.{IsOpened, misses}
use Rattle.field_slices.proofs.Openings.{near_is_unique, openings_need_luck}
use Rattle.field_slices.proofs.Words.{word-fits}
use Rattle.transcripts.specs.Commitments.{row_at}
use Rattle.protocols.specs.CodeWords.{IsCodeWordOf}
use Rattle.protocols.specs.OpenedTables.{AreColumnsOf, CommitsTo, HasLuckyCoordinate, OpenedRowsNeedLuck, OpenedValuesNeedLuck, ShowsTable, TableIsOne, column_symbol}
use Rattle.protocols.specs.Tables.{AgreesAt, column_at, column_values}
use Rattle.protocols.proofs.TableLaws.{column_values_evaluate}

-- ---- values at a point

module _ (width : ℕ) (times : ℕ → ℕ → ℕ) (ring : IsRing width 1 times) where
  -- the value at a point of the corner values in a column is what the point folds the rows to there
  value-folded : (point : List ℕ) (f : ℕ → ℕ → ℕ) (p : ℕ) → ((i : ℕ) → i < 2 ^ length point → f i p < 2 ^ width)
      → sum_below (λ i. times (f i p) (eq_corner times point i)) (2 ^ length point) ≡ rows_folded times (length point) point f 0 p
  unfolding sum_below eq_corner rows_folded
  value-folded [] f p fits =
      xor_comm 0 (times (f 0 p) 1) ∙ xor_zero_r (times (f 0 p) 1) ∙ times-one width 1 times ring (f 0 p) (fits 0 (omega arith))
  value-folded (r ∷ rs) f p fits =
      corners-line width times ring (λ i. f i p) r rs
      ∙ sym (weighted-line width times ring r (λ i. f i p) (λ i. f (2 ^ length rs + i) p) (eq_corner times rs) (2 ^ length rs))
      ∙ value-folded rs (fold_rows times (2 ^ length rs) r f) p
      (λ i below.
      let twice = two-pow-succ (length rs) in
      xor_lt width (f i p) (times r (bit_xor (f i p) (f (2 ^ length rs + i) p))) (fits i (omega (arith, below, twice)))
      (ring.below r (bit_xor (f i p) (f (2 ^ length rs + i) p))))

-- ---- matrices as lists

module _ (height size : ℕ) (M : ℕ → ℕ → ℕ) where
  abbrev listed : List ℕ
  listed = map (λ t. M (t / size) (t % size)) (range_with_len 0 (height * size))

  listed-length : length listed ≡ height * size
  listed-length = length-map-range_with_len (λ t. M (t / size) (t % size)) 0 (height * size)

  place-lt : (i p : ℕ) → i < height → p < size → i * size + p < height * size
  place-lt i p below inside = subst (λ (m : ℕ). i * size + p < m) (mul_comm size height) (mul-add-lt i size p height below inside)

  listed-at : (i p : ℕ) → i < height → p < size → slice_index listed (i * size + p) ≡ M i p
  listed-at i p below inside =
      let quotient : (i * size + p) / size ≡ i = div-mul-add i size p inside in
      let whole = div-add-mod' (i * size + p) size in
      let product : (i * size + p) / size * size ≡ i * size = ap (λ (q : ℕ). q * size) quotient in
      let remainder : (i * size + p) % size ≡ p = omega (arith, whole, product) in
      get_or-map-range_with_len (λ t. M (t / size) (t % size)) 0 (height * size) (i * size + p) (i * size + p) 0 (place-lt i p below inside)
      (omega arith)
      ∙ ap₂ M quotient remainder

  row-length : (i : ℕ) → i < height → length (row_at size listed i) ≡ size
  row-length i below =
      let more : i + 1 ≤ height = omega (arith, below) in
      let room = mul-le-mul_right size more in
      let next : (i + 1) * size ≡ i * size + size = add-mul i 1 size ∙ ap (λ (m : ℕ). i * size + m) (one-mul size) in
      let left = length-drop (i * size) listed in
      let long = listed-length in
      length-take-le size (drop (i * size) listed) (omega (arith, room, next, left, long))

  row-at : (i p : ℕ) → i < height → p < size → slice_index (row_at size listed i) p ≡ M i p
  row-at i p below inside =
      get_or-take size (drop (i * size) listed) p 0 inside ∙ get_or-drop (i * size) listed p 0 ∙ listed-at i p below inside

-- ---- tables

module _ (width : ℕ) (times : ℕ → ℕ → ℕ) (vector : ℕ → ℕ) (wide : 0 < width) (field : IsField width times) (k r e : ℕ)
    (column : ℕ → List ℕ) (h : ℕ) (some : 2 ^ k ≤ 2 ^ r * 2 ^ k)
    (near : IsNear times (2 ^ k) (2 ^ r * 2 ^ k) (point_generator width times vector k) e (2 ^ h) (column_symbol column)) where
  abbrev pub table : List ℕ
  table = listed (2 ^ h) (2 ^ k) near.matrix

  abbrev matrix : List ℕ
  matrix = listed (2 ^ h) (2 ^ r * 2 ^ k) near.matrix

  row-word : (i : ℕ) → i < 2 ^ h → IsCodeWordOf width times vector k r (row_at (2 ^ r * 2 ^ k) matrix i)
  row-word i below =
      let word = near.rows i below in
      let held : List ℕ = map word.message (range_with_len 0 (2 ^ k)) in
      record {
        size = row-length (2 ^ h) (2 ^ r * 2 ^ k) near.matrix i below;
        coefficients = held;
        count = length-map-range_with_len word.message 0 (2 ^ k);
        values = λ p inside.
            row-at (2 ^ h) (2 ^ r * 2 ^ k) near.matrix i p below inside ∙ word.is p inside
            ∙ sum_below-same (λ j. times (word.message j) (point_generator width times vector k j p))
            (λ j. times (slice_index held j) (point_generator width times vector k j p)) (2 ^ k)
            (λ j within. ap (λ (c : ℕ). times c (point_generator width times vector k j p))
            (sym (get_or-map-range_with_len word.message 0 (2 ^ k) j j 0 within (omega arith))))
            ∙ encoded-value width times vector k (slice_index held) p;
      }

  systematic : (i : ℕ) → i < 2 ^ h → take (2 ^ k) (row_at (2 ^ r * 2 ^ k) matrix i) ≡ row_at (2 ^ k) table i
  systematic i below =
      same_number_lists (take (2 ^ k) (row_at (2 ^ r * 2 ^ k) matrix i)) (row_at (2 ^ k) table i)
      (front ∙ sym (row-length (2 ^ h) (2 ^ k) near.matrix i below))
      (λ p within.
      let inside : p < 2 ^ k = subst (λ (m : ℕ). p < m) front within in
      get_or-take (2 ^ k) (row_at (2 ^ r * 2 ^ k) matrix i) p 0 inside
      ∙ row-at (2 ^ h) (2 ^ r * 2 ^ k) near.matrix i p below (le_trans inside some)
      ∙ sym (row-at (2 ^ h) (2 ^ k) near.matrix i p below inside))
    where
      front : length (take (2 ^ k) (row_at (2 ^ r * 2 ^ k) matrix i)) ≡ 2 ^ k
      front =
          let long = row-length (2 ^ h) (2 ^ r * 2 ^ k) near.matrix i below in
          length-take-le (2 ^ k) (row_at (2 ^ r * 2 ^ k) matrix i) (subst (λ (m : ℕ). 2 ^ k ≤ m) (sym long) some)

  -- a value of the table is an element
  table-fits : (t : ℕ) → slice_index table t < 2 ^ width
  table-fits t = pick (cases_lt t (2 ^ h * 2 ^ k))
    where
      pick : (t < 2 ^ h * 2 ^ k) ⊎ (2 ^ h * 2 ^ k ≤ t) → slice_index table t < 2 ^ width
      pick (inl below) =
          let some_k = pow_pos k in
          let row : t / 2 ^ k < 2 ^ h = div_below t (2 ^ k) (2 ^ h) some_k below in
          let place : t % 2 ^ k < 2 ^ k = mod-lt t some_k in
          subst (λ (v : ℕ). v < 2 ^ width)
          (sym (get_or-map-range_with_len (λ t. near.matrix (t / 2 ^ k) (t % 2 ^ k)) 0 (2 ^ h * 2 ^ k) t t 0 below (omega arith)))
          (word-fits width times wide field.ring (2 ^ k) (2 ^ r * 2 ^ k) (point_generator width times vector k) (near.matrix (t / 2 ^ k))
          (near.rows (t / 2 ^ k) row) (t % 2 ^ k) (le_trans place some))
      pick (inr past) =
          let long = listed-length (2 ^ h) (2 ^ k) near.matrix in
          subst (λ (v : ℕ). v < 2 ^ width) (sym (get_or_past table t 0 (omega (arith, long, past)))) (pow_pos width)

  pub commits : CommitsTo width times vector k r e (2 ^ h) column table
  commits = record {
    size = listed-length (2 ^ h) (2 ^ k) near.matrix;
    fits = table-fits;
    matrix = matrix;
    extends = record {
      size = listed-length (2 ^ h) (2 ^ r * 2 ^ k) near.matrix;
      code_words = row-word;
      systematic = systematic;
    };
    marked = near.marked;
    few = near.few;
    same = λ i p below inside unmarked.
        near.same i below p inside unmarked ∙ sym (listed-at (2 ^ h) (2 ^ r * 2 ^ k) near.matrix i p below inside);
  }

  module _ (point : List ℕ) (long : length point ≡ h) where
    inside-all : (i : ℕ) → i < 2 ^ length point → i < 2 ^ h
    inside-all i below = subst (λ (m : ℕ). i < 2 ^ m) long below

    -- the values of the table's columns are what the point folds the near matrix to
    values : (p : ℕ) → p < 2 ^ k
        → multilinear_value times (column_at (2 ^ length point) (2 ^ k) table p) point ≡ rows_folded times (length point) point near.matrix 0 p
    values p inside =
        sum_below-same (λ i. times (slice_index (column_at (2 ^ length point) (2 ^ k) table p) i) (eq_corner times point i))
        (λ i. times (near.matrix i p) (eq_corner times point i)) (2 ^ length point)
        (λ i below. ap (λ (v : ℕ). times v (eq_corner times point i))
        (get_or-map-range_with_len (λ (j : ℕ). slice_index table (j * 2 ^ k + p)) 0 (2 ^ length point) i i 0 below (omega arith)
        ∙ listed-at (2 ^ h) (2 ^ k) near.matrix i p (inside-all i below) inside))
        ∙ value-folded width times field.ring point near.matrix p
        (λ i below.
        word-fits width times wide field.ring (2 ^ k) (2 ^ r * 2 ^ k) (point_generator width times vector k) (near.matrix i)
        (near.rows i (inside-all i below)) p (le_trans inside some))

    pub row-values : (word row : List ℕ) → length word ≡ 2 ^ r * 2 ^ k → take (2 ^ k) word ≡ row
        → ((p : ℕ) → p < 2 ^ r * 2 ^ k → slice_index word p ≡ rows_folded times (length point) point near.matrix 0 p)
        → row ≡ column_values times point (2 ^ k) table
    row-values word row size begins folds =
        sym begins
        ∙ same_number_lists (take (2 ^ k) word) (column_values times point (2 ^ k) table)
        (front ∙ sym (length-map-range_with_len (λ p. multilinear_value times (column_at (2 ^ length point) (2 ^ k) table p) point) 0 (2 ^ k)))
        (λ p within.
        let inside : p < 2 ^ k = subst (λ (m : ℕ). p < m) front within in
        get_or-take (2 ^ k) word p 0 inside ∙ folds p (le_trans inside some) ∙ sym (values p inside)
        ∙ sym (get_or-map-range_with_len (λ p. multilinear_value times (column_at (2 ^ length point) (2 ^ k) table p) point) 0 (2 ^ k) p p 0 inside
        (omega arith)))
      where
        front : length (take (2 ^ k) word) ≡ 2 ^ k
        front = length-take-le (2 ^ k) word (subst (λ (m : ℕ). 2 ^ k ≤ m) (sym size) some)

equal-missed : (a b : ℕ) → a ≡ b → not (nat_eq a b) ≡ false
equal-missed a b same = elim (eqb_tells a b) [
  | inl equal ↦ ap not equal.0
  | inr other ↦ absurd (other.1 same)
]

-- the distance of the code at 2 ^ (r + k) places
pub code-distance : (width : ℕ) (times : ℕ → ℕ → ℕ) (vector : ℕ → ℕ) → 0 < width → IsField width times → AreCantorVectors width times vector
    → ((b : ℕ) → b < width → vector b < 2 ^ width) → (k r : ℕ) → r + k ≤ width → 2 ^ k ≤ 2 ^ r * 2 ^ k
    → HasDistance times (2 ^ k) (2 ^ r * 2 ^ k) (point_generator width times vector k) (2 ^ r * 2 ^ k + 1 - 2 ^ k)
code-distance width times vector wide field vectors fit k r few some =
    code_words_have_distance width times vector wide field vectors fit k (2 ^ r * 2 ^ k) (2 ^ r * 2 ^ k + 1 - 2 ^ k)
    (subst (λ (m : ℕ). m ≤ 2 ^ width) (pow-add 2 r k) (pow-le-pow_right (lit< tt) few)) (omega (arith, some))

-- a row that agrees with columns: its code word is one of the generator's, and misses nothing at the places
module _ (width : ℕ) (times : ℕ → ℕ → ℕ) (vector : ℕ → ℕ) (field : IsField width times) (k r : ℕ) (column : ℕ → List ℕ)
    (point row places : List ℕ) (fits : AreColumnsOf width (2 ^ r * 2 ^ k) column)
    (accepted : AgreesAt width times vector k r point row places (λ i. column (slice_index places i))) where
  pub agreed-unmissed : (i : ℕ) → i < length places
      → misses times (length point) (column_symbol column) point (slice_index accepted.word) (slice_index places i) ≡ false
  agreed-unmissed i below =
      equal-missed (slice_index accepted.word (slice_index places i))
      (rows_folded times (length point) point (column_symbol column) 0 (slice_index places i))
      (sym (accepted.agrees i below)
      ∙ value-folded width times field.ring point (column_symbol column) (slice_index places i)
      (λ j inside. fits (slice_index places i) j (accepted.below i below)))

pub code-word-of : (width : ℕ) (times : ℕ → ℕ → ℕ) (vector : ℕ → ℕ) (k r : ℕ) (word : List ℕ) → IsCodeWordOf width times vector k r word
    → IsWordOf times (2 ^ k) (2 ^ r * 2 ^ k) (point_generator width times vector k) (slice_index word)
code-word-of width times vector k r word is = record {
  message = slice_index is.coefficients;
  is = λ p below. is.values p below ∙ sym (encoded-value width times vector k (slice_index is.coefficients) p);
}

pub opened_rows_need_luck : OpenedRowsNeedLuck
opened_rows_need_luck width times vector wide field vectors fit k r e column point row places few radius fits accepted =
    cases (openings_need_luck width times (2 ^ k) (2 ^ r * 2 ^ k) (2 ^ r * 2 ^ k + 1 - 2 ^ k) (point_generator width times vector k) wide field
    (code-distance width times vector wide field vectors fit k r few some) e (length point) (column_symbol column) point (slice_index accepted.word) (omega (arith, radius)) (λ i p below inside. fits p i inside) refl
    (code-word-of width times vector k r accepted.word accepted.code_word))
  where
    some : 2 ^ k ≤ 2 ^ r * 2 ^ k
    some = omega (arith, radius)

    cases : IsOpened times (2 ^ k) (2 ^ r * 2 ^ k) (point_generator width times vector k) e (length point) (column_symbol column) point
        (slice_index accepted.word)
        ⊎ HasLuckyCoordinate width times vector k r e column point
        ⊎ (e < marked_below (misses times (length point) (column_symbol column) point (slice_index accepted.word)) (2 ^ r * 2 ^ k))
        → ShowsTable width times vector k r e column point row places (λ t. row ≡ column_values times point (2 ^ k) t)
    cases (inl opened) =
        inl (
          table width times vector wide field k r e column (length point) some opened.near,
          commits width times vector wide field k r e column (length point) some opened.near,
          row-values width times vector wide field k r e column (length point) some opened.near point refl accepted.word row
              accepted.code_word.size accepted.begins opened.folds,
        )
    cases (inr (inl lucky)) = inr (inl lucky)
    cases (inr (inr many)) =
        inr (inr (record {
          word = accepted.word;
          code_word = accepted.code_word;
          begins = accepted.begins;
          many = many;
          missed = agreed-unmissed width times vector field k r column point row places fits accepted;
        }))

-- ---- values

-- a row that has the values of a table's columns has its value at the whole point
pub row-value : (width : ℕ) (times : ℕ → ℕ → ℕ) (vector : ℕ → ℕ) → 0 < width → IsField width times → (k r e : ℕ) (column : ℕ → List ℕ)
    (point others row table : List ℕ) → length others ≡ k → CommitsTo width times vector k r e (2 ^ length point) column table
    → row ≡ column_values times point (2 ^ k) table → multilinear_value times row others ≡ multilinear_value times table (point ++ others)
row-value width times vector wide field k r e column point others row table long commits has =
    ap (λ l. multilinear_value times l others) (has ∙ ap (λ (m : ℕ). column_values times point (2 ^ m) table) (sym long))
    ∙ sym (column_values_evaluate width times point others table field.ring wide (record { count = size; each_fits = commits.fits }))
  where
    size : length table ≡ 2 ^ length (point ++ others)
    size =
        commits.size ∙ sym (ap (λ (m : ℕ). 2 ^ m) (length-append point others ∙ ap (λ (m : ℕ). length point + m) long) ∙ pow-add 2 (length point) k)

pub opened_values_need_luck : OpenedValuesNeedLuck
opened_values_need_luck width times vector wide field vectors fit k r e column point others row places few radius long fits accepted =
    cases (opened_rows_need_luck width times vector wide field vectors fit k r e column point row places few radius fits accepted)
  where
    cases : ShowsTable width times vector k r e column point row places (λ t. row ≡ column_values times point (2 ^ k) t)
        → ShowsTable width times vector k r e column point row places
        (λ t. multilinear_value times row others ≡ multilinear_value times t (point ++ others))
    cases (inr luck) = inr luck
    cases (inl opened) =
        inl (
          opened.0,
          opened.1,
          row-value width times vector wide field k r e column point others row opened.0 long opened.1 opened.2,
        )

-- ---- one table

pub table_is_one : TableIsOne
table_is_one width times vector wide field vectors fit k r e height column one other few radius a b =
    same_number_lists one other (a.size ∙ sym b.size) (λ t within. at t (subst (λ (m : ℕ). t < m) a.size within))
  where
    some : 2 ^ k ≤ 2 ^ r * 2 ^ k
    some = omega (arith, radius)

    near : (table : List ℕ) (c : CommitsTo width times vector k r e height column table)
        → IsNear times (2 ^ k) (2 ^ r * 2 ^ k) (point_generator width times vector k) e height (column_symbol column)
    near table c = record {
      matrix = λ i p. slice_index c.matrix (i * (2 ^ r * 2 ^ k) + p);
      rows = λ i below. record {
        message = slice_index (c.extends.code_words i below).coefficients;
        is = λ p inside.
            sym (get_or-take (2 ^ r * 2 ^ k) (drop (i * (2 ^ r * 2 ^ k)) c.matrix) p 0 inside ∙ get_or-drop (i * (2 ^ r * 2 ^ k)) c.matrix p 0)
            ∙ (c.extends.code_words i below).values p inside
            ∙ sym (encoded-value width times vector k (slice_index (c.extends.code_words i below).coefficients) p);
      };
      marked = c.marked;
      few = c.few;
      same = λ i below p inside unmarked. c.same i p below inside unmarked;
    }

    -- a value of a table is one of its matrix
    value : (table : List ℕ) (c : CommitsTo width times vector k r e height column table) (i p : ℕ) → i < height → p < 2 ^ k
        → slice_index table (i * 2 ^ k + p) ≡ slice_index c.matrix (i * (2 ^ r * 2 ^ k) + p)
    value table c i p below inside =
        sym (get_or-take (2 ^ k) (drop (i * 2 ^ k) table) p 0 inside ∙ get_or-drop (i * 2 ^ k) table p 0)
        ∙ sym (ap (λ l. slice_index l p) (c.extends.systematic i below))
        ∙ get_or-take (2 ^ k) (row_at (2 ^ r * 2 ^ k) c.matrix i) p 0 inside
        ∙ get_or-take (2 ^ r * 2 ^ k) (drop (i * (2 ^ r * 2 ^ k)) c.matrix) p 0 (le_trans inside some)
        ∙ get_or-drop (i * (2 ^ r * 2 ^ k)) c.matrix p 0

    at : (t : ℕ) → t < height * 2 ^ k → slice_index one t ≡ slice_index other t
    at t within =
        let some_k = pow_pos k in
        let row : t / 2 ^ k < height = div_below t (2 ^ k) height some_k within in
        let place : t % 2 ^ k < 2 ^ k = mod-lt t some_k in
        let whole : t ≡ t / 2 ^ k * 2 ^ k + t % 2 ^ k = sym (div-add-mod' t (2 ^ k)) in
        ap (slice_index one) whole ∙ value one a (t / 2 ^ k) (t % 2 ^ k) row place
        ∙ near_is_unique times (2 ^ k) (2 ^ r * 2 ^ k) (2 ^ r * 2 ^ k + 1 - 2 ^ k) (point_generator width times vector k)
        (code-distance width times vector wide field vectors fit k r few some) e height (column_symbol column) (omega (arith, radius)) (near one a) (near other b) (t / 2 ^ k) row (t % 2 ^ k) (le_trans place some)
        ∙ sym (value other b (t / 2 ^ k) (t % 2 ^ k) row place) ∙ sym (ap (slice_index other) whole)
