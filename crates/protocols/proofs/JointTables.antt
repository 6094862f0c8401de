-- What a row shows that agrees with the columns of several tables, one above the other.
use Rattle.std.proofs.Common.{◌≡◌, ◌⊎◌, inl, inr, ℕ, ◌+◌, ◌*◌, ◌^◌, ◌<◌, ◌≤◌, List, ◌++◌, length, take, sym, ◌∙◌, ap, subst, arith}
use Rattle.std.specs.Prelude.{◌≢◌, bit_xor, slice_index}
use Rattle.std.proofs.lemmas.Bool.{cases_lt}
use Rattle.std.proofs.lemmas.Bool.Decides.{eqb_tells}
use Rattle.std.proofs.lemmas.List.{append_assoc, get_or_past, length-append}
use Rattle.std.proofs.lemmas.List.FromFn.{get_or-map-range_with_len, length-map-range_with_len}
use Rattle.std.proofs.lemmas.Nat.{mul-add-lt, pow-add, pow_pos, xor_lt}
use native.Mathlib.Nat.{mul_assoc, mul_comm}
use lib.Bits.{xor_self}
use Rattle.field_base.specs.Field.{IsField}
use Rattle.field_base.proofs.RingLemmas.{xor_nothing}
use Rattle.field_slices.specs.Multilinear.{eq_corner, multilinear_value}
use Rattle.field_slices.proofs.CornerSums.{weighted-lt}
use Rattle.transcripts.specs.Commitments.{row_at}
use Rattle.sum_checks.specs.ZeroCheck.{IsRootAt, ZeroNeedsRoot}
use Rattle.protocols.specs.CodeWords.{IsCodeWordOf}
use Rattle.protocols.specs.JointTables.{HoldTables, OpenedTablesNeedLuck, ShowsTables, stacked, table_at, value_differences}
use Rattle.protocols.specs.OpenedTables.{CommitsTo, OpenedValuesNeedLuck, ShowsTable}
use Rattle.protocols.proofs.OpenedColumns.{column-long}
use Rattle.protocols.proofs.StackedTables.{each-or, place-parts, row-row, row-value, stacked-at, stacked-fits, value-parts, value-sum, value-same, value_of}

-- ---- parts of the table to which all columns commit

module _ (width : ℕ) (times : ℕ → ℕ → ℕ) (vector : ℕ → ℕ) (k r e height count all : ℕ) (column : ℕ → ℕ → List ℕ) (tables : List ℕ)
    (c : CommitsTo width times vector k r e (all * height) (stacked count height column) tables) (i : ℕ) (one : i < count) (room : count ≤ all) where
  abbrev size : ℕ
  size = 2 ^ r * 2 ^ k

  inside : i < all
  inside = omega (arith, one, room)

  -- a place of the table is one of all
  place-below : (j : ℕ) → j < height → i * height + j < all * height
  place-below j below = subst (λ (m : ℕ). i * height + j < m) (mul_comm height all) (mul-add-lt i height j all inside below)

  symbol-below : (j p : ℕ) → j < height → p < size → j * size + p < height * size
  symbol-below j p below within = subst (λ (m : ℕ). j * size + p < m) (mul_comm size height) (mul-add-lt j size p height below within)

  long : {X : Type 0} (n : ℕ) (rows : List X) → length rows ≡ all * height * n → length rows ≡ all * (height * n)
  long n rows is = is ∙ mul_assoc all height n

  part-fits : (rows : List ℕ) (n j : ℕ) → length (row_at n rows i) ≡ n → ((x : ℕ) → slice_index rows x < 2 ^ width)
      → slice_index (row_at n rows i) j < 2 ^ width
  part-fits rows n j short fits = pick (cases_lt j n)
    where
      pick : (j < n) ⊎ (n ≤ j) → slice_index (row_at n rows i) j < 2 ^ width
      pick (inl below) = subst (λ (v : ℕ). v < 2 ^ width) (sym (row-value n rows i j below)) (fits (i * n + j))
      pick (inr past) =
          subst (λ (v : ℕ). v < 2 ^ width) (sym (get_or_past (row_at n rows i) j 0 (omega (arith, short, past)))) (pow_pos width)

  pub part-commits : CommitsTo width times vector k r e height (column i) (row_at (height * 2 ^ k) tables i)
  part-commits = record {
    size = part-long (2 ^ k) tables c.size;
    fits = λ j. part-fits tables (height * 2 ^ k) j (part-long (2 ^ k) tables c.size) c.fits;
    matrix = row_at (height * size) c.matrix i;
    extends = record {
      size = part-long size c.matrix c.extends.size;
      code_words = λ j below.
          subst (IsCodeWordOf width times vector k r) (sym (row-row size height c.matrix i j below))
          (c.extends.code_words (i * height + j) (place-below j below));
      systematic = λ j below.
          ap (take (2 ^ k)) (row-row size height c.matrix i j below) ∙ c.extends.systematic (i * height + j) (place-below j below)
          ∙ sym (row-row (2 ^ k) height tables i j below);
    };
    marked = c.marked;
    few = c.few;
    same = λ j p below within unmarked.
        sym (stacked-at count height column p i j one below) ∙ c.same (i * height + j) p (place-below j below) within unmarked
        ∙ ap (slice_index c.matrix) (row-place j p)
        ∙ sym (row-value (height * size) c.matrix i (j * size + p) (symbol-below j p below within));
  }
    where
      part-long : (n : ℕ) (rows : List ℕ) → length rows ≡ all * height * n → length (row_at (height * n) rows i) ≡ height * n
      part-long n rows is = column-long all (height * n) rows i (long n rows is) inside

      row-place : (j p : ℕ) → (i * height + j) * size + p ≡ i * (height * size) + (j * size + p)
      row-place j p = place-parts i height j size p

-- ---- values

-- values of which the combination is that of others are the others, or a challenge is lucky
told : (width : ℕ) (times : ℕ → ℕ → ℕ) → IsField width times → 0 < width → ZeroNeedsRoot → (challenges values tables point : List ℕ)
    → ((i : ℕ) → slice_index values i < 2 ^ width) → (count : ℕ) → count ≤ 2 ^ length challenges
    → multilinear_value times values challenges
    ≡ value_of times (λ i. multilinear_value times (table_at (length point) tables i) point) challenges
    → ((i : ℕ) → i < count → slice_index values i ≡ multilinear_value times (table_at (length point) tables i) point)
    ⊎ ((j : ℕ) × IsRootAt times (value_differences times (length challenges) values tables point) challenges j)
told width times field wide root challenges values tables point fits count room same = pick (each-equal count)
  where
    true_value : ℕ → ℕ
    true_value i = multilinear_value times (table_at (length point) tables i) point

    difference : ℕ → ℕ
    difference i = bit_xor (slice_index values i) (true_value i)

    true-fits : (i : ℕ) → true_value i < 2 ^ width
    true-fits i = weighted-lt width times field.ring (slice_index (table_at (length point) tables i)) (eq_corner times point) (2 ^ length point)

    differences : List ℕ
    differences = value_differences times (length challenges) values tables point

    long : length differences ≡ 2 ^ length challenges
    long = length-map-range_with_len difference 0 (2 ^ length challenges)

    at : (i : ℕ) → i < 2 ^ length challenges → slice_index differences i ≡ difference i
    at i below = get_or-map-range_with_len difference 0 (2 ^ length challenges) i i 0 below (omega arith)

    differences-fit : (i : ℕ) → (i < 2 ^ length challenges) ⊎ (2 ^ length challenges ≤ i) → slice_index differences i < 2 ^ width
    differences-fit i (inl below) =
        subst (λ (v : ℕ). v < 2 ^ width) (sym (at i below)) (xor_lt width (slice_index values i) (true_value i) (fits i) (true-fits i))
    differences-fit i (inr past) =
        subst (λ (v : ℕ). v < 2 ^ width) (sym (get_or_past differences i 0 (omega (arith, long, past)))) (pow_pos width)

    none : multilinear_value times differences challenges ≡ 0
    none =
        value-same times (slice_index differences) difference challenges at
        ∙ value-sum width times field.ring (slice_index values) true_value challenges
        ∙ ap (λ (v : ℕ). bit_xor v (value_of times true_value challenges)) same
        ∙ xor_self (value_of times true_value challenges)

    each-equal : (n : ℕ) → ((i : ℕ) → i < n → slice_index values i ≡ true_value i) ⊎ ((i : ℕ) × (i < n) × (slice_index values i ≢ true_value i))
    each-equal n = each-or (λ i. slice_index values i ≡ true_value i) (λ i. slice_index values i ≢ true_value i) n
        (λ i below. elim (eqb_tells (slice_index values i) (true_value i)) [
          | inl equal ↦ inl equal.1
          | inr differ ↦ inr differ.1
        ])

    pick : ((i : ℕ) → i < count → slice_index values i ≡ true_value i) ⊎ ((i : ℕ) × (i < count) × (slice_index values i ≢ true_value i))
        → ((i : ℕ) → i < count → slice_index values i ≡ true_value i) ⊎ ((j : ℕ) × IsRootAt times differences challenges j)
    pick (inl equal) = inl equal
    pick (inr found) =
        let below : found.0 < 2 ^ length challenges = omega (arith, found.1, room) in
        inr
        (root width times differences challenges found.0 field wide
        record { count = long; each_fits = λ i. differences-fit i (cases_lt i (2 ^ length challenges)) } below
        (λ zero. found.2 (xor_nothing (slice_index values found.0) (true_value found.0) (sym (at found.0 below) ∙ zero))) none)

-- ---- what a row shows

pub opened_tables_need_luck : OpenedValuesNeedLuck → ZeroNeedsRoot → OpenedTablesNeedLuck
opened_tables_need_luck luck root width times vector wide field vectors fit k r e count column challenges values point others row places few radius
    long room fits columns_fit accepted evaluates =
    turned
    (luck width times vector wide field vectors fit k r e (stacked count (2 ^ length point) column) (challenges ++ point) others row places few
    radius long
    (λ p i inside.
    stacked-fits width count (2 ^ length point) column p (λ t j below. columns_fit t below p j inside) i) accepted)
  where
    corners : 2 ^ length (point ++ others) ≡ 2 ^ length point * 2 ^ k
    corners = ap (λ (m : ℕ). 2 ^ m) (length-append point others ∙ ap (λ (m : ℕ). length point + m) long) ∙ pow-add 2 (length point) k

    cube : 2 ^ length (challenges ++ point) ≡ 2 ^ length challenges * 2 ^ length point
    cube = ap (λ (m : ℕ). 2 ^ m) (length-append challenges point) ∙ pow-add 2 (length challenges) (length point)

    holds : (tables : List ℕ)
        → CommitsTo width times vector k r e (2 ^ length (challenges ++ point)) (stacked count (2 ^ length point) column) tables
        → multilinear_value times row others ≡ multilinear_value times tables ((challenges ++ point) ++ others)
        → HoldTables width times vector k r e (2 ^ length point) count column challenges values (point ++ others) tables
    holds tables commits has = record {
      commits = λ i below.
          subst (λ (n : ℕ). CommitsTo width times vector k r e (2 ^ length point) (column i) (row_at n tables i)) (sym corners)
          (part-commits width times vector k r e (2 ^ length point) count (2 ^ length challenges) column tables
          (subst (λ (n : ℕ). CommitsTo width times vector k r e n (stacked count (2 ^ length point) column) tables) cube commits) i below room);
      evaluates =
          told width times field wide root challenges values tables (point ++ others) fits count room
          (evaluates ∙ has ∙ ap (multilinear_value times tables) (append_assoc challenges point others)
          ∙ value-parts width times field.ring (slice_index tables) challenges (point ++ others)
          ∙ value-same times (λ i. value_of times (λ j. slice_index tables (i * 2 ^ length (point ++ others) + j)) (point ++ others))
          (λ i. multilinear_value times (table_at (length (point ++ others)) tables i) (point ++ others)) challenges
          (λ i below.
          value-same times (λ j. slice_index tables (i * 2 ^ length (point ++ others) + j)) (slice_index (table_at (length (point ++ others)) tables i))
          (point ++ others) (λ j inside. sym (row-value (2 ^ length (point ++ others)) tables i j inside))));
    }

    turned : ShowsTable width times vector k r e (stacked count (2 ^ length point) column) (challenges ++ point) row places
        (λ table. multilinear_value times row others ≡ multilinear_value times table ((challenges ++ point) ++ others))
        → ShowsTables width times vector k r e count column challenges values point others row places
    turned (inr lucky) = inr lucky
    turned (inl shown) = inl (shown.0, shown.1, holds shown.0 shown.1 shown.2)
