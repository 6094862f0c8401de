-- Places of the entries of a matrix, and loops that write one row, or one row after the other.
use Rattle.std.proofs.Common.{◌≡◌, ◌≢◌, ◌⊎◌, inl, inr, ℕ, ◌+◌, ◌-◌, ◌*◌, ◌^◌, ◌<◌, ◌≤◌, Bool, List, ◌++◌, length, map, suc, refl, sym, ◌∙◌, ap, ap₂, subst, arith, below_more}
use Rattle.std.specs.Prelude.{bit_xor, if◌then◌else◌, nat_lt, slice_index}
use Rattle.std.proofs.Math.Nat.{mul-le-mul_right}
use Rattle.std.proofs.lemmas.Bool.{cases_lt, cases_order, lt-ltb, le-ltb}
use Rattle.std.proofs.lemmas.List.{get_or-append-add, get_or_append_left, get_or_past, length-append, length-map, map-append}
use Rattle.std.proofs.lemmas.Nat.{mul-add-lt}
use Rattle.field_base.proofs.Places.{numbers-lt}
use Rattle.field_slices.specs.Matrices.{AreScaledSums, HasMatrixRow, IsEntryWritten, IsRowWritten, entry_of, put_entry}

-- ---- places

-- an entry of an earlier row does not stand where one of a later row does
earlier-elsewhere : (columns i j row column : ℕ) → j < columns → i < row → i * columns + j ≡ row * columns + column → ⊥
earlier-elsewhere columns i j row column inside below e =
    let earlier = mul-add-lt i columns j row below inside in omega (arith, earlier, e)

-- entries at one place are of one row
same_row : (columns i j row column : ℕ) → j < columns → column < columns → i * columns + j ≡ row * columns + column → i ≡ row
same_row columns i j row column inside within e =
    elim (cases_order i row) [
      | inl same ↦ same
      | inr order ↦ elim order [
        | inl below ↦ absurd (earlier-elsewhere columns i j row column inside below e)
        | inr above ↦ absurd (earlier-elsewhere columns row column i j within above (sym e))
      ]
    ]

-- and of one column
same_column : (columns i j row column : ℕ) → j < columns → column < columns → i * columns + j ≡ row * columns + column → j ≡ column
same_column columns i j row column inside within e =
    let rows = ap (λ (n : ℕ). n * columns) (same_row columns i j row column inside within e) in omega (arith, e, rows)

-- entries of different rows or columns stand at different places
pub places-differ : (columns i j row column : ℕ) → j < columns → column < columns → (i ≢ row) ⊎ (j ≢ column)
    → i * columns + j ≢ row * columns + column
places-differ columns i j row column inside within (inl other) = λ e. other (same_row columns i j row column inside within e)
places-differ columns i j row column inside within (inr other) = λ e. other (same_column columns i j row column inside within e)

-- ---- one row

-- the row has what is wanted before column n, and what it had from there on, and the other rows have what they had
pub record RowWritten {V : Type 0} (read : List V → ℕ → ℕ → ℕ) (columns row : ℕ) (wanted : ℕ → ℕ) (old now : List V) (n : ℕ) : Type 0 where
  pub shape : length now ≡ length old
  pub done : (j : ℕ) → j < n → read now row j ≡ wanted j
  pub rest : (j : ℕ) → n ≤ j → j < columns → read now row j ≡ read old row j
  pub others : (i j : ℕ) → i ≢ row → j < columns → read now i j ≡ read old i j

module _ {V : Type 0} {read : List V → ℕ → ℕ → ℕ} {columns row : ℕ} {wanted : ℕ → ℕ} {old : List V} where
  pub row_from : {n : ℕ} → ((j : ℕ) → j < n → read old row j ≡ wanted j)
      → RowWritten read columns row wanted old old n
  row_from done = record { shape = refl; done = done; rest = λ j past inside. refl; others = λ i j other inside. refl }

  pub row_start : RowWritten read columns row wanted old old 0
  row_start = row_from (λ j below. absurd (omega (arith, below)))

module _ {V : Type 0} {read : List V → ℕ → ℕ → ℕ} {columns row : ℕ} {wanted : ℕ → ℕ} {old now : List V} {n : ℕ}
    (so_far : RowWritten read columns row wanted old now n) where
  pub row_step : {next : List V} {value : ℕ} → n < columns → value ≡ wanted n → IsEntryWritten read columns row n value now next
      → RowWritten read columns row wanted old next (n + 1)
  row_step {next} within is write =
      record {
        shape = write.shape ∙ so_far.shape;
        done = below_more (λ j. read next row j ≡ wanted j) n
            (λ j below. write.others row j (omega (arith, below, within)) (inr (λ e. absurd (omega (arith, e, below)))) ∙ so_far.done j below)
            (write.written ∙ is);
        rest = λ j past inside.
            write.others row j inside (inr (λ e. absurd (omega (arith, e, past)))) ∙ so_far.rest j (omega (arith, past)) inside;
        others = λ i j other inside. write.others i j inside (inl other) ∙ so_far.others i j other inside;
      }

  -- from column n on the row is to stay
  pub row_stays : ((j : ℕ) → n ≤ j → j < columns → wanted j ≡ read old row j)
      → IsRowWritten read columns row wanted old now
  row_stays stays =
      record {
        shape = so_far.shape;
        entries = λ j inside.
            elim (cases_lt j n) [
              | inl before ↦ so_far.done j before
              | inr past ↦ so_far.rest j past inside ∙ sym (stays j past inside)
            ];
        others = so_far.others;
      }

  pub row_end : columns ≤ n → IsRowWritten read columns row wanted old now
  row_end past = record {
    shape = so_far.shape;
    entries = λ j inside. so_far.done j (omega (arith, past, inside));
    others = so_far.others;
  }

module _ {V : Type 0} {read : List V → ℕ → ℕ → ℕ} {columns row : ℕ} {wanted : ℕ → ℕ} {old now : List V}
    (write : IsRowWritten read columns row wanted old now) where
  -- what is wanted in other words
  pub row_wanted : {same : ℕ → ℕ} → ((j : ℕ) → j < columns → wanted j ≡ same j) → IsRowWritten read columns row same old now
  row_wanted is = record {
    shape = write.shape;
    entries = λ j inside. write.entries j inside ∙ is j inside;
    others = write.others;
  }

  -- one row is written twice
  pub row_again : {own after : ℕ → ℕ} {next : List V} → ((j : ℕ) → j < columns → own j ≡ after j)
      → IsRowWritten read columns row own now next → IsRowWritten read columns row after old next
  row_again is again =
      record {
        shape = again.shape ∙ write.shape;
        entries = λ j inside. again.entries j inside ∙ is j inside;
        others = λ i j other inside. again.others i j other inside ∙ write.others i j other inside;
      }

-- ---- rows

-- the rows before n have what is wanted, and the others what they had
pub record RowsWritten {V : Type 0} (read : List V → ℕ → ℕ → ℕ) (columns : ℕ) (wanted : ℕ → ℕ → ℕ) (old now : List V) (n : ℕ) : Type 0 where
  pub shape : length now ≡ length old
  pub done : (i j : ℕ) → i < n → j < columns → read now i j ≡ wanted i j
  pub rest : (i j : ℕ) → n ≤ i → j < columns → read now i j ≡ read old i j

module _ {V : Type 0} {read : List V → ℕ → ℕ → ℕ} {columns : ℕ} {wanted : ℕ → ℕ → ℕ} {old : List V} where
  pub rows_from : {n : ℕ} → ((i j : ℕ) → i < n → j < columns → read old i j ≡ wanted i j)
      → RowsWritten read columns wanted old old n
  rows_from done = record { shape = refl; done = done; rest = λ i j past inside. refl }

  pub rows_start : RowsWritten read columns wanted old old 0
  rows_start = rows_from (λ i j below inside. absurd (omega (arith, below)))

module _ {V : Type 0} {read : List V → ℕ → ℕ → ℕ} {columns : ℕ} {wanted : ℕ → ℕ → ℕ} {old now : List V} {n : ℕ}
    (so_far : RowsWritten read columns wanted old now n) where
  pub rows_step : {next : List V} {own : ℕ → ℕ} → ((j : ℕ) → j < columns → own j ≡ wanted n j)
      → IsRowWritten read columns n own now next → RowsWritten read columns wanted old next (n + 1)
  rows_step {next} is write =
      record {
        shape = write.shape ∙ so_far.shape;
        done = λ i j below inside.
            below_more (λ k. read next k j ≡ wanted k j) n
            (λ k before. write.others k j (λ e. absurd (omega (arith, e, before))) inside ∙ so_far.done k j before inside)
            (write.entries j inside ∙ is j inside) i below;
        rest = λ i j past inside.
            write.others i j (λ e. absurd (omega (arith, e, past))) inside ∙ so_far.rest i j (omega (arith, past)) inside;
      }

  pub rows_end : (rows : ℕ) → rows ≤ n → (i j : ℕ) → i < rows → j < columns → read now i j ≡ wanted i j
  rows_end rows past i j below inside = so_far.done i j (omega (arith, below, past)) inside

-- ---- parts of a matrix

-- the rows from one on are those of a matrix
pub rows_behind : {rows columns row start len rest : ℕ} → HasMatrixRow rows columns row len → start ≡ row * columns → rest + start ≡ len
    → HasMatrixRow (rows - row) columns 0 rest
rows_behind {rows} {columns} {row} {start} {len} {rest} has at parts =
    let within = has.row_within in
    let long = has.shape in
    let all : rows ≡ row + (rows - row) = omega (arith, within) in
    let whole : rows * columns ≡ (row + (rows - row)) * columns = ap (λ (n : ℕ). n * columns) all in
    record { shape = omega (arith, whole, long, at, parts); row_within = omega (arith, within) }

-- each entry fits
pub entries-lt : {V : Type 0} (number : V → ℕ) (width : ℕ) → ((x : V) → number x < 2 ^ width) → (columns : ℕ) (values : List V) (i j : ℕ)
    → entry_of number columns values i j < 2 ^ width
entries-lt number width range columns values i j = numbers-lt number width range values (i * columns + j)

module _ {V : Type 0} (number : V → ℕ) where
  -- the numbers of two lists one behind the other, in the first
  pub read_front : (xs ys : List V) (p : ℕ) → p < length xs → slice_index (map number (xs ++ ys)) p ≡ slice_index (map number xs) p
  read_front xs ys p below =
      let long = length-map xs number in
      ap (λ (ns : List ℕ). slice_index ns p) (map-append number xs ys)
      ∙ get_or_append_left (map number xs) (map number ys) 0 p (omega (arith, long, below))

  -- and in the second
  pub read_back : (xs ys : List V) (r : ℕ) → slice_index (map number (xs ++ ys)) (length xs + r) ≡ slice_index (map number ys) r
  read_back xs ys r =
      ap (λ (ns : List ℕ). slice_index ns (length xs + r)) (map-append number xs ys)
      ∙ ap (λ (n : ℕ). slice_index (map number xs ++ map number ys) (n + r)) (sym (length-map xs number))
      ∙ get_or-append-add (map number xs) (map number ys) r 0

  -- behind a list that was changed nothing else is
  pub read_behind : (xs xs' ys : List V) (p : ℕ) → length xs' ≡ length xs → length xs ≤ p
      → slice_index (map number (xs' ++ ys)) p ≡ slice_index (map number (xs ++ ys)) p
  read_behind xs xs' ys p same past =
      let r = p - length xs in
      let at : p ≡ length xs + r = omega (arith, past) in
      let at' : p ≡ length xs' + r = omega (arith, past, same) in
      ap (slice_index (map number (xs' ++ ys))) at' ∙ read_back xs' ys r
      ∙ sym (ap (slice_index (map number (xs ++ ys))) at ∙ read_back xs ys r)

  module _ (columns : ℕ) where
    -- an entry of the rows in front
    pub entry_front : (rows i j : ℕ) (front back : List V) → length front ≡ rows * columns → i < rows → j < columns
        → entry_of number columns (front ++ back) i j ≡ entry_of number columns front i j
    entry_front rows i j front back long within inside =
        let place : i * columns + j < columns * rows = mul-add-lt i columns j rows within inside in
        read_front front back (i * columns + j) (omega (arith, place, long))

    -- an entry of the rows behind
    pub entry_back : (rows d j : ℕ) (front back : List V) → length front ≡ rows * columns
        → entry_of number columns (front ++ back) (rows + d) j ≡ entry_of number columns back d j
    entry_back rows d j front back long =
        let at : (rows + d) * columns + j ≡ length front + (d * columns + j) = omega (arith, long) in
        ap (slice_index (map number (front ++ back))) at ∙ read_back front back (d * columns + j)

    -- the first of them
    pub entry_next : (rows j : ℕ) (front back : List V) → length front ≡ rows * columns
        → entry_of number columns (front ++ back) rows j ≡ entry_of number columns back 0 j
    entry_next rows j front back long =
        let same : rows ≡ rows + 0 = omega arith in
        ap (λ (i : ℕ). entry_of number columns (front ++ back) i j) same ∙ entry_back rows 0 j front back long

    -- a row of the rows in front is written
    pub front_written : (rows row : ℕ) (own wanted : ℕ → ℕ) (front front' back : List V) → length front ≡ rows * columns → row < rows
        → ((j : ℕ) → j < columns → own j ≡ wanted j) → IsRowWritten (entry_of number columns) columns row own front front'
        → IsRowWritten (entry_of number columns) columns row wanted (front ++ back) (front' ++ back)
    front_written rows row own wanted front front' back long within is write =
        record {
          shape = length-append front' back ∙ ap (λ (n : ℕ). n + length back) write.shape ∙ sym (length-append front back);
          entries = λ j inside.
              entry_front rows row j front' back (write.shape ∙ long) within inside ∙ write.entries j inside ∙ is j inside;
          others = λ i j other inside.
              elim (cases_lt i rows) [
                | inl before ↦
                    entry_front rows i j front' back (write.shape ∙ long) before inside
                    ∙ write.others i j other inside ∙ sym (entry_front rows i j front back long before inside)
                | inr past ↦
                    let room : rows * columns ≤ i * columns = mul-le-mul_right columns past in
                    read_behind front front' back (i * columns + j) write.shape (omega (arith, room, long))
              ];
        }

    -- the first of the rows behind is written
    pub back_written : (row : ℕ) (own wanted : ℕ → ℕ) (front back back' : List V) → length front ≡ row * columns
        → ((j : ℕ) → j < columns → own j ≡ wanted j) → IsRowWritten (entry_of number columns) columns 0 own back back'
        → IsRowWritten (entry_of number columns) columns row wanted (front ++ back) (front ++ back')
    back_written row own wanted front back back' long is write =
        record {
          shape = length-append front back' ∙ ap (λ (n : ℕ). length front + n) write.shape ∙ sym (length-append front back);
          entries = λ j inside. entry_next row j front back' long ∙ write.entries j inside ∙ is j inside;
          others = λ i j other inside.
              elim (cases_lt i row) [
                | inl before ↦ entry_front row i j front back' long before inside ∙ sym (entry_front row i j front back long before inside)
                | inr past ↦
                    let d = i - row in
                    let at : i ≡ row + d = omega (arith, past) in
                    ap (λ (k : ℕ). entry_of number columns (front ++ back') k j) at
                    ∙ entry_back row d j front back' long
                    ∙ write.others d j (λ none. other (omega (arith, at, none))) inside
                    ∙ sym (ap (λ (k : ℕ). entry_of number columns (front ++ back) k j) at ∙ entry_back row d j front back long)
              ];
        }

    -- an entry of one row that was taken out of a matrix
    pub part_read : (row j : ℕ) (matrix before rest own behind : List V) → matrix ≡ before ++ rest → rest ≡ own ++ behind
        → length before ≡ row * columns → length own ≡ columns → j < columns
        → slice_index (map number own) j ≡ entry_of number columns matrix row j
    part_read row j matrix before rest own behind parts rest_parts start long inside =
        let first : j ≡ 0 * columns + j = omega arith in
        let one : length own ≡ 1 * columns = omega (arith, long) in
        ap (slice_index (map number own)) first
        ∙ sym (entry_front 1 0 j own behind one (omega arith) inside)
        ∙ ap (λ (l : List V). entry_of number columns l 0 j) (sym rest_parts)
        ∙ sym (entry_next row j before rest start)
        ∙ ap (λ (l : List V). entry_of number columns l row j) (sym parts)

    -- ---- multiples that are added

    module _ (times : ℕ → ℕ → ℕ) (s : ℕ) where
      -- to a row by itself
      row_added : (own own' values : List V) → length own ≡ columns → length own' ≡ length own
          → AreScaledSums times s (map number values) (map number own) (map number own')
          → IsRowWritten (entry_of number columns) columns 0
          (λ j. bit_xor (entry_of number columns own 0 j) (times s (slice_index (map number values) j))) own own'
      row_added own own' values long same sums =
          record {
            shape = same;
            entries = λ j inside.
                let count = length-map own number in
                let at : 0 * columns + j ≡ j = omega arith in
                ap (slice_index (map number own')) at ∙ sums j (omega (arith, inside, long, count))
                ∙ ap (λ (k : ℕ). bit_xor (slice_index (map number own) k) (times s (slice_index (map number values) j))) (sym at);
            others = λ i j other inside.
                let count = length-map own number in
                let count' = length-map own' number in
                let some : 1 ≤ i = omega (arith, other) in
                let room : 1 * columns ≤ i * columns = mul-le-mul_right columns some in
                get_or_past (map number own') (i * columns + j) 0 (omega (arith, room, long, same, count'))
                ∙ sym (get_or_past (map number own) (i * columns + j) 0 (omega (arith, room, long, count)));
          }

      -- to a row of a matrix that was split before and behind it
      pub part_added : (row : ℕ) (matrix before rest own own' behind values : List V) → matrix ≡ before ++ rest → rest ≡ own ++ behind
          → length before ≡ row * columns → length own ≡ columns → length own' ≡ length own
          → AreScaledSums times s (map number values) (map number own) (map number own')
          → IsRowWritten (entry_of number columns) columns row
          (λ j. bit_xor (entry_of number columns matrix row j) (times s (slice_index (map number values) j))) matrix
          (before ++ (own' ++ behind))
      part_added row matrix before rest own own' behind values parts rest_parts start long same sums =
          let added : ℕ → ℕ → ℕ = λ j x. bit_xor x (times s (slice_index (map number values) j)) in
          let whole : matrix ≡ before ++ (own ++ behind) = parts ∙ ap (λ (l : List V). before ++ l) rest_parts in
          let one : length own ≡ 1 * columns = omega (arith, long) in
          subst (λ (l : List V). IsRowWritten (entry_of number columns) columns row (λ j. added j (entry_of number columns l row j)) l (before ++ (own' ++ behind)))
          (sym whole)
          (back_written row (λ j. added j (entry_of number columns (own ++ behind) 0 j)) _ before (own ++ behind) (own' ++ behind) start
          (λ j inside. ap (added j) (sym (entry_next row j before (own ++ behind) start)))
          (front_written 1 0 (λ j. added j (entry_of number columns own 0 j)) _ own own' behind one (omega arith)
          (λ j inside. ap (added j) (sym (entry_front 1 0 j own behind one (omega arith) inside)))
          (row_added own own' values long same sums)))

      module _ (to from : ℕ) where
        -- the entries of a row, and multiples of those of another
        abbrev pub added_row : List V → ℕ → ℕ
        added_row matrix j = bit_xor (entry_of number columns matrix to j) (times s (entry_of number columns matrix from j))

        -- of an earlier row, to the first one behind a place where the matrix was split
        pub earlier_added : (front values : List V) {matrix back back' : List V} → matrix ≡ front ++ back → length front ≡ to * columns → from < to
            → ((j : ℕ) → j < columns → slice_index (map number values) j ≡ entry_of number columns front from j)
            → IsRowWritten (entry_of number columns) columns 0
            (λ j. bit_xor (entry_of number columns back 0 j) (times s (slice_index (map number values) j))) back back'
            → IsRowWritten (entry_of number columns) columns to (added_row matrix) matrix (front ++ back')
        earlier_added front values {matrix} {back} {back'} parts long earlier are write =
            subst (λ (l : List V). IsRowWritten (entry_of number columns) columns to (added_row l) l (front ++ back')) (sym parts)
            (back_written to _ (added_row (front ++ back)) front back back' long
            (λ j inside.
            ap₂ (λ (x y : ℕ). bit_xor x (times s y)) (sym (entry_next to j front back long))
            (are j inside ∙ sym (entry_front to from j front back long earlier inside))) write)

        -- of the first row behind that place, to an earlier one
        pub later_added : (back values : List V) {matrix front front' : List V} → matrix ≡ front ++ back → length front ≡ from * columns → to < from
            → ((j : ℕ) → j < columns → slice_index (map number values) j ≡ entry_of number columns back 0 j)
            → IsRowWritten (entry_of number columns) columns to
            (λ j. bit_xor (entry_of number columns front to j) (times s (slice_index (map number values) j))) front front'
            → IsRowWritten (entry_of number columns) columns to (added_row matrix) matrix (front' ++ back)
        later_added back values {matrix} {front} {front'} parts long later are write =
            subst (λ (l : List V). IsRowWritten (entry_of number columns) columns to (added_row l) l (front' ++ back)) (sym parts)
            (front_written from to _ (added_row (front ++ back)) front front' back long later
            (λ j inside.
            ap₂ (λ (x y : ℕ). bit_xor x (times s y)) (sym (entry_front from to j front back long later inside))
            (are j inside ∙ sym (entry_next from j front back long))) write)

-- ---- entries that are put into a row

module _ (from count : ℕ) (other own : ℕ → ℕ) (j : ℕ) where
  pub put-before : j < from → put_entry from count other own j ≡ own j
  put-before before =
      ap (λ (t : Bool). if t then own j else if nat_lt j (from + count) then other (j - from) else own j) (lt-ltb j from before)

  pub put-inside : from ≤ j → j < from + count → put_entry from count other own j ≡ other (j - from)
  put-inside past inside =
      ap (λ (t : Bool). if t then own j else if nat_lt j (from + count) then other (j - from) else own j) (le-ltb j from past)
      ∙ ap (λ (t : Bool). if t then other (j - from) else own j) (lt-ltb j (from + count) inside)

  pub put-behind : from + count ≤ j → put_entry from count other own j ≡ own j
  put-behind past =
      ap (λ (t : Bool). if t then own j else if nat_lt j (from + count) then other (j - from) else own j)
      (le-ltb j from (omega (arith, past)))
      ∙ ap (λ (t : Bool). if t then other (j - from) else own j) (le-ltb j (from + count) past)

-- all entries are put in
pub put-whole : (count : ℕ) (other own : ℕ → ℕ) (j : ℕ) → j < count → put_entry 0 count other own j ≡ other j
put-whole count other own j inside =
    let same : j - 0 ≡ j = omega arith in
    put-inside 0 count other own j (omega arith) (omega (arith, inside)) ∙ ap other same

-- it depends only on the entry that stays
pub put_same : (from count : ℕ) (other own was : ℕ → ℕ) (j : ℕ) → own j ≡ was j
    → put_entry from count other own j ≡ put_entry from count other was j
put_same from count other own was j same =
    ap (λ (n : ℕ). if nat_lt j from then n else if nat_lt j (from + count) then other (j - from) else n) same

-- a loop that puts them into a row, from the first of them on
pub put_start : (from count : ℕ) (other : ℕ → ℕ) {V : Type 0} {read : List V → ℕ → ℕ → ℕ} {columns row : ℕ} {old : List V}
    → RowWritten read columns row (put_entry from count other (read old row)) old old from
put_start from count other {read = read} {row = row} {old = old} = row_from (λ j before. sym (put-before from count other (read old row) j before))

module _ (from count : ℕ) (other : ℕ → ℕ) {V : Type 0} {read : List V → ℕ → ℕ → ℕ} {columns row : ℕ} {old now : List V} {n : ℕ}
    (so_far : RowWritten read columns row (put_entry from count other (read old row)) old now n) where
  pub put_step : {next : List V} {value : ℕ} → n < columns → from ≤ n → n < from + count → value ≡ other (n - from)
      → IsEntryWritten read columns row n value now next
      → RowWritten read columns row (put_entry from count other (read old row)) old next (n + 1)
  put_step within past inside is write =
      row_step so_far within (is ∙ sym (put-inside from count other (read old row) n past inside)) write

  pub put_end : from + count ≤ n
      → IsRowWritten read columns row (put_entry from count other (read old row)) old now
  put_end all =
      row_stays so_far (λ j past inside. put-behind from count other (read old row) j (omega (arith, past, all)))

-- ---- rows of two matrices

-- the first k rows of one matrix, and behind them those of another
abbrev pub mixed : ℕ → (ℕ → ℕ → ℕ) → (ℕ → ℕ → ℕ) → ℕ → ℕ → ℕ
mixed k C A i = if nat_lt i k then C i else A i

module _ (k : ℕ) (C A : ℕ → ℕ → ℕ) (i : ℕ) where
  pub mixed-before : i < k → mixed k C A i ≡ C i
  mixed-before before = ap (λ (t : Bool). if t then C i else A i) (lt-ltb i k before)

  pub mixed-past : k ≤ i → mixed k C A i ≡ A i
  mixed-past past = ap (λ (t : Bool). if t then C i else A i) (le-ltb i k past)

-- with one row more
pub mixed-more : (k : ℕ) (C A : ℕ → ℕ → ℕ) (i j : ℕ) → i ≢ k → mixed (suc k) C A i j ≡ mixed k C A i j
mixed-more k C A i j other =
    elim (cases_lt i k) [
      | inl before ↦ ap (λ (w : ℕ → ℕ). w j) (mixed-before (suc k) C A i (omega (arith, before)) ∙ sym (mixed-before k C A i before))
      | inr past ↦ ap (λ (w : ℕ → ℕ). w j) (mixed-past (suc k) C A i (omega (arith, past, other)) ∙ sym (mixed-past k C A i past))
    ]
