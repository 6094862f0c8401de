-- Strips of columns: rows that are written apart from the shards, and then put where they belong.
use Rattle.std.proofs.Common.{◌≡◌, ◌≢◌, ◌⊎◌, inl, inr, ℕ, ◌+◌, ◌-◌, ◌*◌, ◌<◌, ◌≤◌, ◌++◌, List, length, get_or, take, drop, refl, sym, ◌∙◌, ap, subst, arith}
use Rattle.std.proofs.lemmas.Bool.{cases_lt}
use Rattle.std.proofs.lemmas.List.{ext_get_or, get_or-append-add, get_or_append_left, get_or-drop, get_or-take, length-append, length-drop, length-take-le}
use Rattle.reed_solomon.specs.Tables.{AreApart, AreRows, AreWritten, HasRow, nibble_sum, row_sum}
use Rattle.reed_solomon.specs.Samples.{symbol_at}
use Rattle.reed_solomon.specs.ByteFields.{byte_times}
use Rattle.reed_solomon.specs.declared.byte_field.ByteField.TheVariants.{Qr}
use Rattle.field_base.specs.Interpolation.{lagrange}
use Rattle.reed_solomon.proofs.GroupWriting.{apart_places, columns_apart, row_symbol}
use Rattle.reed_solomon.proofs.RowWriting.{columns_written, row_written, still_read, written_at, written_by}
use Rattle.field_base.proofs.BasisSums.{sum_below-same}
use Rattle.reed_solomon.proofs.Samples.{below_next}

-- ---- a part of a list that is put in the place of as many entries

-- xs with the entries ys in the place of `width` ones from `start` on
abbrev pub put_part : ℕ → ℕ → List ℕ → List ℕ → List ℕ
put_part start width xs ys = take start xs ++ (ys ++ drop width (drop start xs))

-- a part of a list, and its entries
pub part_length : (from gap n : ℕ) (xs : List ℕ) → gap ≡ n → from + n ≤ length xs → length (take gap (drop from xs)) ≡ n
part_length from gap n xs same room =
    let rest = length-drop from xs in
    length-take-le gap (drop from xs) (omega (arith, same, room, rest)) ∙ same

pub part_at : (from gap n i : ℕ) (xs : List ℕ) → gap ≡ n → i < n → get_or (take gap (drop from xs)) i 0 ≡ get_or xs (from + i) 0
part_at from gap n i xs same below = get_or-take gap (drop from xs) i 0 (omega (arith, same, below)) ∙ get_or-drop from xs i 0

module _ (start width : ℕ) (xs ys : List ℕ) (room : start + width ≤ length xs) (long : length ys ≡ width) where
  taken : length (take start xs) ≡ start
  taken = length-take-le start xs (omega (arith, room))

  pub put_part-length : length (put_part start width xs ys) ≡ length xs
  put_part-length =
      let whole = length-append (take start xs) (ys ++ drop width (drop start xs)) in
      let behind = length-append ys (drop width (drop start xs)) in
      let rest = length-drop width (drop start xs) in
      let from = length-drop start xs in
      omega (arith, whole, behind, rest, from, taken, room, long)

  pub put_part-at : (c : ℕ) → c < width → get_or (put_part start width xs ys) (start + c) 0 ≡ get_or ys c 0
  put_part-at c inside =
      ap (λ (n : ℕ). get_or (put_part start width xs ys) (n + c) 0) (sym taken)
      ∙ get_or-append-add (take start xs) (ys ++ drop width (drop start xs)) c 0
      ∙ get_or_append_left ys (drop width (drop start xs)) 0 c (omega (arith, inside, long))

  pub put_part-others : (i : ℕ) → (i < start) ⊎ (start + width ≤ i) → get_or (put_part start width xs ys) i 0 ≡ get_or xs i 0
  put_part-others i outside =
      elim outside [
        | inl low ↦ get_or_append_left (take start xs) (ys ++ drop width (drop start xs)) 0 i (omega (arith, low, taken)) ∙ get_or-take start xs i 0 low
        | inr high ↦ above high
      ]
    where
      above : start + width ≤ i → get_or (put_part start width xs ys) i 0 ≡ get_or xs i 0
      above high =
          let far : i ≡ length (take start xs) + (length ys + (i - start - width)) = omega (arith, high, taken, long) in
          let back : start + (width + (i - start - width)) ≡ i = omega (arith, high) in
          ap (λ (n : ℕ). get_or (put_part start width xs ys) n 0) far
          ∙ get_or-append-add (take start xs) (ys ++ drop width (drop start xs)) (length ys + (i - start - width)) 0
          ∙ get_or-append-add ys (drop width (drop start xs)) (i - start - width) 0
          ∙ get_or-drop width (drop start xs) (i - start - width) 0
          ∙ get_or-drop start xs (width + (i - start - width)) 0
          ∙ ap (λ (n : ℕ). get_or xs n 0) back

-- ---- rows of a strip

-- one row of a strip is put into its shard
pub strip_row : (size column width row : ℕ) (target : ℕ → ℕ) (strip part old now : List ℕ) (rows start gap from cut : ℕ) → row < rows
    → column + width ≤ size
    → AreWritten (λ r c. get_or strip (2048 * r + c) 0) (λ r. target r * size + column) row width old now
    → start ≡ target row * size + column → start + width ≤ length now → gap ≡ width → part ≡ take cut (drop from strip)
    → from ≡ 2048 * row → cut ≡ width → from + width ≤ length strip
    → ((r other : ℕ) → other < r → r < rows → target r ≢ target other)
    → AreWritten (λ r c. get_or strip (2048 * r + c) 0) (λ r. target r * size + column) (row + 1) width old (put_part start gap now part)
strip_row size column width row target strip part old now rows start gap from cut within fits before is room gap_is part_is from_is cut_is inside_strip
    distinct =
    subst (λ (n : ℕ). AreWritten (λ r c. get_or strip (2048 * r + c) 0) (λ r. target r * size + column) (row + 1) width old (put_part start n now part))
    (sym gap_is)
    (row_written (λ r c. get_or strip (2048 * r + c) 0) (λ r. target r * size + column) row width old now (put_part start width now part) before
    (put_part-length start width now part room long)
    (λ c inside.
    ap (λ (n : ℕ). get_or (put_part start width now part) (n + c) 0) (sym is) ∙ put_part-at start width now part room long c inside ∙ value c inside)
    (λ i outside. put_part-others start width now part room long i (subst (λ (p : ℕ). (i < p) ⊎ (p + width ≤ i)) (sym is) outside))
    (λ other less. columns_apart size column width (target row) (target other) fits (apart_places size (target row) (target other) (distinct row other less within))))
  where
    long : length part ≡ width
    long = ap (λ (l : List ℕ). length l) part_is ∙ part_length from cut width strip cut_is inside_strip

    value : (c : ℕ) → c < width → get_or part c 0 ≡ get_or strip (2048 * row + c) 0
    value c inside =
        ap (λ (l : List ℕ). get_or l c 0) part_is ∙ part_at from cut width c strip cut_is inside
        ∙ ap (λ (n : ℕ). get_or strip (n + c) 0) from_is

-- a sum of a row past the first columns
pub row_sum-drop : (entries shards starts : List ℕ) (row columns c : ℕ)
    → row_sum entries (drop columns shards) starts row c ≡ row_sum entries shards starts row (columns + c)
row_sum-drop entries shards starts row columns c =
    sum_below-same (λ j. nibble_sum entries (128 * j + 32 * row) (get_or (drop columns shards) (get_or starts j 0 + c) 0)) (λ j. nibble_sum entries (128 * j + 32 * row) (get_or shards (get_or starts j 0 + (columns + c)) 0)) (length starts)
    (λ j below.
    ap (nibble_sum entries (128 * j + 32 * row))
    (get_or-drop columns shards (get_or starts j 0 + c) 0 ∙ ap (λ (n : ℕ). get_or shards n 0) (place (get_or starts j 0))))
  where
    place : (start : ℕ) → columns + (start + c) ≡ start + (columns + c)
    place start = omega arith

-- so rows of a strip that the tables give are the symbols of their shards in its columns
pub column_symbols : (count size : ℕ) (place target : ℕ → ℕ) (entries shards part starts : List ℕ) (given spot : ℕ → ℕ)
    (rows n column width : ℕ) (old now : List ℕ) → part ≡ drop column shards → rows ≡ n → length starts ≡ count
    → ((j : ℕ) → j < count → get_or starts j 0 ≡ place j * size) → ((row : ℕ) → row < n → given row ≡ spot row)
    → ((row : ℕ) → row < n → HasRow (λ j. lagrange 8 (byte_times Qr) place count j (target row)) entries row count)
    → ((i : ℕ) → get_or shards i 0 < 256) → AreWritten (row_sum entries part starts) given rows width old now
    → AreWritten (λ row c. symbol_at count size place shards (column + c) (target row)) spot n width old now
column_symbols count size place target entries shards part starts given spot rows n column width old now part_is rows_are counted begun spots set bytes
    all =
    written_at (λ row c. symbol_at count size place shards (column + c) (target row)) given spot n width old now
    (written_by (row_sum entries part starts) (λ row c. symbol_at count size place shards (column + c) (target row)) given n width old now
    (subst (λ (r : ℕ). AreWritten (row_sum entries part starts) given r width old now) rows_are all)
    (λ row c within inside.
    ap (λ (l : List ℕ). row_sum entries l starts row c) part_is ∙ row_sum-drop entries shards starts row column c
    ∙ row_symbol count size place entries shards starts row (column + c) (target row) counted begun (set row within) bytes))
    spots

-- a strip more: its rows are what the tables give in the shards, of which those that are read are as they were
pub strip_written : (entries starts strip spots : List ℕ) (target : ℕ → ℕ) (rows columns width size : ℕ) (old mid now : List ℕ)
    → AreWritten (row_sum entries old starts) (λ r. target r * size) rows columns old mid
    → ((row c : ℕ) → row < rows → c < width → get_or strip (get_or spots row 0 + c) 0 ≡ row_sum entries (drop columns mid) starts row c)
    → ((row : ℕ) → row < rows → get_or spots row 0 ≡ 2048 * row)
    → AreWritten (λ r c. get_or strip (2048 * r + c) 0) (λ r. target r * size + columns) rows width mid now → columns + width ≤ size
    → ((r other : ℕ) → other < r → r < rows → target r ≢ target other)
    → ((j r : ℕ) → j < length starts → r < rows → AreApart size (get_or starts j 0) (target r * size))
    → AreWritten (row_sum entries old starts) (λ r. target r * size) rows (columns + width) old now
strip_written entries starts strip spots target rows columns width size old mid now before sums spots_are more fits distinct read =
    columns_written (row_sum entries old starts) (λ r. target r * size) rows columns width (columns + width) size old mid now before
    (written_by (λ r c. get_or strip (2048 * r + c) 0) (λ r c. row_sum entries old starts r (columns + c)) (λ r. target r * size + columns) rows width mid now
    more
    (λ row c within inside.
    ap (λ (p : ℕ). get_or strip (p + c) 0) (sym (spots_are row within)) ∙ sums row c within inside
    ∙ row_sum-drop entries mid starts row columns c
    ∙ still_read (row_sum entries old starts) entries starts (λ r. target r * size) rows columns size old mid before (omega (arith, fits)) read row
    (columns + c) (omega (arith, fits, inside))))
    refl fits
    (λ row other less within. apart_places size (target row) (target other) (distinct row other less within))

-- a strip of shards behind those of their columns that are written
pub strip_behind : (value : ℕ → ℕ → ℕ) (size first count column done width : ℕ) (old mid now : List ℕ) → column + (done + width) ≤ size
    → AreWritten (λ row c. value (first + row) (column + c)) (λ row. (first + row) * size + column) count done old mid
    → AreWritten (λ row c. value (first + row) (column + done + c)) (λ row. (first + row) * size + (column + done)) count width mid now
    → AreWritten (λ row c. value (first + row) (column + c)) (λ row. (first + row) * size + column) count (done + width) old now
strip_behind value size first count column done width old mid now fits before more =
    columns_written (λ row c. value (first + row) (column + c)) (λ row. (first + row) * size + column) count done width (done + width) size old mid now
    before
    (written_by (λ row c. value (first + row) (column + done + c)) (λ row c. value (first + row) (column + (done + c)))
    (λ row. (first + row) * size + column + done) count width mid now
    (written_at (λ row c. value (first + row) (column + done + c)) (λ row. (first + row) * size + (column + done))
    (λ row. (first + row) * size + column + done) count width mid now more (λ row within. spot row))
    (λ row c within inside. ap (value (first + row)) (place c)))
    refl (omega (arith, fits))
    (λ row other less within. apart (first + row) (first + other) (apart_places size (first + row) (first + other) (λ e. absurd (omega (arith, less, e)))))
  where
    spot : (row : ℕ) → (first + row) * size + (column + done) ≡ (first + row) * size + column + done
    spot row = omega arith

    place : (c : ℕ) → column + done + c ≡ column + (done + c)
    place c = omega arith

    apart : (a b : ℕ) → AreApart size (a * size) (b * size) → AreApart size (a * size + column) (b * size + column)
    apart a b away = elim away [ inl low ↦ inl (omega (arith, low)) | inr high ↦ inr (omega (arith, high)) ]

-- ---- rows that are compared with a strip

-- rows of a slice, and where the row of the same number begins in a strip
module _ (count size begin width : ℕ) (shards strip : List ℕ) where
  abbrev of_strip : ℕ → ℕ → ℕ
  of_strip row c = get_or strip (2048 * row + c) 0

  -- a row that is equal, behind those before it
  pub rows_more : (row first from gap cut : ℕ) → first ≡ begin + row * size → from ≡ 2048 * row → gap ≡ width → cut ≡ width
      → take gap (drop first shards) ≡ take cut (drop from strip) → AreRows row size begin width of_strip shards
      → AreRows (row + 1) size begin width of_strip shards
  rows_more row first from gap cut first_is from_is gap_is cut_is same before =
      λ other c less inside.
      below_next (λ n. get_or shards (begin + n * size + c) 0 ≡ of_strip n c) row other less (λ early. before other c early inside)
      (ap (λ (n : ℕ). get_or shards (n + c) 0) (sym first_is) ∙ sym (part_at first gap width c shards gap_is inside)
      ∙ ap (λ (l : List ℕ). get_or l c 0) same ∙ part_at from cut width c strip cut_is inside ∙ ap (λ (n : ℕ). get_or strip (n + c) 0) from_is)

  -- and it is equal where all are those of the strip
  pub row_equal : (row first from gap cut : ℕ) → first ≡ begin + row * size → from ≡ 2048 * row → gap ≡ width → cut ≡ width
      → first + width ≤ length shards → from + width ≤ length strip → row < count → AreRows count size begin width of_strip shards
      → take gap (drop first shards) ≡ take cut (drop from strip)
  row_equal row first from gap cut first_is from_is gap_is cut_is room inside_strip within all =
      ext_get_or 0 (take gap (drop first shards)) (take cut (drop from strip)) (long ∙ sym (part_length from cut width strip cut_is inside_strip))
      (λ c below.
      let inside : c < width = omega (arith, below, long) in
      part_at first gap width c shards gap_is inside ∙ ap (λ (n : ℕ). get_or shards (n + c) 0) first_is ∙ all row c within inside
      ∙ ap (λ (n : ℕ). get_or strip (n + c) 0) (sym from_is) ∙ sym (part_at from cut width c strip cut_is inside))
    where
      long : length (take gap (drop first shards)) ≡ width
      long = part_length first gap width shards gap_is room

-- a strip of rows is what the tables give in its columns
module _ (entries starts strip spots : List ℕ) (count size begin columns width : ℕ) (shards : List ℕ)
    (sums : (row c : ℕ) → row < count → c < width → get_or strip (get_or spots row 0 + c) 0 ≡ row_sum entries (drop columns shards) starts row c)
    (spots_are : (row : ℕ) → row < count → get_or spots row 0 ≡ 2048 * row) where
  strip_sum : (row c : ℕ) → row < count → c < width → get_or strip (2048 * row + c) 0 ≡ row_sum entries shards starts row (columns + c)
  strip_sum row c within inside =
      ap (λ (p : ℕ). get_or strip (p + c) 0) (sym (spots_are row within)) ∙ sums row c within inside ∙ row_sum-drop entries shards starts row columns c

  -- columns more
  pub columns_more : AreRows count size (begin + columns) width (λ row c. get_or strip (2048 * row + c) 0) shards
      → AreRows count size begin columns (row_sum entries shards starts) shards
      → AreRows count size begin (columns + width) (row_sum entries shards starts) shards
  columns_more equal before row c within inside =
      elim (cases_lt c columns) [
        | inl early ↦ before row c within early
        | inr late ↦ last late
      ]
    where
      last : columns ≤ c → get_or shards (begin + row * size + c) 0 ≡ row_sum entries shards starts row c
      last late =
          let back : columns + (c - columns) ≡ c = omega (arith, late) in
          let place : begin + row * size + c ≡ begin + columns + row * size + (c - columns) = omega (arith, late) in
          let below : c - columns < width = omega (arith, late, inside) in
          ap (λ (p : ℕ). get_or shards p 0) place ∙ equal row (c - columns) within below ∙ strip_sum row (c - columns) within below
          ∙ ap (row_sum entries shards starts row) back

  -- rows that are what the tables give are equal to the strip
  pub strip_equal : (end : ℕ) → columns + width ≤ end → AreRows count size begin end (row_sum entries shards starts) shards
      → AreRows count size (begin + columns) width (λ row c. get_or strip (2048 * row + c) 0) shards
  strip_equal end fits all row c within inside =
      let place : begin + columns + row * size + c ≡ begin + row * size + (columns + c) = omega arith in
      ap (λ (p : ℕ). get_or shards p 0) place ∙ all row (columns + c) within (omega (arith, fits, inside)) ∙ sym (strip_sum row c within inside)
