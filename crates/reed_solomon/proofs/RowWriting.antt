-- Rows of bytes that are written one after the other, and column by column.
use Rattle.std.proofs.Common.{◌≡◌, ◌⊎◌, inl, inr, ℕ, zero, suc, ◌+◌, ◌-◌, ◌*◌, ◌<◌, ◌≤◌, true, false, nat_eq, List, [], length, drop, get_or, replicate, set, refl, sym, ◌∙◌, ap, subst, arith}
use Rattle.std.specs.Prelude.{bit_xor}
use Rattle.std.specs.Simd.Lanes.{chunk, put_chunk, zip2}
use Rattle.std.proofs.lemmas.Bool.{cases_lt}
use Rattle.std.proofs.lemmas.Bool.Decides.{eqb_tells}
use Rattle.std.proofs.lemmas.List.{get_or-set_same, get_or-set_other, length-set}
use Rattle.std.proofs.lemmas.Simd.{get_or-chunk, get_or-put_chunk_above, get_or-put_chunk_at, get_or-put_chunk_below, get_or-replicate, get_or-zip2, length-chunk, length-put_chunk, length-replicate, length-zip2}
use Rattle.field_base.specs.Basis.{sum_below}
use Rattle.reed_solomon.specs.Tables.{AreApart, AreWritten, FitRows, nibble_sum, row_sum, row_sum_of}
use Rattle.reed_solomon.proofs.Factors.{sum_more}
use Rattle.reed_solomon.proofs.NibbleTables.{nibble_sum-behind}
use Rattle.reed_solomon.proofs.Samples.{below_next}
use Rattle.field_base.proofs.BasisSums.{sum_below-same}

-- other names of the values
pub written_by : (value other : ℕ → ℕ → ℕ) (place : ℕ → ℕ) (rows width : ℕ) (old now : List ℕ) → AreWritten value place rows width old now
    → ((row column : ℕ) → row < rows → column < width → value row column ≡ other row column) → AreWritten other place rows width old now
written_by value other place rows width old now all same =
    record {
      long = all.long;
      written = λ row column below inside. all.written row column below inside ∙ same row column below inside;
      others = all.others;
    }

-- other names of the places
pub written_at : (value : ℕ → ℕ → ℕ) (place other : ℕ → ℕ) (rows width : ℕ) (old now : List ℕ) → AreWritten value place rows width old now
    → ((row : ℕ) → row < rows → place row ≡ other row) → AreWritten value other rows width old now
written_at value place other rows width old now all same =
    record {
      long = all.long;
      written = λ row column below inside.
          ap (λ (p : ℕ). get_or now (p + column) 0) (sym (same row below)) ∙ all.written row column below inside;
      others = λ i outside.
          all.others i (λ row below. subst (λ (p : ℕ). (i < p) ⊎ (p + width ≤ i)) (sym (same row below)) (outside row below));
    }

-- one row more
pub row_written : (value : ℕ → ℕ → ℕ) (place : ℕ → ℕ) (row width : ℕ) (old now next : List ℕ) → AreWritten value place row width old now
    → length next ≡ length now → ((c : ℕ) → c < width → get_or next (place row + c) 0 ≡ value row c)
    → ((i : ℕ) → (i < place row) ⊎ (place row + width ≤ i) → get_or next i 0 ≡ get_or now i 0)
    → ((other : ℕ) → other < row → AreApart width (place row) (place other)) → AreWritten value place (row + 1) width old next
row_written value place row width old now next before long at elsewhere apart =
    record {
      long = long ∙ before.long;
      written = λ r c below inside.
          below_next (λ n. get_or next (place n + c) 0 ≡ value n c) row r below
          (λ was. elsewhere (place r + c) (outside r c inside (apart r was)) ∙ before.written r c was inside) (at c inside);
      others = λ i out. elsewhere i (out row (omega arith)) ∙ before.others i (λ r below. out r (omega (arith, below)));
    }
  where
    outside : (r c : ℕ) → c < width → AreApart width (place row) (place r) → (place r + c < place row) ⊎ (place row + width ≤ place r + c)
    outside r c inside away = elim away [ inl low ↦ inr (omega (arith, low)) | inr high ↦ inl (omega (arith, high, inside)) ]

-- a block that is stored
pub block_row : (value : ℕ → ℕ → ℕ) (place : ℕ → ℕ) (row width start : ℕ) (old now lanes : List ℕ) → AreWritten value place row width old now
    → start ≡ place row → length lanes ≡ width → start + width ≤ length now → ((c : ℕ) → c < width → get_or lanes c 0 ≡ value row c)
    → ((other : ℕ) → other < row → AreApart width (place row) (place other))
    → AreWritten value place (row + 1) width old (put_chunk start now lanes)
block_row value place row width start old now lanes before is long room values apart =
    row_written value place row width old now (put_chunk start now lanes) before (length-put_chunk start now lanes)
    (λ c inside.
    ap (λ (n : ℕ). get_or (put_chunk start now lanes) (n + c) 0) (sym is)
    ∙ get_or-put_chunk_at start now lanes c 0 (omega (arith, long, inside)) (omega (arith, long, room)) ∙ values c inside)
    (λ i out. elim out [
      | inl low ↦ get_or-put_chunk_below start now lanes i 0 (omega (arith, low, is))
      | inr high ↦ get_or-put_chunk_above start now lanes i 0 (omega (arith, high, is, long))
    ])
    apart

-- a byte that is stored
pub byte_row : (value : ℕ → ℕ → ℕ) (place : ℕ → ℕ) (row start byte : ℕ) (old now : List ℕ) → AreWritten value place row 1 old now
    → start ≡ place row → start < length now → byte ≡ value row 0
    → ((other : ℕ) → other < row → AreApart 1 (place row) (place other))
    → AreWritten value place (row + 1) 1 old (set now start byte)
byte_row value place row start byte old now before is room byte_is apart =
    row_written value place row 1 old now (set now start byte) before (length-set now start byte)
    (λ c inside.
    let first : c ≡ 0 = omega (arith, inside) in
    let here : place row + c ≡ start = omega (arith, first, is) in
    ap (λ (n : ℕ). get_or (set now start byte) n 0) here
    ∙ get_or-set_same now start byte 0 room ∙ byte_is ∙ ap (value row) (sym first))
    (λ i out. get_or-set_other now start i byte 0 (λ e. elim out [ inl low ↦ absurd (omega (arith, low, is, e)) | inr high ↦ absurd (omega (arith, high, is, e)) ]))
    apart

-- columns that are not written yet
pub column_kept : (value : ℕ → ℕ → ℕ) (place : ℕ → ℕ) (rows columns size row c : ℕ) (old now : List ℕ) → AreWritten value place rows columns old now
    → columns ≤ c → c < size → row < rows → ((a b : ℕ) → b < a → a < rows → AreApart size (place a) (place b))
    → get_or now (place row + c) 0 ≡ get_or old (place row + c) 0
column_kept value place rows columns size row c old now all past inside below apart = all.others (place row + c) outside
  where
    away : (r : ℕ) → AreApart size (place row) (place r) → (place row + c < place r) ⊎ (place r + columns ≤ place row + c)
    away r apart_of = elim apart_of [ inl low ↦ inl (omega (arith, low, inside)) | inr high ↦ inr (omega (arith, high, past, inside)) ]

    swapped : (r : ℕ) → AreApart size (place r) (place row) → AreApart size (place row) (place r)
    swapped r apart_of = elim apart_of [ inl low ↦ inr low | inr high ↦ inl high ]

    outside : (r : ℕ) → r < rows → (place row + c < place r) ⊎ (place r + columns ≤ place row + c)
    outside r within =
        elim (cases_lt r row) [
          | inl less ↦ away r (apart row r less below)
          | inr up ↦ elim (cases_lt row r) [
            | inl more ↦ away r (swapped r (apart r row more within))
            | inr down ↦ let same : r ≡ row = omega (arith, up, down) in inr (omega (arith, ap place same, past))
          ]
        ]

-- rows that are written once more
pub rows_rewritten : (value before : ℕ → ℕ → ℕ) (place : ℕ → ℕ) (rows width : ℕ) (old mid now : List ℕ) → AreWritten before place rows width old mid
    → AreWritten value place rows width mid now → AreWritten value place rows width old now
rows_rewritten value before place rows width old mid now first last =
    record {
      long = last.long ∙ first.long;
      written = last.written;
      others = λ i out. last.others i out ∙ first.others i out;
    }

-- more columns
pub columns_written : (value : ℕ → ℕ → ℕ) (place : ℕ → ℕ) (rows columns width next_column size : ℕ) (old mid now : List ℕ)
    → AreWritten value place rows columns old mid
    → AreWritten (λ row c. value row (columns + c)) (λ row. place row + columns) rows width mid now
    → next_column ≡ columns + width → columns + width ≤ size
    → ((row other : ℕ) → other < row → row < rows → AreApart size (place row) (place other))
    → AreWritten value place rows next_column old now
columns_written value place rows columns width next_column size old mid now before more next fits apart =
    record {
      long = more.long ∙ before.long;
      written = λ row c below inside.
          elim (cases_lt c columns) [
            | inl early ↦ more.others (place row + c) (λ r within. beside row c r below within early) ∙ before.written row c below early
            | inr late ↦ last row c below inside late
          ];
      others = λ i out.
          more.others i (λ r within. elim (out r within) [ inl low ↦ inl (omega (arith, low)) | inr high ↦ inr (omega (arith, high, next)) ])
          ∙ before.others i (λ r within. elim (out r within) [ inl low ↦ inl low | inr high ↦ inr (omega (arith, high, next)) ]);
    }
  where
    last : (row c : ℕ) → row < rows → c < next_column → columns ≤ c → get_or now (place row + c) 0 ≡ value row c
    last row c below inside late =
        let at : place row + c ≡ place row + columns + (c - columns) = omega (arith, late) in
        let back : columns + (c - columns) ≡ c = omega (arith, late) in
        ap (λ (n : ℕ). get_or now n 0) at
        ∙ more.written row (c - columns) below (omega (arith, late, inside, next))
        ∙ ap (value row) back

    away : (row c r : ℕ) → c < columns → AreApart size (place row) (place r)
        → (place row + c < place r + columns) ⊎ (place r + columns + width ≤ place row + c)
    away row c r early apart_of = elim apart_of [ inl low ↦ inl (omega (arith, low, early)) | inr high ↦ inr (omega (arith, high, fits)) ]

    beside : (row c r : ℕ) → row < rows → r < rows → c < columns
        → (place row + c < place r + columns) ⊎ (place r + columns + width ≤ place row + c)
    beside row c r below within early =
        elim (cases_lt r row) [
          | inl less ↦ away row c r early (apart row r less below)
          | inr up ↦ elim (cases_lt row r) [
            | inl more_than ↦ away row c r early (swapped (apart r row more_than within))
            | inr down ↦ let same : r ≡ row = omega (arith, up, down) in inl (omega (arith, ap place same, early))
          ]
        ]
      where
        swapped : AreApart size (place r) (place row) → AreApart size (place row) (place r)
        swapped apart_of = elim apart_of [ inl low ↦ inr low | inr high ↦ inl high ]

-- some of the rows that fit, by other names of their places, and the entries of these rows
pub rows_held : (size room n first m : ℕ) (entries some shards starts rows places : List ℕ) → FitRows size entries shards starts room rows n → first + m ≤ n
    → 128 * length starts + 32 * m ≤ length some + 128 → length places ≡ m
    → ((i : ℕ) → i < m → get_or places i 0 ≡ get_or rows (first + i) 0) → FitRows size some shards starts room places m
rows_held size room n first m entries some shards starts rows places fit inside room_of_tables long same =
    record {
      named = long;
      few_rows = omega (arith, fit.few_rows, inside);
      some_shards = fit.some_shards;
      few_shards = fit.few_shards;
      tables = room_of_tables;
      inside = fit.inside;
      within = λ row below. subst (λ (p : ℕ). p + size ≤ room) (sym (same row below)) (fit.within (first + row) (omega (arith, below, inside)));
      apart = λ row other less below.
          subst (λ (p : ℕ). AreApart size p (get_or places other 0)) (sym (same row below))
          (subst (λ (p : ℕ). AreApart size (get_or rows (first + row) 0) p) (sym (same other (omega (arith, less, below))))
          (fit.apart (first + row) (first + other) (omega (arith, less)) (omega (arith, below, inside))));
    }

-- ---- the sums of a row

-- a sum of a row reads one byte of each shard
pub row_sum-same : (entries shards others starts : List ℕ) (row column : ℕ)
    → ((j : ℕ) → j < length starts → get_or shards (get_or starts j 0 + column) 0 ≡ get_or others (get_or starts j 0 + column) 0)
    → row_sum entries shards starts row column ≡ row_sum entries others starts row column
row_sum-same entries shards others starts row column same =
    sum_below-same (λ j. nibble_sum entries (128 * j + 32 * row) (get_or shards (get_or starts j 0 + column) 0)) (λ j. nibble_sum entries (128 * j + 32 * row) (get_or others (get_or starts j 0 + column) 0)) (length starts)
    (λ j below. ap (nibble_sum entries (128 * j + 32 * row)) (same j below))

-- a sum of a row by the entries from those of row `first` on
pub row_sum-behind : (entries shards starts : List ℕ) (first row column : ℕ)
    → row_sum (drop (32 * first) entries) shards starts row column ≡ row_sum entries shards starts (first + row) column
row_sum-behind entries shards starts first row column =
    sum_below-same (λ j. nibble_sum (drop (32 * first) entries) (128 * j + 32 * row) (get_or shards (get_or starts j 0 + column) 0)) (λ j. nibble_sum entries (128 * j + 32 * (first + row)) (get_or shards (get_or starts j 0 + column) 0)) (length starts)
    (λ j below.
    let place : 32 * first + (128 * j + 32 * row) ≡ 128 * j + 32 * (first + row) = omega arith in
    nibble_sum-behind (32 * first) entries (128 * j + 32 * row) (get_or shards (get_or starts j 0 + column) 0)
    ∙ ap (λ (p : ℕ). nibble_sum entries p (get_or shards (get_or starts j 0 + column) 0)) place)

-- rows that are written leave the shards that are read
pub still_read : (value : ℕ → ℕ → ℕ) (entries starts : List ℕ) (place : ℕ → ℕ) (rows columns size : ℕ) (old now : List ℕ)
    → AreWritten value place rows columns old now → columns ≤ size
    → ((j row : ℕ) → j < length starts → row < rows → AreApart size (get_or starts j 0) (place row))
    → (row column : ℕ) → column < size → row_sum entries now starts row column ≡ row_sum entries old starts row column
still_read value entries starts place rows columns size old now before fits read row column inside =
    row_sum-same entries now old starts row column
    (λ j below. before.others (get_or starts j 0 + column) (λ r within. outside j r (read j r below within)))
  where
    outside : (j r : ℕ) → AreApart size (get_or starts j 0) (place r)
        → (get_or starts j 0 + column < place r) ⊎ (place r + columns ≤ get_or starts j 0 + column)
    outside j r away = elim away [ inl low ↦ inl (omega (arith, low, inside)) | inr high ↦ inr (omega (arith, high, fits)) ]

-- ---- the sums of a block, while the shards are read one by one

-- rows before `done` have the terms of the shards before j and of shard j, and the others those before j
pub record HasSums (term : ℕ → ℕ → ℕ → ℕ) (rows done j : ℕ) (sums : List (List ℕ)) : Type 0 where
  pub count : length sums ≡ rows
  pub long : (row : ℕ) → row < rows → length (get_or sums row []) ≡ 32
  pub added : (row lane : ℕ) → row < done → lane < 32 → get_or (get_or sums row []) lane 0 ≡ sum_below (term row lane) (j + 1)
  pub others : (row lane : ℕ) → done ≤ row → row < rows → lane < 32 → get_or (get_or sums row []) lane 0 ≡ sum_below (term row lane) j

-- rows before `done` have their 32 bytes
pub record AreRead (rows done column : ℕ) (places out : List ℕ) (sums : List (List ℕ)) : Type 0 where
  pub count : length sums ≡ rows
  pub long : (row : ℕ) → row < rows → length (get_or sums row []) ≡ 32
  pub held : (row lane : ℕ) → row < done → lane < 32 → get_or (get_or sums row []) lane 0 ≡ get_or out (get_or places row 0 + (column + lane)) 0

pub row_read : (rows row column : ℕ) (places out : List ℕ) (sums : List (List ℕ)) → AreRead rows row column places out sums → row < rows
    → get_or places row 0 + column + 32 ≤ length out
    → AreRead rows (row + 1) column places out (set sums row (chunk (get_or places row 0 + column) 32 out))
row_read rows row column places out sums before within room =
    record {
      count = length-set sums row block ∙ before.count;
      long = λ r below.
          elim (eqb_tells r row) [
            | inl same ↦ ap (λ (xs : List ℕ). length xs) (here r same.1) ∙ length-chunk start 32 out room
            | inr other ↦ ap (λ (xs : List ℕ). length xs) (get_or-set_other sums row r block [] other.1) ∙ before.long r below
          ];
      held = λ r lane below inside.
          below_next (λ n. get_or (get_or (set sums row block) n []) lane 0 ≡ get_or out (get_or places n 0 + (column + lane)) 0) row r below
          (λ was. ap (λ (xs : List ℕ). get_or xs lane 0) (get_or-set_other sums row r block [] (λ e. absurd (omega (arith, was, e))))
          ∙ before.held r lane was inside)
          (ap (λ (xs : List ℕ). get_or xs lane 0) (here row refl) ∙ get_or-chunk start 32 out lane 0 inside ∙ at lane);
    }
  where
    start : ℕ
    start = get_or places row 0 + column

    block : List ℕ
    block = chunk start 32 out

    here : (r : ℕ) → r ≡ row → get_or (set sums row (chunk (get_or places row 0 + column) 32 out)) r [] ≡ chunk (get_or places row 0 + column) 32 out
    here r e =
        ap (λ (n : ℕ). get_or (set sums row block) n []) e ∙ get_or-set_same sums row block [] (omega (arith, within, before.count))

    at : (lane : ℕ) → get_or out (start + lane) 0 ≡ get_or out (get_or places row 0 + (column + lane)) 0
    at lane = let place : start + lane ≡ get_or places row 0 + (column + lane) = omega arith in ap (λ (n : ℕ). get_or out n 0) place

-- what the test for 0 tells
pub is_zero : (n : ℕ) → n ≡ 0 → nat_eq n 0 ≡ true
is_zero n e = ap (λ (m : ℕ). nat_eq m 0) e

pub is_later : (n : ℕ) → 0 < n → nat_eq n 0 ≡ false
is_later n below = elim (eqb_tells n 0) [ inl same ↦ absurd (omega (arith, below, same.1)) | inr other ↦ other.0 ]

-- no shard gives 0
pub no_shards : (entries shards starts : List ℕ) (row column : ℕ) → 0 ≡ row_sum_of 0 entries shards starts row column
unfolding sum_below
no_shards entries shards starts row column = refl

-- what a sum begins with: 0 where no shard was read, and else what is held
pub sum_so_far : (entries shards starts : List ℕ) (from row column value held : ℕ) → (from ≡ 0 → value ≡ 0) → (0 < from → value ≡ held)
    → (0 < from → held ≡ row_sum_of from entries shards starts row column) → value ≡ row_sum_of from entries shards starts row column
sum_so_far entries shards starts zero row column value held none some is = none refl ∙ no_shards entries shards starts row column
sum_so_far entries shards starts (suc from) row column value held none some is = some (omega arith) ∙ is (omega arith)

-- what the rows begin with
pub sums_begun : (term : ℕ → ℕ → ℕ → ℕ) (rows from : ℕ) (sums : List (List ℕ)) → length sums ≡ rows → ((row : ℕ) → row < rows → length (get_or sums row []) ≡ 32)
    → ((row lane : ℕ) → row < rows → lane < 32 → get_or (get_or sums row []) lane 0 ≡ sum_below (term row lane) from)
    → HasSums term rows 0 from sums
sums_begun term rows from sums count long begun =
    record {
      count = count;
      long = long;
      added = λ row lane below inside. absurd (omega (arith, below));
      others = λ row lane past below inside. begun row lane below inside;
    }

-- blocks of zeros
pub zeros_long : (rows row : ℕ) → row < rows → length (get_or (replicate {A = List ℕ} rows (replicate {A = ℕ} 32 0)) row []) ≡ 32
zeros_long rows row below =
    ap (λ (xs : List ℕ). length xs) (get_or-replicate rows row (replicate 32 0) [] below) ∙ length-replicate {A = ℕ} 32 0

pub zeros_are : (rows row lane : ℕ) → row < rows → lane < 32 → get_or (get_or (replicate {A = List ℕ} rows (replicate {A = ℕ} 32 0)) row []) lane 0 ≡ 0
zeros_are rows row lane below inside =
    ap (λ (xs : List ℕ). get_or xs lane 0) (get_or-replicate rows row (replicate 32 0) [] below) ∙ get_or-replicate 32 lane 0 0 inside

-- the term of one row
pub row_added : (term : ℕ → ℕ → ℕ → ℕ) (rows row j : ℕ) (sums : List (List ℕ)) (so_far product : List ℕ) → HasSums term rows row j sums
    → row < rows → so_far ≡ get_or sums row [] → length product ≡ 32
    → ((lane : ℕ) → lane < 32 → get_or product lane 0 ≡ term row lane j)
    → HasSums term rows (row + 1) j (set sums row (zip2 bit_xor so_far product))
unfolding sum_below
row_added term rows row j sums so_far product before within so_far_is long terms =
    record {
      count = length-set sums row new ∙ before.count;
      long = λ r below.
          elim (eqb_tells r row) [
            | inl same ↦ ap (λ (xs : List ℕ). length xs) (here r same.1) ∙ length-zip2 bit_xor so_far product (was_long ∙ sym long) ∙ was_long
            | inr other ↦ ap (λ (xs : List ℕ). length xs) (get_or-set_other sums row r new [] other.1) ∙ before.long r below
          ];
      added = λ r lane below lane_below.
          below_next (λ n. get_or (get_or (set sums row new) n []) lane 0 ≡ sum_below (term n lane) (j + 1)) row r below
          (λ was. ap (λ (xs : List ℕ). get_or xs lane 0) (get_or-set_other sums row r new [] (λ e. absurd (omega (arith, was, e))))
          ∙ before.added r lane was lane_below)
          (ap (λ (xs : List ℕ). get_or xs lane 0) (here row refl) ∙ one_more lane lane_below);
      others = λ r lane from below lane_below.
          ap (λ (xs : List ℕ). get_or xs lane 0) (get_or-set_other sums row r new [] (λ e. absurd (omega (arith, from, e))))
          ∙ before.others r lane (omega (arith, from)) below lane_below;
    }
  where
    new : List ℕ
    new = zip2 bit_xor so_far product

    inside : row < length sums
    inside = omega (arith, within, before.count)

    here : (r : ℕ) → r ≡ row → get_or (set sums row (zip2 bit_xor so_far product)) r [] ≡ zip2 bit_xor so_far product
    here r e = ap (λ (n : ℕ). get_or (set sums row (zip2 bit_xor so_far product)) n []) e ∙ get_or-set_same sums row (zip2 bit_xor so_far product) [] inside

    was_long : length so_far ≡ 32
    was_long = ap (λ (xs : List ℕ). length xs) so_far_is ∙ before.long row within

    one_more : (lane : ℕ) → lane < 32 → get_or (zip2 bit_xor so_far product) lane 0 ≡ sum_below (term row lane) (j + 1)
    one_more lane lane_below =
        get_or-zip2 bit_xor so_far product lane 0 0 0 (omega (arith, was_long, lane_below)) (omega (arith, long, lane_below))
        ∙ sum_more (term row lane) j (get_or so_far lane 0) (get_or product lane 0)
        (ap (λ (xs : List ℕ). get_or xs lane 0) so_far_is ∙ before.others row lane (omega arith) within lane_below) (terms lane lane_below)
