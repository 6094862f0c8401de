-- Tables of parity that are kept: four rows after four rows.
use Rattle.std.proofs.Common.{◌≡◌, inl, inr, ℕ, ◌+◌, ◌-◌, ◌*◌, ◌/◌, ◌%◌, ◌^◌, ◌<◌, ◌≤◌, ◌++◌, List, length, get_or, take, drop, min, sym, ◌∙◌, ap, subst, arith}
use Rattle.std.proofs.Math.Nat.{mul-le-mul_left}
use Rattle.std.proofs.lemmas.Bool.{cases_lt}
use Rattle.std.proofs.lemmas.List.{get_or-append-add, get_or-drop, get_or-take, get_or_append_left, length-append, length-take-le, take_rest}
use Rattle.reed_solomon.specs.Parity.{parity_symbol, tables_length}
use Rattle.reed_solomon.specs.Tables.{AreWritten, HasRow, HaveRows, IsEntry}
use Rattle.reed_solomon.proofs.GroupWriting.{columns_behind}

-- how many of m rows come before group `group` of four
abbrev pub rows_before : ℕ → ℕ → ℕ
rows_before m group = min m (4 * group)

-- the tables of the rows before a group
pub record AreTablesBefore (factor : ℕ → ℕ → ℕ) (k m group : ℕ) (tables : List ℕ) : Type 0 where
  pub long : length tables ≡ 128 * k * group
  pub rows : HaveRows factor k (rows_before m group) tables

-- a row reads the entries of its shards alone
row-same : (factor : ℕ → ℕ) (entries other : List ℕ) (row k : ℕ) → row < 4
    → ((i : ℕ) → i < 128 * k → get_or entries i 0 ≡ get_or other i 0) → HasRow factor entries row k → HasRow factor other row k
row-same factor entries other row k few same set j n within inside =
    subst (IsEntry (factor j) n) (same (128 * j + 32 * row + n) (omega (arith, few, within, inside))) (set j n within inside)

-- the tables of a group are put behind those of the groups before it
pub tables_more : (factor : ℕ → ℕ → ℕ) (k m group count : ℕ) (tables entries part : List ℕ) → AreTablesBefore factor k m group tables → group < (m + 3) / 4
    → part ≡ take (128 * k) entries → 128 * k ≤ length entries → count ≡ min (m - 4 * group) 4
    → ((row : ℕ) → row < count → HasRow (factor (4 * group + row)) entries row k)
    → AreTablesBefore factor k m (group + 1) (tables ++ part)
tables_more factor k m group count tables entries part before within part_is room count_is set =
    record {
      long = longer;
      rows = λ t below.
          elim (cases_lt t (4 * group)) [
            | inl early ↦ old t early
            | inr late ↦ new t late below
          ];
    }
  where
    part_long : length part ≡ 128 * k
    part_long = ap (λ (l : List ℕ). length l) part_is ∙ length-take-le (128 * k) entries room

    longer : length (tables ++ part) ≡ 128 * k * (group + 1)
    longer =
        let both = length-append tables part in
        let was = before.long in
        omega (arith, both, was, part_long)

    old : (t : ℕ) → t < 4 * group → HasRow (factor t) (drop (128 * k * (t / 4)) (tables ++ part)) (t % 4) k
    old t early =
        let inside : t / 4 + 1 ≤ group = omega (arith, early) in
        let fits = mul-le-mul_left (128 * k) inside in
        let was = before.long in
        row-same (factor t) (drop (128 * k * (t / 4)) tables) (drop (128 * k * (t / 4)) (tables ++ part)) (t % 4) k (omega arith)
        (λ i below.
        get_or-drop (128 * k * (t / 4)) tables i 0
        ∙ sym (get_or_append_left tables part 0 (128 * k * (t / 4) + i) (omega (arith, below, fits, was)))
        ∙ sym (get_or-drop (128 * k * (t / 4)) (tables ++ part) i 0))
        (before.rows t (omega (arith, early, within)))

    new : (t : ℕ) → 4 * group ≤ t → t < rows_before m (group + 1) → HasRow (factor t) (drop (128 * k * (t / 4)) (tables ++ part)) (t % 4) k
    new t late below =
        let of_group : t / 4 ≡ group = omega (arith, late, below) in
        let row_is : t - 4 * group ≡ t % 4 = omega (arith, late, below) in
        let back : 4 * group + (t - 4 * group) ≡ t = omega (arith, late) in
        let inside : t - 4 * group < count = omega (arith, late, below, count_is) in
        row-same (factor t) entries (drop (128 * k * (t / 4)) (tables ++ part)) (t % 4) k (omega arith)
        (λ i i_below.
        sym (get_or-take (128 * k) entries i 0 i_below)
        ∙ ap (λ (l : List ℕ). get_or l i 0) (sym part_is)
        ∙ sym (get_or-append-add tables part i 0)
        ∙ ap (λ (n : ℕ). get_or (tables ++ part) (n + i) 0) (before.long ∙ ap (λ (g : ℕ). 128 * k * g) (sym of_group))
        ∙ sym (get_or-drop (128 * k * (t / 4)) (tables ++ part) i 0))
        (subst (λ (n : ℕ). HasRow (factor n) entries (t % 4) k) back
        (subst (λ (r : ℕ). HasRow (factor (4 * group + (t - 4 * group))) entries r k) row_is (set (t - 4 * group) inside)))

-- after the last group there are all
pub tables_whole : (factor : ℕ → ℕ → ℕ) (k m group : ℕ) (tables : List ℕ) → (m + 3) / 4 ≤ group
    → AreTablesBefore factor k m group (take (128 * k * group) tables) → HaveRows factor k m tables
tables_whole factor k m group tables end before t below =
    row-same (factor t) (drop (128 * k * (t / 4)) (take (128 * k * group) tables)) (drop (128 * k * (t / 4)) tables) (t % 4) k (omega arith)
    (λ i less.
    get_or-drop (128 * k * (t / 4)) (take (128 * k * group) tables) i 0
    ∙ get_or-take (128 * k * group) tables (128 * k * (t / 4) + i) 0 (within i less)
    ∙ sym (get_or-drop (128 * k * (t / 4)) tables i 0))
    (before.rows t (omega (arith, below, end)))
  where
    within : (i : ℕ) → i < 128 * k → 128 * k * (t / 4) + i < 128 * k * group
    within i less =
        let inside : t / 4 + 1 ≤ group = omega (arith, below, end) in
        let fits = mul-le-mul_left (128 * k) inside in
        omega (arith, fits, less)

-- no group yet
pub no_tables : (factor : ℕ → ℕ → ℕ) (k m : ℕ) (tables : List ℕ) → length tables ≡ 0 → AreTablesBefore factor k m 0 tables
no_tables factor k m tables none = record { long = omega (arith, none); rows = λ t below. absurd (omega (arith, below)) }

-- ---- where the tables of a group and of a row begin

-- all tables are few bytes
pub tables_small : (k m : ℕ) → k + m ≤ 256 → 128 * k * ((m + 3) / 4) ≤ 2 ^ 21
tables_small k m few =
    let groups : (m + 3) / 4 ≤ 64 = omega (arith, few) in
    let fits = mul-le-mul_left (128 * k) groups in
    omega (arith, fits, few)

-- the tables of a group lie within all tables, which may be followed by others
pub rows_room : (k m group : ℕ) (tables : List ℕ) → tables_length k m ≤ length tables → group < (m + 3) / 4
    → 128 * k * group + 128 * k ≤ length tables
rows_room k m group tables long within =
    let one_more : group + 1 ≤ (m + 3) / 4 = omega (arith, within) in
    let fits = mul-le-mul_left (128 * k) one_more in
    omega (arith, fits, long)

pub tables_room : (k m group : ℕ) (tables : List ℕ) → length tables ≡ tables_length k m → group < (m + 3) / 4
    → 128 * k * group + 128 * k ≤ length tables
tables_room k m group tables long = rows_room k m group tables (omega (arith, long))

-- fewer rows take less
pub tables_fewer : (k few m : ℕ) → few ≤ m → tables_length k few ≤ tables_length k m
tables_fewer k few m fits =
    let groups : (few + 3) / 4 ≤ (m + 3) / 4 = omega (arith, fits) in
    mul-le-mul_left (128 * k) groups

-- ---- what the tables are used for

-- those of a group
pub tables_of : (factor : ℕ → ℕ → ℕ) (k m : ℕ) (tables : List ℕ) → HaveRows factor k m tables → (group row : ℕ) → row < 4 → 4 * group + row < m
    → HasRow (factor (4 * group + row)) (drop (128 * k * group) tables) row k
tables_of factor k m tables all group row few inside =
    let of_group : (4 * group + row) / 4 ≡ group = omega (arith, few) in
    let row_is : (4 * group + row) % 4 ≡ row = omega (arith, few) in
    subst (λ (g : ℕ). HasRow (factor (4 * group + row)) (drop (128 * k * g) tables) row k) of_group
    (subst (λ (r : ℕ). HasRow (factor (4 * group + row)) (drop (128 * k * ((4 * group + row) / 4)) tables) r k) row_is
    (all (4 * group + row) inside))

-- from where they begin in all tables
pub group_tables : (factor : ℕ → ℕ → ℕ) (k m group count : ℕ) (tables : List ℕ) → HaveRows factor k m tables → count ≡ min (m - 4 * group) 4
    → (row : ℕ) → row < count
    → HasRow (factor (4 * group + row)) (take (length tables - 128 * k * group) (drop (128 * k * group) tables)) row k
group_tables factor k m group count tables all count_is row within =
    subst (λ (l : List ℕ). HasRow (factor (4 * group + row)) l row k) (sym (take_rest tables (128 * k * group)))
    (tables_of factor k m tables all group row (omega (arith, within, count_is)) (omega (arith, within, count_is)))

-- the rows of a group are among all
pub group_within : (m group count : ℕ) → group < (m + 3) / 4 → count ≡ min (m - 4 * group) 4
    → (4 * group + count ≤ m) × (rows_before m (group + 1) ≡ 4 * group + count) × (rows_before m group ≡ 4 * group)
group_within m group count inside count_is =
    (omega (arith, inside, count_is), omega (arith, inside, count_is), omega (arith, inside))

-- columns of a group of rows more
pub groups_joined : (k m size column width group count : ℕ) (shards old mid now : List ℕ) → column + width ≤ size → group < (m + 3) / 4
    → count ≡ min (m - 4 * group) 4
    → AreWritten (λ t c. parity_symbol k size shards t (column + c)) (λ t. t * size + column) (rows_before m group) width old mid
    → AreWritten (λ row c. parity_symbol k size shards (4 * group + row) (column + c)) (λ row. (4 * group + row) * size + column) count width mid now
    → AreWritten (λ t c. parity_symbol k size shards t (column + c)) (λ t. t * size + column) (rows_before m (group + 1)) width old now
groups_joined k m size column width group count shards old mid now fits within count_is before more =
    columns_behind (λ t c. parity_symbol k size shards t (column + c)) size column width m fits (rows_before m group) (4 * group) count
    (rows_before m (group + 1)) old mid now (omega (arith, within)) (omega (arith, within, count_is)) (omega (arith, within, count_is)) before more
