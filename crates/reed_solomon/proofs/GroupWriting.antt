-- Shards that are written group by group from a sample, and the list of the missing ones.
use Rattle.std.proofs.Common.{◌≡◌, ◌≢◌, ◌⊎◌, inl, inr, ℕ, ◌+◌, ◌-◌, ◌*◌, ◌/◌, ◌%◌, ◌<◌, ◌≤◌, Bool, true, false, List, length, get_or, set, refl, sym, ◌∙◌, ap, subst, arith}
use Rattle.std.proofs.Math.Nat.{mul-le-mul_right}
use Rattle.std.proofs.lemmas.Bool.{cases_lt, true≢false}
use Rattle.std.proofs.lemmas.List.{get_or-set_same, get_or-set_other, length-set}
use Rattle.std.proofs.lemmas.List.Sums.{count_by_more_yes, count_by_more_no}
use Rattle.field_base.specs.Basis.{sum_below}
use Rattle.field_base.specs.Interpolation.{lagrange}
use Rattle.reed_solomon.specs.ByteFields.{byte_times}
use Rattle.reed_solomon.specs.declared.byte_field.ByteField.TheVariants.{Qr}
use Rattle.reed_solomon.specs.Missing.{AreMissing}
use Rattle.reed_solomon.specs.Samples.{symbol_at}
use Rattle.reed_solomon.specs.Shards.{IsPresent, shard_byte}
use Rattle.reed_solomon.specs.Tables.{AreApart, AreWritten, HasRow, IsEntry, nibble_sum, row_sum}
use Rattle.reed_solomon.proofs.NibbleTables.{nibble_product}
use Rattle.reed_solomon.proofs.RestoredShards.{RestoresBefore, symbol_at-same}
use Rattle.reed_solomon.proofs.RowWriting.{written_at, written_by}
use Rattle.reed_solomon.proofs.Samples.{below_next}
use Rattle.reed_solomon.proofs.Writing.{apart_from}
use Rattle.field_base.proofs.BasisSums.{sum_below-same}

-- ---- entries that are set in turn

pub entry_next : (value : ℕ → ℕ) (room i entry : ℕ) (entries : List ℕ) → length entries ≡ room → i < room
    → ((n : ℕ) → n < i → get_or entries n 0 ≡ value n) → entry ≡ value i
    → (length (set entries i entry) ≡ room) × ((n : ℕ) → n < i + 1 → get_or (set entries i entry) n 0 ≡ value n)
entry_next value room i entry entries long inside before is = (
  length-set entries i entry ∙ long,
  λ n below.
      below_next (λ m. get_or (set entries i entry) m 0 ≡ value m) i n below
      (λ was. get_or-set_other entries i n entry 0 (λ e. absurd (omega (arith, was, e))) ∙ before n was)
      (get_or-set_same entries i entry 0 (omega (arith, long, inside)) ∙ is),
)

-- other names of the factors
pub row_factors : (factor other : ℕ → ℕ) (entries : List ℕ) (row count : ℕ) → HasRow factor entries row count
    → ((j : ℕ) → j < count → factor j ≡ other j) → HasRow other entries row count
row_factors factor other entries row count set same =
    λ j n within inside. subst (λ (f : ℕ). IsEntry f n (get_or entries (128 * j + 32 * row + n) 0)) (same j within) (set j n within inside)

-- one row of tables more
pub rows_set : (factors : ℕ → ℕ → ℕ) (factor : ℕ → ℕ) (row count : ℕ) (old now : List ℕ) → row < 4
    → ((r : ℕ) → r < row → HasRow (factors r) old r count) → HasRow factor now row count
    → ((j : ℕ) → j < count → factor j ≡ factors row j) → ((i : ℕ) → i / 32 % 4 ≢ row → get_or now i 0 ≡ get_or old i 0)
    → (r : ℕ) → r < row + 1 → HasRow (factors r) now r count
rows_set factors factor row count old now few before new same others r below =
    below_next (λ n. HasRow (factors n) now n count) row r below
    (λ was j n within inside.
    subst (IsEntry (factors r j) n) (sym (others (128 * j + 32 * r + n) (λ e. absurd (omega (arith, e, was, inside, few))))) (before r was j n within inside))
    (row_factors factor (factors row) now row count new same)

-- ---- a row of the tables gives the symbols of its shard

pub row_symbol : (count size : ℕ) (place : ℕ → ℕ) (entries shards starts : List ℕ) (row column target : ℕ) → length starts ≡ count
    → ((j : ℕ) → j < count → get_or starts j 0 ≡ place j * size)
    → HasRow (λ j. lagrange 8 (byte_times Qr) place count j target) entries row count → ((i : ℕ) → get_or shards i 0 < 256)
    → row_sum entries shards starts row column ≡ symbol_at count size place shards column target
row_symbol count size place entries shards starts row column target counted begun set bytes =
    ap (sum_below (λ j. nibble_sum entries (128 * j + 32 * row) (get_or shards (get_or starts j 0 + column) 0))) counted
    ∙ sum_below-same (λ j. nibble_sum entries (128 * j + 32 * row) (get_or shards (get_or starts j 0 + column) 0)) (λ j. byte_times Qr (lagrange 8 (byte_times Qr) place count j target) (shard_byte size shards (place j) column)) count
    (λ j below.
    ap (λ (p : ℕ). nibble_sum entries (128 * j + 32 * row) (get_or shards (p + column) 0)) (begun j below)
    ∙ nibble_product (λ i. lagrange 8 (byte_times Qr) place count i target) entries row count j (shard_byte size shards (place j) column)
    set below (bytes (place j * size + column)))

-- so rows that the tables give are the symbols of their shards
pub group_symbols : (count size : ℕ) (place target : ℕ → ℕ) (entries shards starts : List ℕ) (given spot : ℕ → ℕ) (rows n : ℕ) (old now : List ℕ)
    → rows ≡ n → length starts ≡ count → ((j : ℕ) → j < count → get_or starts j 0 ≡ place j * size)
    → ((row : ℕ) → row < n → given row ≡ spot row)
    → ((row : ℕ) → row < n → HasRow (λ j. lagrange 8 (byte_times Qr) place count j (target row)) entries row count)
    → ((i : ℕ) → get_or shards i 0 < 256) → AreWritten (row_sum entries shards starts) given rows size old now
    → AreWritten (λ row column. symbol_at count size place shards column (target row)) spot n size old now
group_symbols count size place target entries shards starts given spot rows n old now rows_are counted begun spots set bytes all =
    written_at (λ row column. symbol_at count size place shards column (target row)) given spot n size old now
    (written_by (row_sum entries shards starts) (λ row column. symbol_at count size place shards column (target row)) given n size old now
    (subst (λ (r : ℕ). AreWritten (row_sum entries shards starts) given r size old now) rows_are all)
    (λ row column within inside.
    row_symbol count size place entries shards starts row column (target row) counted begun (set row within) bytes))
    spots

-- the bytes of a shard lie before those of the next
pub place_inside : (size n j : ℕ) → j < n → j * size + size ≤ n * size
place_inside size n j less =
    let one_more : j + 1 ≤ n = omega (arith, less) in
    omega (arith, mul-le-mul_right size one_more)

-- shards at two places do not meet
pub apart_places : (size a b : ℕ) → a ≢ b → AreApart size (a * size) (b * size)
apart_places size a b different =
    elim (cases_lt a b) [
      | inl less ↦ inl (place_inside size b a less)
      | inr up ↦ inr (place_inside size a b (below up))
    ]
  where
    below : b ≤ a → b < a
    below up = omega (arith, up, different)

-- nor do the columns of shards
pub columns_apart : (size column width a b : ℕ) → column + width ≤ size → AreApart size (a * size) (b * size)
    → AreApart width (a * size + column) (b * size + column)
columns_apart size column width a b fits apart =
    elim apart [ inl low ↦ inl (omega (arith, low, fits)) | inr high ↦ inr (omega (arith, high, fits)) ]

-- ---- groups of shards

-- rows behind the rows that are written
pub rows_behind : (value : ℕ → ℕ → ℕ) (place : ℕ → ℕ) (width all : ℕ) → ((s t : ℕ) → s < t → t < all → AreApart width (place t) (place s))
    → (reached done n next : ℕ) (old mid now : List ℕ) → reached ≡ done → next ≡ done + n → done + n ≤ all
    → AreWritten value place reached width old mid → AreWritten (λ row column. value (done + row) column) (λ row. place (done + row)) n width mid now
    → AreWritten value place next width old now
rows_behind value place width all apart reached done n next old mid now reached_is next_is fits before more =
    record {
      long = more.long ∙ before.long;
      written = λ t column below inside.
          elim (cases_lt t done) [
            | inl early ↦ more.others (place t + column) (λ r within. beside t column r inside early within)
                ∙ before.written t column (omega (arith, early, reached_is)) inside
            | inr late ↦ last t column below inside late
          ];
      others = λ i outside.
          more.others i (λ r within. outside (done + r) (omega (arith, within, next_is)))
          ∙ before.others i (λ t below. outside t (omega (arith, below, next_is, reached_is)));
    }
  where
    beside : (t column r : ℕ) → column < width → t < done → r < n
        → (place t + column < place (done + r)) ⊎ (place (done + r) + width ≤ place t + column)
    beside t column r inside early within =
        elim (apart t (done + r) (omega (arith, early)) (omega (arith, within, fits))) [
          | inl low ↦ inr (omega (arith, low))
          | inr high ↦ inl (omega (arith, high, inside))
        ]

    last : (t column : ℕ) → t < next → column < width → done ≤ t → get_or now (place t + column) 0 ≡ value t column
    last t column below inside late =
        let back : done + (t - done) ≡ t = omega (arith, late) in
        subst (λ (m : ℕ). get_or now (place m + column) 0 ≡ value m column) back
        (more.written (t - done) column (omega (arith, late, below, next_is)) inside)

-- whole shards behind those that are written
pub rows_joined : (value : ℕ → ℕ → ℕ) (spot : ℕ → ℕ) (size all : ℕ) → ((s t : ℕ) → s < t → t < all → spot t ≢ spot s)
    → (reached done n next : ℕ) (old mid now : List ℕ) → reached ≡ done → next ≡ done + n → done + n ≤ all
    → AreWritten value (λ t. spot t * size) reached size old mid
    → AreWritten (λ row column. value (done + row) column) (λ row. spot (done + row) * size) n size mid now
    → AreWritten value (λ t. spot t * size) next size old now
rows_joined value spot size all distinct =
    rows_behind value (λ t. spot t * size) size all (λ s t less below. apart_places size (spot t) (spot s) (distinct s t less below))

-- columns of shards behind those of the shards before them
pub columns_behind : (value : ℕ → ℕ → ℕ) (size column width all : ℕ) → column + width ≤ size
    → (reached done n next : ℕ) (old mid now : List ℕ) → reached ≡ done → next ≡ done + n → done + n ≤ all
    → AreWritten value (λ t. t * size + column) reached width old mid
    → AreWritten (λ row c. value (done + row) c) (λ row. (done + row) * size + column) n width mid now
    → AreWritten value (λ t. t * size + column) next width old now
columns_behind value size column width all fits =
    rows_behind value (λ t. t * size + column) width all
    (λ s t less below. columns_apart size column width t s fits (apart_places size t s (λ e. absurd (omega (arith, less, e)))))

module _ (count size : ℕ) (place target : ℕ → ℕ) (all : ℕ)
    (apart : (j t : ℕ) → j < count → t < all → place j ≢ target t) (distinct : (s t : ℕ) → s < t → t < all → target t ≢ target s) where
  -- where they are written among the shards of the sample, which stay as they are
  pub group_written : (reached done n next : ℕ) (old mid now : List ℕ) → reached ≡ done → next ≡ done + n → done + n ≤ all
      → AreWritten (λ t column. symbol_at count size place old column (target t)) (λ t. target t * size) reached size old mid
      → AreWritten (λ row column. symbol_at count size place mid column (target (done + row))) (λ row. target (done + row) * size) n size mid now
      → AreWritten (λ t column. symbol_at count size place old column (target t)) (λ t. target t * size) next size old now
  group_written reached done n next old mid now reached_is next_is fits before more =
      rows_joined (λ t column. symbol_at count size place old column (target t)) target size all distinct reached done n next old mid now reached_is
      next_is fits before
      (written_by (λ row column. symbol_at count size place mid column (target (done + row)))
      (λ row column. symbol_at count size place old column (target (done + row))) (λ row. target (done + row) * size) n size mid now more
      (λ row column within inside.
      symbol_at-same count size place old mid column (target (done + row)) (λ j j_below. read column j inside j_below)))
    where
      read : (column j : ℕ) → column < size → j < count → shard_byte size mid (place j) column ≡ shard_byte size old (place j) column
      read column j inside below =
          before.others (place j * size + column)
          (λ t within. apart_from size (target t) (place j) column size inside (omega arith)
          (apart j t below (omega (arith, within, fits, reached_is))))

-- ---- the missing shards

pub no_missing : (present : List Bool) (places : List ℕ) → AreMissing present 0 places 0
no_missing present places =
    record {
      inside = λ t below. absurd (omega (arith, below));
      absent = λ t below. absurd (omega (arith, below));
      rising = λ s t less below. absurd (omega (arith, below));
      covers = λ i below. absurd (omega (arith, below));
      counted = refl;
    }

module _ (present : List Bool) (i : ℕ) (places : List ℕ) (count : ℕ) (before : AreMissing present i places count) (within : i < length present) where
  -- the shard is at hand
  pub missing-present : get_or present i false ≡ true → AreMissing present (i + 1) places count
  missing-present here =
      record {
        inside = λ t below. let was = before.inside t below in omega (arith, was);
        absent = before.absent;
        rising = before.rising;
        covers = λ n below.
            below_next (λ m. (IsPresent present m → ⊥) → (t : ℕ) × (t < count) × (get_or places t 0 ≡ m)) i n below
            (before.covers n) (λ absent. absurd (absent here));
        counted =
            let was = before.counted in
            let more = count_by_more_yes (λ is_present. is_present) present i false within here in
            omega (arith, was, more);
      }

  -- the shard is missing
  pub missing-taken : get_or present i false ≡ false → count < length places → AreMissing present (i + 1) (set places count i) (count + 1)
  missing-taken absent room =
      record {
        inside = λ t below.
            below_next (λ n. get_or (set places count i) n 0 < i + 1) count t below
            (λ was. subst (λ (p : ℕ). p < i + 1) (sym (old t was)) (let less = before.inside t was in omega (arith, less)))
            (subst (λ (p : ℕ). p < i + 1) (sym new) (omega arith));
        absent = λ t below.
            below_next (λ n. IsPresent present (get_or (set places count i) n 0) → ⊥) count t below
            (λ was. subst (λ (p : ℕ). IsPresent present p → ⊥) (sym (old t was)) (before.absent t was))
            (subst (λ (p : ℕ). IsPresent present p → ⊥) (sym new) (λ here. absurd (true≢false (sym here ∙ absent))));
        rising = λ s t less below.
            below_next (λ n. s < n → get_or (set places count i) s 0 < get_or (set places count i) n 0) count t below
            (λ was s_less. subst (λ (p : ℕ). p < get_or (set places count i) t 0) (sym (old s (omega (arith, s_less, was))))
            (subst (λ (p : ℕ). get_or places s 0 < p) (sym (old t was)) (before.rising s t s_less was)))
            (λ s_less. subst (λ (p : ℕ). p < get_or (set places count i) count 0) (sym (old s s_less))
            (subst (λ (p : ℕ). get_or places s 0 < p) (sym new) (before.inside s s_less)))
            less;
        covers = λ n below.
            below_next (λ m. (IsPresent present m → ⊥) → (t : ℕ) × (t < count + 1) × (get_or (set places count i) t 0 ≡ m)) i n below
            (λ was missing. let found = before.covers n was missing in (found.0, omega (arith, found.1), old found.0 found.1 ∙ found.2))
            (λ missing. (count, omega arith, new));
        counted =
            let was = before.counted in
            let more = count_by_more_no (λ is_present. is_present) present i false within absent in
            omega (arith, was, more);
      }
    where
      old : (t : ℕ) → t < count → get_or (set places count i) t 0 ≡ get_or places t 0
      old t was = get_or-set_other places count t i 0 (λ e. absurd (omega (arith, was, e)))

      new : get_or (set places count i) count 0 ≡ i
      new = get_or-set_same places count i 0 room

-- shards at hand, and those from shard `until` on, stay where only missing ones before it are written
pub missing_kept : (size until missing : ℕ) (present : List Bool) (targets old now : List ℕ) → AreMissing present until targets missing
    → ((i : ℕ) → ((t : ℕ) → t < missing → (i < get_or targets t 0 * size) ⊎ (get_or targets t 0 * size + size ≤ i)) → get_or now i 0 ≡ get_or old i 0)
    → (i column : ℕ) → column < size → (IsPresent present i) ⊎ (until ≤ i) → shard_byte size now i column ≡ shard_byte size old i column
missing_kept size until missing present targets old now list others i column inside why =
    others (i * size + column) (λ t within. apart_from size (get_or targets t 0) i column size inside (omega arith) (different t within))
  where
    different : (t : ℕ) → t < missing → i ≢ get_or targets t 0
    different t within =
        λ e. elim why [
          | inl here ↦ list.absent t within (subst (IsPresent present) e here)
          | inr past ↦ let less = list.inside t within in absurd (omega (arith, past, e, less))
        ]

-- what is written over the missing shards restores them
pub missing_written : (total size count until missing : ℕ) (place : ℕ → ℕ) (present : List Bool) (targets old now : List ℕ)
    → AreMissing present until targets missing
    → AreWritten (λ t column. symbol_at count size place old column (get_or targets t 0)) (λ t. get_or targets t 0 * size) missing size old now
    → RestoresBefore total size count place present old until now
missing_written total size count until missing place present targets old now list all =
    record {
      long = all.long;
      missing = λ i column below inside absent.
          let found = list.covers i below absent in
          subst (λ (n : ℕ). shard_byte size now n column ≡ symbol_at count size place old column n) found.2 (all.written found.0 column found.1 inside);
      others = λ i column below inside why. missing_kept size until missing present targets old now list all.others i column inside why;
    }
