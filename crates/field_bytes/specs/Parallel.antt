-- What streams of bytes side by side give: each item is a row, with one entry a stream.
use Rattle.std.specs.Prelude.{◌≡◌, ℕ, suc, ◌+◌, ◌*◌, ◌<◌, true, false, List, ◌∷◌, ◌++◌, length, map, slice_index, MatchOption}
use Rattle.std.specs.declared.option.Option.{Option}
use Rattle.std.specs.declared.option.Option.TheVariants.{None, Some}
use Rattle.std.specs.Iterator.{Count, Drains, Yields, count_map}
use Rattle.field_bytes.specs.declared.parallel.ParallelByteStreams.{ParallelByteStreams}
use Rattle.field_bytes.specs.Streams.{GivesFirst, HasEnded, HasTaken, IsWithin, bytes_pending, joined_bytes}

-- the representation of entry j of a row of elements
abbrev pub entry_of_row : {E : Type 0} → (E → ℕ) → ℕ → List E → ℕ
entry_of_row repr j row = slice_index (map repr row) j

-- In each of `width` streams, of the bytes of the row's element after the first `given`, the first is the row's byte, and the
-- others are those that are pending afterwards.
abbrev pub GivesFirstRow : {E : Type 0} → ℕ → ℕ → (E → ℕ) → List E → ℕ → List ℕ → Option (List E) → ℕ → Type 0
GivesFirstRow width size repr row given bytes after given_then =
    (j : ℕ) → j < width → GivesFirst size (entry_of_row repr j) (Some row) given (slice_index bytes j) after given_then

-- a call is allowed where one of the source is, or the end of the source was seen
abbrev pub can_give_rows : {S E : Type 0} {width : ℕ} → (S → Type 0) → ℕ → ParallelByteStreams S E width → Type 0
can_give_rows can_next size s = (s.ended ≡ false → can_next s.elements) × IsWithin size s.pending s.given

-- streams that have taken nothing of their source
abbrev pub AreBeforeAll : {S E : Type 0} {width : ℕ} → S → ParallelByteStreams S E width → Type 0
AreBeforeAll elements s = (s.elements ≡ elements) × (s.pending ≡ None) × (s.given ≡ 0) × (s.ended ≡ false)

-- how many rows of bytes are pending
abbrev pub rows_pending : {E : Type 0} → ℕ → Option (List E) → ℕ → ℕ
rows_pending size pending given = length (bytes_pending size (λ row. 0) pending given)

module _ {S E : Type 0} (next_gives : S → Option (List E) → S → Type 0) (width size : ℕ) (repr : E → ℕ) where
  -- A call from s took some rows of the source. In each of the `width` streams, the bytes that were pending, and those of the
  -- elements of these rows, are the byte that was given and the bytes that are pending then; the rows are counted beside, for no
  -- streams too. No row comes only where none is pending and the source has ended: from then on none comes.
  abbrev pub GivesRow : ParallelByteStreams S E width → Option (List ℕ) → ParallelByteStreams S E width → Type 0
  GivesRow s r t = MatchOption r
      ((s.pending ≡ None) × (t.pending ≡ None) × (t.ended ≡ true) × HasEnded next_gives s.ended s.elements t.elements)
      (λ bytes. (taken : List (List E)) × HasTaken next_gives s.ended s.elements taken t.elements
      × ((j : ℕ) → j < width → bytes_pending size (entry_of_row repr j) s.pending s.given ++ joined_bytes size (entry_of_row repr j) taken
      ≡ slice_index bytes j ∷ bytes_pending size (entry_of_row repr j) t.pending t.given)
      × (rows_pending size s.pending s.given + size * length taken ≡ suc (rows_pending size t.pending t.given)) × (t.ended ≡ s.ended))

-- at most `size` rows of bytes for each row that is left in the source, and those that are pending
abbrev pub row_count : {S E : Type 0} {width : ℕ} → (S → Count) → ℕ → ParallelByteStreams S E width → Count
row_count remaining size s = count_map (λ n. n * size + rows_pending size s.pending s.given) (remaining s.elements)

-- there are `size` rows of bytes for each row of elements, and in each of the `width` streams the bytes of the rows are those of the
-- elements of that stream, one after the other
abbrev pub AreJoinedRows : {E : Type 0} → ℕ → ℕ → (E → ℕ) → List (List E) → List (List ℕ) → Type 0
AreJoinedRows width size repr elements rows =
    (length rows ≡ size * length elements)
    × ((j : ℕ) → j < width → map (λ row. slice_index row j) rows ≡ joined_bytes size (entry_of_row repr j) elements)

-- a whole run of the streams gives the rows of bytes of all rows of elements that a whole run of their source gives
abbrev pub StreamsByteRows : {S E : Type 0} {width : ℕ} → (S → Option (List E) → S → Type 0) → ℕ → (E → ℕ) → S → ParallelByteStreams S E width → Type 0
StreamsByteRows {E = E} {width = width} next_gives size repr elements streams =
    (rows : List (List ℕ)) → Drains (GivesRow next_gives width size repr) streams rows
    → (given : List (List E)) × Drains next_gives elements given × AreJoinedRows width size repr given rows

-- a run of the streams that is cut short, where they stand at t, gives the rows of bytes of the rows of elements that were taken, but
-- for those that are pending
abbrev pub BeginsByteRows : {S E : Type 0} {width : ℕ} → (S → Option (List E) → S → Type 0) → ℕ → (E → ℕ) → S
    → ParallelByteStreams S E width → Type 0
BeginsByteRows {S} {E} {width} next_gives size repr elements streams =
    (rows : List (List ℕ)) (t : ParallelByteStreams S E width) → Yields (GivesRow next_gives width size repr) streams rows t
    → (given : List (List E)) × Yields next_gives elements given t.elements
    × (length rows + rows_pending size t.pending t.given ≡ size * length given)
    × ((j : ℕ) → j < width
    → map (λ row. slice_index row j) rows ++ bytes_pending size (entry_of_row repr j) t.pending t.given
    ≡ joined_bytes size (entry_of_row repr j) given)
