-- Streams side by side: what holds in each column of their rows.
use Rattle.std.proofs.Common.{◌≡◌, ℕ, ◌+◌, ◌*◌, ◌^◌, ◌<◌, ◌≤◌, refl, sym, ◌∙◌, ap, ap₂, arith, inl, inr, false, suc, List, [], ◌∷◌, ◌++◌, length, map, get_or, replicate, set, ◌⊎◌, slice_index, subst, Option, Some, None}
use Rattle.std.specs.Iterator.{Drains, Yields}
use Rattle.std.proofs.lemmas.List.{append-nil, get_or-map, get_or-replicate, get_or-set_other, get_or-set_same, length-append, length-map, length-replicate, length-set, map-append}
use Rattle.std.proofs.lemmas.Bool.{cases_lt}
use native.Mathlib.Nat.{mul-add, mul-zero}
use Rattle.field_bytes.specs.declared.parallel.ParallelByteStreams.{ParallelByteStreams}
use Rattle.field_base.specs.Chunks.{joined}
use Rattle.field_bytes.specs.Bytes.{number_of_bytes}
use Rattle.field_bytes.specs.Parallel.{AreJoinedRows, GivesRow, entry_of_row, rows_pending}
use Rattle.field_bytes.specs.Streams.{GivesFirst, IsWithin, bytes_pending, joined_bytes}
use Rattle.field_bytes.specs.Words.{IsWordRow}
use Rattle.field_bytes.proofs.Streaming.{bytes_on, first_bytes, length-joined, none_taken, nothing_pending, one_taken, source_ends}
use Rattle.field_bytes.proofs.Taking.{number-more, yields_append, yields_more}
use Rattle.field_base.proofs.ChunkLists.{more-lt}

-- a number with a byte more
pub byte_fits : (i b number more : ℕ) → b < 2 ^ 8 → number < 2 ^ (8 * i) → more ≡ b * 2 ^ (8 * i) + number → more < 2 ^ (8 * (i + 1))
byte_fits i b number more fits below is = more-lt 8 i more b number below fits is

-- ---- rows of bytes

-- one entry more
pub entry_put : (f : ℕ → ℕ) (xs : List ℕ) (j v : ℕ) → j < length xs → v ≡ f j → ((k : ℕ) → k < j → slice_index xs k ≡ f k)
    → (k : ℕ) → k < j + 1 → slice_index (set xs j v) k ≡ f k
entry_put f xs j v within is before k less = by_place (cases_lt k j)
  where
    by_place : (k < j) ⊎ (j ≤ k) → slice_index (set xs j v) k ≡ f k
    by_place (inl earlier) = get_or-set_other xs j k v 0 (λ same. absurd (omega (arith, same, earlier))) ∙ before k earlier
    by_place (inr last) =
        let same : k ≡ j = omega (arith, last, less) in
        ap (λ (i : ℕ). slice_index (set xs j v) i) same ∙ get_or-set_same xs j v 0 within ∙ is ∙ sym (ap f same)

-- one more word put into a row of words, of whose numbers P holds place by place
pub word_put : {W : Type 0} (number : W → ℕ) (P : ℕ → ℕ → Type 0) (xs : List W) (j : ℕ) (v : W) → j < length xs → P j (number v)
    → ((k : ℕ) → k < j → P k (slice_index (map number xs) k)) → (k : ℕ) → k < j + 1 → P k (slice_index (map number (set xs j v)) k)
word_put {W} number P xs j v within is before k less = by_place (cases_lt k j)
  where
    at : (ys : List W) → length ys ≡ length xs → slice_index (map number ys) k ≡ number (get_or ys k v)
    at ys long = get_or-map number ys k v 0 (omega (arith, long, less, within))

    long : length (set xs j v) ≡ length xs
    long = length-set xs j v

    by_place : (k < j) ⊎ (j ≤ k) → P k (slice_index (map number (set xs j v)) k)
    by_place (inl earlier) =
        subst (P k)
        (at xs refl ∙ ap number (sym (get_or-set_other xs j k v v (λ same. absurd (omega (arith, same, earlier))))) ∙ sym (at (set xs j v) long))
        (before k earlier)
    by_place (inr last) =
        let same : j ≡ k = omega (arith, last, less) in
        subst (P k) (ap number (sym (ap (λ (i : ℕ). get_or (set xs j v) i v) (sym same) ∙ get_or-set_same xs j v v within)) ∙ sym (at (set xs j v) long))
        (subst (λ i. P i (number v)) same is)

-- the number of an entry of a row is the entry of the numbers
pub word_at : {W : Type 0} (number : W → ℕ) (xs : List W) (j : ℕ) (x : W) → j < length xs → number (get_or xs j x) ≡ slice_index (map number xs) j
word_at number xs j x within = sym (get_or-map number xs j x 0 within)

-- each entry of a row of zeros is 0
pub zero_row : {W : Type 0} (number : W → ℕ) (n : ℕ) (z : W) → number z ≡ 0 → (j : ℕ) → j < n → slice_index (map number (replicate n z)) j ≡ 0
zero_row number n z none j within =
    let long : length (replicate n z) ≡ n = length-replicate n z in
    get_or-map number (replicate n z) j z 0 (omega (arith, long, within)) ∙ ap number (get_or-replicate n j z z within) ∙ none

module _ {S E : Type 0} {width : ℕ} (next_gives : S → Option (List E) → S → Type 0) (size : ℕ) (repr : E → ℕ) where
  -- the bytes that are pending in stream j
  abbrev pending_in : ℕ → ParallelByteStreams S E width → List ℕ
  pending_in j s = bytes_pending size (entry_of_row repr j) s.pending s.given

  -- the bytes that come first of a row, in each column
  abbrev FirstOf : List E → ℕ → List ℕ → ParallelByteStreams S E width → Type 0
  FirstOf row given bytes t =
      (j : ℕ) → j < width → bytes_pending size (entry_of_row repr j) (Some row) given ≡ slice_index bytes j ∷ pending_in j t

  -- one row of bytes fewer is pending
  abbrev FewerRows : List E → ℕ → ParallelByteStreams S E width → Type 0
  FewerRows row given t = GivesFirst size (λ r. 0) (Some row) given 0 t.pending t.given

  -- where no row is pending, a call takes a row of the source, and gives its first byte in each stream
  pub row_taken : (s t : ParallelByteStreams S E width) (next : S) (row : List E) (bytes : List ℕ) → s.pending ≡ None → IsWithin size s.pending s.given
      → s.ended ≡ false → next_gives s.elements (Some row) next → t.elements ≡ next → FirstOf row s.given bytes t → FewerRows row s.given t
      → t.ended ≡ s.ended → GivesRow next_gives width size repr s (Some bytes) t
  row_taken s t next row bytes none within goes step same left fewer kept =
      let all = first_bytes size (λ (r : List E). 0) s.pending s.given row _ none within fewer in
      let counted = sym (length-append (bytes_pending size (λ (r : List E). 0) s.pending s.given) (joined_bytes size (λ (r : List E). 0) (row ∷ []))) ∙ ap length all in
      let one = length-joined size (λ (r : List E). 0) (row ∷ []) in (
        row ∷ [],
        one_taken next_gives s.ended s.elements next t.elements row goes step same,
        (λ j stream. first_bytes size (entry_of_row repr j) s.pending s.given row _ none within (left j stream)),
        ap (λ (n : ℕ). rows_pending size s.pending s.given + n) (sym one) ∙ counted,
        kept,
      )

  -- where a row is pending, a call gives its next byte in each stream
  pub row_begun : (s t : ParallelByteStreams S E width) (row : List E) (bytes : List ℕ) → s.pending ≡ Some row → t.elements ≡ s.elements
      → FirstOf row s.given bytes t → FewerRows row s.given t → t.ended ≡ s.ended → GivesRow next_gives width size repr s (Some bytes) t
  row_begun s t row bytes is same left fewer kept =
      let counted = ap length (ap (λ p. bytes_pending size (λ (r : List E). 0) p s.given) is ∙ fewer) in
      let none = mul-zero size in (
        [],
        none_taken next_gives s.ended s.elements t.elements same,
        (λ j stream. append-nil (pending_in j s) ∙ ap (λ p. bytes_pending size (entry_of_row repr j) p s.given) is ∙ left j stream),
        omega (arith, counted, none),
        kept,
      )

  -- the bytes that some calls gave in each stream, and those then pending, are those pending before and those of the rows taken
  run_gives : (s : ParallelByteStreams S E width) (rows : List (List ℕ)) (t : ParallelByteStreams S E width) → Yields (GivesRow next_gives width size repr) s rows t
      → (taken : List (List E)) × Yields next_gives s.elements taken t.elements
      × ((j : ℕ) → j < width → pending_in j s ++ joined_bytes size (entry_of_row repr j) taken ≡ map (λ row. slice_index row j) rows ++ pending_in j t)
      × (rows_pending size s.pending s.given + size * length taken ≡ length rows + rows_pending size t.pending t.given) × (t.ended ≡ s.ended)
  run_gives s [] t same =
      let none = mul-zero size in
      let counted = ap (λ (x : ParallelByteStreams S E width). rows_pending size x.pending x.given) same in (
        [],
        ap (λ (x : ParallelByteStreams S E width). x.elements) same,
        (λ j stream. append-nil (pending_in j s) ∙ ap (pending_in j) same),
        omega (arith, none, counted),
        ap (λ (x : ParallelByteStreams S E width). x.ended) (sym same),
      )
  run_gives s (row ∷ rows) t run =
      let step = run.1 in
      let others = run_gives run.0 rows t run.2 in
      let both = length-append step.0 others.0 in
      let product = mul-add size (length step.0) (length others.0) in
      let more = ap (λ (n : ℕ). size * n) both in
      let first = step.3 in
      let later = others.3 in (
        step.0 ++ others.0,
        yields_append next_gives step.0 others.0 s.elements run.0.elements t.elements step.1.1 others.1,
        (λ j stream.
            bytes_on size (entry_of_row repr j) (pending_in j s) (pending_in j run.0) step.0 others.0 (slice_index row j) (map (λ r. slice_index r j) rows) (pending_in j t)
            (step.2 j stream) (others.2 j stream)),
        omega (arith, more, product, first, later),
        others.4 ∙ step.4,
      )

  -- streams that begin give the bytes of all elements of their source
  pub rows_given : (s : ParallelByteStreams S E width) (rows : List (List ℕ)) → s.pending ≡ None → s.ended ≡ false → Drains (GivesRow next_gives width size repr) s rows
      → (elements : List (List E)) × Drains next_gives s.elements elements × AreJoinedRows width size repr elements rows
  rows_given s rows begins goes run =
      let u = run.0 in
      let t = run.1.0 in
      let end = run.1.2 in
      let given = run_gives s rows t run.1.1 in
      let before = ap length (nothing_pending size (λ (r : List E). 0) s.pending s.given begins) in
      let after = ap length (nothing_pending size (λ (r : List E). 0) t.pending t.given end.0) in
      let counted = given.3 in (
        given.0,
        (u.elements, (t.elements, given.1, source_ends next_gives t.ended t.elements u.elements (given.4 ∙ goes) end.3)),
        (
          omega (arith, before, after, counted),
          (λ j stream.
              sym (append-nil (map (λ r. slice_index r j) rows))
              ∙ ap (λ ys. map (λ r. slice_index r j) rows ++ ys) (sym (nothing_pending size (entry_of_row repr j) t.pending t.given end.0))
              ∙ sym (given.2 j stream)
              ∙ ap (λ ys. ys ++ joined_bytes size (entry_of_row repr j) given.0) (nothing_pending size (entry_of_row repr j) s.pending s.given begins)),
        ),
      )

  -- and where they are cut short, those of the rows taken, but for those then pending
  pub rows_begun : (s : ParallelByteStreams S E width) (rows : List (List ℕ)) (t : ParallelByteStreams S E width) → s.pending ≡ None
      → Yields (GivesRow next_gives width size repr) s rows t
      → (elements : List (List E)) × Yields next_gives s.elements elements t.elements
      × (length rows + rows_pending size t.pending t.given ≡ size * length elements)
      × ((j : ℕ) → j < width → map (λ row. slice_index row j) rows ++ pending_in j t ≡ joined_bytes size (entry_of_row repr j) elements)
  rows_begun s rows t begins run =
      let given = run_gives s rows t run in
      let before = ap length (nothing_pending size (λ (r : List E). 0) s.pending s.given begins) in
      let counted = given.3 in (
        given.0,
        given.1,
        omega (arith, before, counted),
        (λ j stream.
            sym (given.2 j stream)
            ∙ ap (λ ys. ys ++ joined_bytes size (entry_of_row repr j) given.0) (nothing_pending size (entry_of_row repr j) s.pending s.given begins)),
      )

-- ---- words of rows

-- the rows so far, from the state `start` to the state `now`, and the numbers of their columns
pub record ReadingRows {S W : Type 0} (next_gives : S → Option (List ℕ) → S → Type 0) (number : W → ℕ) (width : ℕ) (start : S) (i : ℕ) (words : List W) (now : S)
    : Type 0 where
  pub below : (j : ℕ) → j < width → slice_index (map number words) j < 2 ^ (8 * i)
  pub taken : List (List ℕ)
  pub yields : Yields next_gives start taken now
  pub long : length taken ≡ i
  pub are : IsWordRow width number words taken

module _ {S W : Type 0} (next_gives : S → Option (List ℕ) → S → Type 0) (number : W → ℕ) (width : ℕ) (start : S) where
  -- before the first row of bytes each word is 0
  pub no_rows : (words : List W) → ((j : ℕ) → j < width → slice_index (map number words) j ≡ 0) → ReadingRows next_gives number width start 0 words start
  unfolding joined
  no_rows words none = record {
    below = λ j within. let is = none j within in omega (arith, is);
    taken = [];
    yields = refl;
    long = refl;
    are = none;
  }

  -- one more row of bytes, put above those that each word has
  pub row_read : (i : ℕ) (words more : List W) (row : List ℕ) (now next : S) → ReadingRows next_gives number width start i words now → next_gives now (Some row) next
      → ((j : ℕ) → j < width → slice_index (map number more) j < 2 ^ (8 * (i + 1)))
      → ((j : ℕ) → j < width → slice_index (map number more) j ≡ slice_index row j * 2 ^ (8 * i) + slice_index (map number words) j)
      → ReadingRows next_gives number width start (i + 1) more next
  row_read i words more row now next begun step fits put = record {
    below = fits;
    taken = begun.taken ++ row ∷ [];
    yields = yields_more next_gives start begun.taken now next row begun.yields step;
    long = length-append begun.taken (row ∷ []) ∙ ap (λ (n : ℕ). n + 1) begun.long;
    are = λ j within.
        let entry : List ℕ → ℕ = λ r. slice_index r j in
        let long : length (map entry begun.taken) ≡ i = length-map begun.taken entry ∙ begun.long in
        put j within ∙ ap₂ (λ (n k : ℕ). slice_index row j * 2 ^ (8 * k) + n) (begun.are j within) (sym long)
        ∙ sym (number-more (map entry begun.taken) (slice_index row j)) ∙ ap number_of_bytes (sym (map-append entry begun.taken (row ∷ [])));
  }
