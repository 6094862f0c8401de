-- Bytes, or rows of bytes, as words of n of them, the lowest first, and what streams of words give.
use Rattle.std.specs.Prelude.{◌≡◌, ℕ, ◌*◌, ◌<◌, ◌≤◌, ◌⊎◌, Bool, true, false, List, [], ◌∷◌, ◌++◌, length, map, slice_index, MatchOption}
use Rattle.std.specs.declared.option.Option.{Option}
use Rattle.std.specs.declared.option.Option.TheVariants.{None}
use Rattle.std.specs.Iterator.{Count, Drains, IsFinite, Yields, YieldsThen, count_unless}
use Rattle.field_bytes.specs.declared.parallel.ParallelByteStreams.{ParallelByteStreams}
use Rattle.field_bytes.specs.declared.parallel_words.ParallelWordStreams.{ParallelWordStreams}
use Rattle.field_bytes.specs.declared.streams.ByteStream.{ByteStream}
use Rattle.field_bytes.specs.declared.words.WordStream.{WordStream}
use Rattle.field_bytes.specs.Bytes.{IsWord, number_of_bytes}
use Rattle.field_bytes.specs.Parallel.{AreBeforeAll, AreJoinedRows, GivesRow, can_give_rows, row_count}
use Rattle.field_bytes.specs.Streams.{GivesByte, IsBeforeAll, byte_count, can_give, joined_bytes}

-- in each of `width` columns of some rows of bytes, the word has the number of the bytes
abbrev pub IsWordRow : {W : Type 0} → ℕ → (W → ℕ) → List W → List (List ℕ) → Type 0
IsWordRow width number words rows =
    (j : ℕ) → j < width → slice_index (map number words) j ≡ number_of_bytes (map (λ row. slice_index row j) rows)

-- The words of a list of items: word k is that of the items n k to n k + n - 1. The last may have fewer, but has one.
abbrev pub AreWordsBy : {A W : Type 0} → (W → List A → Type 0) → ℕ → List A → List W → Type 0
AreWordsBy is n items [] = items ≡ []
AreWordsBy {A = A} is n items (w ∷ words) =
    (first : List A) × (others : List A) × (items ≡ first ++ others) × is w first × (0 < length first) × (length first ≤ n)
    × (length first < n → others ≡ []) × AreWordsBy is n others words

-- the words of some bytes
abbrev pub AreWords : {W : Type 0} → (W → ℕ) → ℕ → List ℕ → List W → Type 0
AreWords number n bytes words = AreWordsBy (IsWord number) n bytes words

-- the rows of words of some rows of bytes
abbrev pub AreWordRows : {W : Type 0} → ℕ → (W → ℕ) → ℕ → List (List ℕ) → List (List W) → Type 0
AreWordRows width number n rows words = AreWordsBy (IsWordRow width number) n rows words

module _ {S A : Type 0} (next_gives : S → Option A → S → Type 0) (n : ℕ) where
  -- A call took items of the source s: none, once the source has ended; all that it had, where they are fewer than n; or n.
  abbrev pub TakesOn : Bool → S → List A → Bool → S → Type 0
  TakesOn ended s items over t =
      ((ended ≡ true) × (over ≡ true) × (items ≡ []))
      ⊎ ((ended ≡ false) × (over ≡ true) × YieldsThen next_gives s items None t × (length items < n))
      ⊎ ((ended ≡ false) × (over ≡ false) × Yields next_gives s items t × (length items ≡ n))

  -- a call took items, and gave their word, or None where there were none
  abbrev pub GivesWordOf : {W : Type 0} → (W → List A → Type 0) → Bool → S → Option W → Bool → S → Type 0
  GivesWordOf is ended s r over t =
      (items : List A) × TakesOn ended s items over t × MatchOption r (items ≡ []) (λ w. (0 < length items) × is w items)

-- a call of a stream of words, by the source of its bytes
abbrev pub GivesWord : {S W : Type 0} → (S → Option ℕ → S → Type 0) → ℕ → (W → ℕ) → WordStream W S → Option W → WordStream W S → Type 0
GivesWord next_gives n number s r t = GivesWordOf next_gives n (IsWord number) s.ended s.bytes r t.ended t.bytes

-- a call of streams of words side by side, by the source of their rows of bytes
abbrev pub GivesWordRow : {S W : Type 0} {width : ℕ} → (S → Option (List ℕ) → S → Type 0) → ℕ → (W → ℕ) → ParallelWordStreams W S width → Option (List W)
    → ParallelWordStreams W S width → Type 0
GivesWordRow {width = width} next_gives n number s r t =
    GivesWordOf next_gives n (IsWordRow width number) s.ended s.rows r t.ended t.rows

-- a call of a stream of words is allowed where the calls that it makes of its source are
abbrev pub can_take : {S W : Type 0} → (S → Type 0) → WordStream W S → Type 0
can_take can_next s = s.ended ≡ false → can_next s.bytes

-- a call of streams of words side by side is allowed where the calls that it makes of their source are
abbrev pub can_take_rows : {S W : Type 0} {width : ℕ} → (S → Type 0) → ParallelWordStreams W S width → Type 0
can_take_rows can_next s = s.ended ≡ false → can_next s.rows

-- at most a word for each byte that is left
abbrev pub word_count : {S W : Type 0} → (S → Count) → WordStream W S → Count
word_count remaining s = count_unless s.ended (remaining s.bytes)

-- at most a row of words for each row of bytes that is left
abbrev pub word_row_count : {S W : Type 0} {width : ℕ} → (S → Count) → ParallelWordStreams W S width → Count
word_row_count remaining s = count_unless s.ended (remaining s.rows)

-- A run of a stream of words that is cut short, where it stands at t: its words are those of the first items of its source, n for each
-- word, or of all where the source has ended.
abbrev pub BeginsWordsBy : {S A W X : Type 0} → (S → Option A → S → Type 0) → ℕ → (W → List A → Type 0) → (X → Bool) → (X → S)
    → S → List W → X → Type 0
BeginsWordsBy {A = A} next_gives n is ended source first words t =
    (items : List A) × AreWordsBy is n items words
    × (((ended t ≡ false) × Yields next_gives first items (source t) × (length items ≡ n * length words))
    ⊎ ((ended t ≡ true) × YieldsThen next_gives first items None (source t)))

-- A stream of the words of elements may be called where the source of the elements may, and it ends where that does. It begins as a
-- stream that has taken nothing. What a whole run of it gives are the words of the bytes of all elements, and what one gives that is
-- cut short are the words of the first bytes.
module _ {S E W : Type 0} (can_next : S → Type 0) (next_gives : S → Option E → S → Type 0) (remaining : S → Count) (size : ℕ) (repr : E → ℕ) (n : ℕ)
    (number : W → ℕ) where
  pub record StreamsWords (elements : S) (stream : WordStream W (ByteStream S E)) : Type 0 where
    pub can : can_next elements → can_take (can_give can_next size) stream
    pub ends : IsFinite (remaining elements) → IsFinite (word_count (byte_count remaining size repr) stream)
    pub items : (words : List W) → Drains (GivesWord (GivesByte next_gives size repr) n number) stream words
        → (given : List E) × Drains next_gives elements given × AreWords number n (joined_bytes size repr given) words
    pub first : (stream.ended ≡ false) × IsBeforeAll elements stream.bytes
    pub part : (words : List W) (t : WordStream W (ByteStream S E)) → Yields (GivesWord (GivesByte next_gives size repr) n number) stream words t
        → BeginsWordsBy (GivesByte next_gives size repr) n (IsWord number) (λ s. s.ended) (λ s. s.bytes) stream.bytes words t

-- Streams of words side by side may be called where the source of the rows of elements may, and end where that does. They begin as
-- streams that have taken nothing. What a whole run of them gives are the rows of the words of the bytes of all elements, and what one
-- gives that is cut short are those of the first rows of bytes.
module _ {S E W : Type 0} (can_next : S → Type 0) (next_gives : S → Option (List E) → S → Type 0) (remaining : S → Count) (width size : ℕ) (repr : E → ℕ)
    (n : ℕ) (number : W → ℕ) where
  pub record StreamsWordRows (elements : S) (streams : ParallelWordStreams W (ParallelByteStreams S E width) width) : Type 0 where
    pub can : can_next elements → can_take_rows (can_give_rows can_next size) streams
    pub ends : IsFinite (remaining elements) → IsFinite (word_row_count (row_count remaining size) streams)
    pub items : (words : List (List W)) → Drains (GivesWordRow (GivesRow next_gives width size repr) n number) streams words
        → (given : List (List E)) × (rows : List (List ℕ)) × Drains next_gives elements given × AreJoinedRows width size repr given rows
        × AreWordRows width number n rows words
    pub first : (streams.ended ≡ false) × AreBeforeAll elements streams.rows
    pub part : (words : List (List W)) (t : ParallelWordStreams W (ParallelByteStreams S E width) width)
        → Yields (GivesWordRow (GivesRow next_gives width size repr) n number) streams words t
        → BeginsWordsBy (GivesRow next_gives width size repr) n (IsWordRow width number) (λ s. s.ended) (λ s. s.rows) streams.rows words t
