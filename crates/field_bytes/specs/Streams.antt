-- What streams of bytes and of words give.
use Rattle.std.specs.Prelude.{◌≡◌, ℕ, ◌+◌, ◌*◌, ◌<◌, ◌⊎◌, Bool, true, false, List, [], ◌∷◌, ◌++◌, length, drop, MatchOption}
use Rattle.std.specs.declared.option.Option.{Option}
use Rattle.std.specs.declared.option.Option.TheVariants.{None, Some}
use Rattle.std.specs.Iterator.{Count, Drains, Yields, count_map}
use Rattle.std.specs.List.{flat_map}
use Rattle.field_bytes.specs.declared.streams.ByteStream.{ByteStream}
use Rattle.field_bytes.specs.Bytes.{low_bytes}

-- the bytes of all elements, one element after the other, of `size` bytes each
abbrev pub joined_bytes : {E : Type 0} → ℕ → (E → ℕ) → List E → List ℕ
joined_bytes size repr elements = flat_map (λ x. low_bytes size (repr x)) elements

-- the bytes of an optional element: none for None
abbrev pub option_bytes : {E : Type 0} → (E → List ℕ) → Option E → List ℕ
option_bytes bytes None = []
option_bytes bytes (Some x) = bytes x

-- the bytes of an element after the first `given`, and none where there is no element
abbrev pub bytes_pending : {E : Type 0} → ℕ → (E → ℕ) → Option E → ℕ → List ℕ
bytes_pending size repr pending given = option_bytes (λ x. drop given (low_bytes size (repr x))) pending

-- the next byte to be given is one of the pending element's
abbrev pub IsWithin : {E : Type 0} → ℕ → Option E → ℕ → Type 0
IsWithin size pending given = MatchOption pending (given ≡ 0) (λ _. given < size)

-- of the pending bytes, the first is b, and the others are those that are pending afterwards
abbrev pub GivesFirst : {E : Type 0} → ℕ → (E → ℕ) → Option E → ℕ → ℕ → Option E → ℕ → Type 0
GivesFirst size repr pending given b after given_then =
    bytes_pending size repr pending given ≡ b ∷ bytes_pending size repr after given_then

-- the bytes of x after the first n are pending
abbrev pub IsRestOf : {E : Type 0} → ℕ → (E → ℕ) → E → ℕ → Option E → ℕ → Type 0
IsRestOf size repr x n pending given = bytes_pending size repr pending given ≡ drop n (low_bytes size (repr x))

-- a source whose end was seen before is not called again; any other was called, and gave None
abbrev pub HasEnded : {S E : Type 0} → (S → Option E → S → Type 0) → Bool → S → S → Type 0
HasEnded next_gives ended s t = ((ended ≡ true) × (t ≡ s)) ⊎ ((ended ≡ false) × next_gives s None t)

-- elements were taken of a source, and none of one whose end was seen before
abbrev pub HasTaken : {S E : Type 0} → (S → Option E → S → Type 0) → Bool → S → List E → S → Type 0
HasTaken next_gives ended s taken t = (ended ≡ true → taken ≡ []) × Yields next_gives s taken t

-- a call is allowed where one of the source is, or the end of the source was seen
abbrev pub can_give : {S E : Type 0} → (S → Type 0) → ℕ → ByteStream S E → Type 0
can_give can_next size s = (s.ended ≡ false → can_next s.elements) × IsWithin size s.pending s.given

-- a stream that has taken nothing of its source
abbrev pub IsBeforeAll : {S E : Type 0} → S → ByteStream S E → Type 0
IsBeforeAll elements s = (s.elements ≡ elements) × (s.pending ≡ None) × (s.given ≡ 0) × (s.ended ≡ false)

module _ {S E : Type 0} (next_gives : S → Option E → S → Type 0) (size : ℕ) (repr : E → ℕ) where
  -- A call from s took some elements of the source. The bytes that were pending, and those of these elements, are the byte that
  -- was given and the bytes that are pending then. No byte comes only where none is pending and the source has ended: from then on
  -- none comes, whatever the source would give.
  abbrev pub GivesByte : ByteStream S E → Option ℕ → ByteStream S E → Type 0
  GivesByte s r t = MatchOption r
      ((bytes_pending size repr s.pending s.given ≡ []) × (bytes_pending size repr t.pending t.given ≡ []) × (t.ended ≡ true)
      × HasEnded next_gives s.ended s.elements t.elements)
      (λ b. (taken : List E) × HasTaken next_gives s.ended s.elements taken t.elements
      × (bytes_pending size repr s.pending s.given ++ joined_bytes size repr taken ≡ b ∷ bytes_pending size repr t.pending t.given)
      × (t.ended ≡ s.ended))

  -- a whole run of the stream gives the bytes of all elements that a whole run of its source gives
  abbrev pub StreamsBytes : S → ByteStream S E → Type 0
  StreamsBytes elements stream =
      (bytes : List ℕ) → Drains GivesByte stream bytes → (given : List E) × Drains next_gives elements given × (bytes ≡ joined_bytes size repr given)

  -- a run of the stream that is cut short, where it stands at t, gives the bytes of the elements that were taken, but for those that
  -- are pending
  abbrev pub BeginsBytes : S → ByteStream S E → Type 0
  BeginsBytes elements stream =
      (bytes : List ℕ) (t : ByteStream S E) → Yields GivesByte stream bytes t → (given : List E) × Yields next_gives elements given t.elements
      × (bytes ++ bytes_pending size repr t.pending t.given ≡ joined_bytes size repr given)

-- at most `size` bytes for each element that is left in the source, and those that are pending
abbrev pub byte_count : {S E : Type 0} → (S → Count) → ℕ → (E → ℕ) → ByteStream S E → Count
byte_count remaining size repr s = count_map (λ n. n * size + length (bytes_pending size repr s.pending s.given)) (remaining s.elements)
