-- Numbers as bytes, in positional notation, the lowest byte first, and bytes that are read from an iterator.
use Rattle.std.specs.Prelude.{◌≡◌, ◌↔◌, ℕ, ◌+◌, ◌%◌, ◌^◌, ◌<◌, ◌≤◌, ◌⊎◌, List, length, IsNone, IfSome}
use Rattle.std.specs.declared.option.Option.{Option}
use Rattle.std.specs.declared.option.Option.TheVariants.{None}
use Rattle.std.specs.Iterator.{Count, IsFinite, Yields, YieldsThen, size}
use Rattle.field_base.specs.Chunks.{chunks, joined}

-- the lowest bytes of a number, as many as `count`, the lowest first: bits 8 i to 8 i + 7 are byte i
abbrev pub low_bytes : ℕ → ℕ → List ℕ
low_bytes count n = chunks 8 count n

-- the number of a list of bytes, the lowest first
abbrev pub number_of_bytes : List ℕ → ℕ
number_of_bytes bytes = joined 8 bytes

-- the word of at most n bytes has their number: bytes that are missing are 0
abbrev pub IsWord : {W : Type 0} → (W → ℕ) → W → List ℕ → Type 0
IsWord number w bytes = number w ≡ number_of_bytes bytes

-- ---- what a call takes of an iterator

-- a call took items of an iterator, which it left at `rest`: all of them up to its end, where they are fewer than n, or n
abbrev pub TakesUpTo : {S A : Type 0} → (S → Option A → S → Type 0) → S → ℕ → List A → S → Type 0
TakesUpTo next_gives iter n items rest =
    (YieldsThen next_gives iter items None rest × (length items < n)) ⊎ (Yields next_gives iter items rest × (length items ≡ n))

-- a call took up to n items of an iterator, from `iter` to `rest`; there were `count` of them, and `says` holds of them
abbrev pub TakesCounted : {S A : Type 0} → (S → Option A → S → Type 0) → ℕ → (List A → Type 0) → S → ℕ → S → Type 0
TakesCounted {S} {A} next_gives n says iter count rest =
    (items : List A) × TakesUpTo next_gives iter n items rest × (count ≡ length items) × says items

-- Of a finite count of items, `count` were taken. Where those are all n that were wanted, the rest is finite, and n fewer.
abbrev pub LeavesFewer : ℕ → Count → ℕ → Count → Type 0
LeavesFewer n before count after =
    IsFinite before → (count ≤ size before) × (count ≡ n → IsFinite after × (size after + n ≤ size before))

-- ---- words and elements of the next n bytes of an iterator

-- A call reads a word: its number is that of the next n bytes of an iterator, and it is None where there are fewer. It leaves the
-- iterator at `rest`, where it may be called behind a word.
pub record ReadsWord {S W : Type 0} (can_next : S → Type 0) (next_gives : S → Option ℕ → S → Type 0) (number : W → ℕ) (n : ℕ)
    (iter : S) (result : Option W) (rest : S) : Type 0 where
  pub bytes : List ℕ
  pub taken : TakesUpTo next_gives iter n bytes rest
  pub none_if_short : IsNone result ↔ (length bytes < n)
  pub value : IfSome result (λ w. IsWord number w bytes)
  pub goes_on : IfSome result (λ w. can_next rest)

-- A call reads an element of `width` bits: its representation is the number of the next n bytes of an iterator, cut to the width,
-- and it is None where there are fewer. The bytes of an element give that element back. It leaves the iterator at `rest`, where it may
-- be called behind an element.
pub record ReadsElement {S E : Type 0} (can_next : S → Type 0) (next_gives : S → Option ℕ → S → Type 0) (repr : E → ℕ) (width n : ℕ)
    (iter : S) (result : Option E) (rest : S) : Type 0 where
  pub bytes : List ℕ
  pub taken : TakesUpTo next_gives iter n bytes rest
  pub none_if_short : IsNone result ↔ (length bytes < n)
  pub value : IfSome result (λ y. repr y ≡ number_of_bytes bytes % 2 ^ width)
  pub goes_on : IfSome result (λ y. can_next rest)
  pub own_bytes_return : IfSome result (λ y. (x : E) → bytes ≡ low_bytes n (repr x) → y ≡ x)
