-- Rows of words, runs of bits, and blocks of bits. Bit i of a number, `bit_at n i` of std, is its lane i. The words of a number
-- are its digits, by `chunk`, `chunks` and `joined` of field_base.
use Rattle.std.specs.Prelude.{◌≡◌, ◌≢◌, ◌<◌, ◌≤◌, ◌-◌, bit_and, bit_xor, ℕ, ◌+◌, ◌/◌, ◌%◌, ◌^◌, Bool, true, ◌&&◌, List, length, map, slice_index}
use Rattle.std.specs.Array.{FillsFrom}
use Rattle.std.specs.Bool.{nat_eq, nat_lt}
use Rattle.std.specs.Int.{bit_at}
use Rattle.std.specs.List.{list_all}
use Rattle.field_base.specs.Chunks.{chunk, chunks}

-- ---- rows of words

-- a list is `count` words of `width` bits
abbrev pub is_whole : ℕ → ℕ → List ℕ → Bool
is_whole width count words = nat_eq (length words) count && list_all (λ word. nat_lt word (2 ^ width)) words

-- a row has its words, and its number is n
pub record IsRowOf {R : Type 0} (of : R → ℕ) (is_whole : R → Bool) (n : ℕ) (row : R) : Type 0 where
  pub number : of row ≡ n
  pub whole : is_whole row ≡ true

-- of `count` parts of `width` bits, part i of the number r is v, and every other part is that of n
abbrev pub IsWithPart : ℕ → ℕ → ℕ → ℕ → ℕ → ℕ → Type 0
IsWithPart width count n i v r =
    (chunk width i r ≡ v) × ((k : ℕ) → k < count → k ≢ i → chunk width k r ≡ chunk width k n)

-- of `count` words of `width` bits, word i of the result is what is given of words i of both operands
abbrev pub IsZipped : {A : Type 0} → ℕ → (A → ℕ) → (A → A → A → Type 0) → ℕ → ℕ → ℕ → ℕ → Type 0
IsZipped {A} width number gives count left right result =
    (i : ℕ) → i < count
    → (x y z : A) × (number x ≡ chunk width i left) × (number y ≡ chunk width i right) × gives x y z × (number z ≡ chunk width i result)

-- `count` steps, from the state `before` to the state `after`, gave the words of the row, the lowest first
abbrev pub IsFilled : {S A : Type 0} → (S → ℕ → A → S → Type 0) → (A → ℕ) → ℕ → ℕ → ℕ → S → S → Type 0
IsFilled {S} {A} step number width count row before after =
    (words : List A) × FillsFrom step before 0 words after × (map number words ≡ chunks width count row)

-- `count` draws from a random source, from the state `before` to the state `after`, gave the words of the row, the lowest first
abbrev pub IsDrawn : {S A : Type 0} → (S → A → S → Type 0) → (A → ℕ) → ℕ → ℕ → ℕ → S → S → Type 0
IsDrawn draws number width count row before after = IsFilled (λ s i word t. draws s word t) number width count row before after

-- the words k of three lists of `count` words are related, for each k
abbrev pub IsEachWord : (ℕ → ℕ → ℕ → Type 0) → ℕ → List ℕ → List ℕ → List ℕ → Type 0
IsEachWord relation count left right result =
    (k : ℕ) → k < count → relation (slice_index left k) (slice_index right k) (slice_index result k)

-- ---- runs of bits

-- bits `start`, .., `start + count - 1` of the result are the lowest bits of `value`, and the others those of `word`
abbrev pub IsWithField : ℕ → ℕ → ℕ → ℕ → ℕ → ℕ → Type 0
IsWithField width start count word value result =
    ((j : ℕ) → j < count → bit_at result (start + j) ≡ bit_at value j)
    × ((j : ℕ) → j < start → bit_at result j ≡ bit_at word j)
    × ((j : ℕ) → start + count ≤ j → j < width → bit_at result j ≡ bit_at word j)

-- ---- blocks of bits

-- a block has 2^k bits, at most half of `width`
abbrev pub IsBlockSize : ℕ → ℕ → Type 0
IsBlockSize width block = (k : ℕ) × (block ≡ 2 ^ k) × (block < width)

-- the set bits below `width` are those of the blocks 0, 2, 4, .. of `block` bits
abbrev pub HasEvenBlocks : ℕ → ℕ → ℕ → Type 0
HasEvenBlocks width block n = (j : ℕ) → j < width → bit_at n j ≡ 1 - j / block % 2

-- where the odd blocks of the left number differ from the even blocks of the right one, at the places of the even blocks
abbrev pub difference : ℕ → ℕ → ℕ → ℕ → ℕ
difference block even left right = bit_and (bit_xor (left / 2 ^ block) right) even

-- The first result of interleaving `left` and `right` by blocks of `block` bits, numbered from 0: the even blocks of the
-- left operand at their places, and above each the block of the right operand that was in its place.
abbrev pub HasFirstBlocks : ℕ → ℕ → ℕ → ℕ → ℕ → Type 0
HasFirstBlocks width block left right result =
    (j : ℕ) → j < width
    → (j / block % 2 ≡ 0 → bit_at result j ≡ bit_at left j) × (j / block % 2 ≡ 1 → bit_at result j ≡ bit_at right (j - block))

-- The second result: the odd blocks of the right operand at their places, and below each the block of the left operand
-- that was in its place.
abbrev pub HasSecondBlocks : ℕ → ℕ → ℕ → ℕ → ℕ → Type 0
HasSecondBlocks width block left right result =
    (j : ℕ) → j < width
    → (j / block % 2 ≡ 0 → bit_at result j ≡ bit_at left (j + block)) × (j / block % 2 ≡ 1 → bit_at result j ≡ bit_at right j)
