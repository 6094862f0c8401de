-- Words as columns of a matrix: the places of their symbols, one word that is written among them, and all words one after the
-- other.
use Rattle.std.proofs.Common.{◌≡◌, ◌≢◌, ℕ, suc, ◌+◌, ◌*◌, ◌%◌, ◌<◌, ◌≤◌, List, ◌++◌, length, take, drop, set}
use Rattle.std.proofs.Common.{sym, ◌∙◌, ap, subst, arith, below_more}
use Rattle.std.specs.Prelude.{slice_index}
use Rattle.std.proofs.Math.Nat.{mul-le-mul_right, suc-mul}
use Rattle.std.proofs.lemmas.List.{get_or-append-add, get_or_append_left, get_or-drop, get_or-set_other, get_or-set_same, get_or-take}
use Rattle.std.proofs.lemmas.List.{length-drop, length-set, length-take-le}
use Rattle.std.proofs.lemmas.List.FromFn.{fill_by_all, get_or-map-range_with_len, length-map-range_with_len}
use Rattle.std.proofs.lemmas.Nat.{mod-mul-add}
use borrow.Rule.Slice.PartMut.{mid_of, post_of, put_mid, same_len_mid}
use lib.Arith.{digits_lt}
use Rattle.error_codes.specs.Interleaved.{interleaved_word}

-- ---- places

-- the places of different words differ
pub places-differ : (depth i j c d : ℕ) → c < depth → d < depth → d ≢ c → j * depth + d ≢ i * depth + c
places-differ depth i j c d c_below d_below other same =
    other (sym (mod-mul-add j depth d d_below) ∙ ap (λ (p : ℕ). p % depth) same ∙ mod-mul-add i depth c c_below)

-- a symbol of a word
pub word-at : (n depth : ℕ) (symbols : List ℕ) (c i : ℕ) → i < n
    → slice_index (interleaved_word n depth symbols c) i ≡ slice_index symbols (i * depth + c)
word-at n depth symbols c i below =
    get_or-map-range_with_len (λ k. slice_index symbols (k * depth + c)) 0 n i i 0 below place
  where
    place : 0 + i ≡ i
    place = omega arith

pub word-length : (n depth : ℕ) (symbols : List ℕ) (c : ℕ) → length (interleaved_word n depth symbols c) ≡ n
word-length n depth symbols c = length-map-range_with_len (λ k. slice_index symbols (k * depth + c)) 0 n

-- words with the same symbols
pub word-same : (n depth : ℕ) (old new : List ℕ) (c : ℕ)
    → ((i : ℕ) → i < n → slice_index new (i * depth + c) ≡ slice_index old (i * depth + c))
    → interleaved_word n depth new c ≡ interleaved_word n depth old c
word-same n depth old new c same =
    sym (fill_by_all (λ i. slice_index new (i * depth + c)) (interleaved_word n depth old c) n 0 (word-length n depth old c)
    (λ i below. word-at n depth old c i below ∙ sym (same i below)))

-- a list of so many symbols is a word
pub word-is : (n depth : ℕ) (symbols word : List ℕ) (c : ℕ) → length word ≡ n
    → ((i : ℕ) → i < n → slice_index symbols (i * depth + c) ≡ slice_index word i) → interleaved_word n depth symbols c ≡ word
word-is n depth symbols word c long same =
    sym (fill_by_all (λ i. slice_index symbols (i * depth + c)) word n 0 long (λ i below. sym (same i below)))

-- ---- rows

-- a row lies in the matrix
pub row_inside : (depth m rows : ℕ) → m < rows → m * depth + depth ≤ rows * depth
row_inside depth m rows below =
    let whole : suc m * depth ≤ rows * depth = mul-le-mul_right depth (omega (arith, below)) in
    let next = suc-mul m depth in
    omega (arith, whole, next)

-- an entry of a part
pub part-at : (a k : ℕ) (xs : List ℕ) (c : ℕ) → c < k → slice_index (mid_of a k xs) c ≡ slice_index xs (a + c)
part-at a k xs c below = get_or-take k (drop a xs) c 0 below ∙ get_or-drop a xs c 0

pub part-length : (a k : ℕ) (xs : List ℕ) → a + k ≤ length xs → length (mid_of a k xs) ≡ k
part-length a k xs inside = let left = length-drop a xs in length-take-le k (drop a xs) (omega (arith, left, inside))

module _ (a k : ℕ) (xs ys : List ℕ) (inside : a + k ≤ length xs) (long : length ys ≡ k) where
  -- a part that is written over leaves the length
  put-length : length (put_mid a k xs ys) ≡ length xs
  put-length = same_len_mid a k xs ys (long ∙ sym (part-length a k xs inside))

  -- the entries before it
  put-before : (p : ℕ) → p < a → slice_index (put_mid a k xs ys) p ≡ slice_index xs p
  put-before p below =
      get_or_append_left (take a xs) (ys ++ post_of a k xs) 0 p (omega (arith, below, front)) ∙ get_or-take a xs p 0 below
    where
      front : length (take a xs) ≡ a
      front = length-take-le a xs (omega (arith, inside))

  -- and those in it
  put-inside : (c : ℕ) → c < k → slice_index (put_mid a k xs ys) (a + c) ≡ slice_index ys c
  put-inside c below =
      ap (λ (n : ℕ). slice_index (put_mid a k xs ys) (n + c)) (sym front)
      ∙ get_or-append-add (take a xs) (ys ++ post_of a k xs) c 0
      ∙ get_or_append_left ys (post_of a k xs) 0 c (omega (arith, below, long))
    where
      front : length (take a xs) ≡ a
      front = length-take-le a xs (omega (arith, inside))

-- a row more, of rows of values that are written one after the other
pub row-more : (depth m gap : ℕ) (value : ℕ → ℕ → ℕ) (old now row : List ℕ) → gap ≡ depth → m * depth + depth ≤ length old
    → length row ≡ depth → ((c : ℕ) → c < depth → slice_index row c ≡ value m c)
    → (length now ≡ length old)
    × ((k c : ℕ) → k < m → c < depth → slice_index now (k * depth + c) ≡ value k c)
    → (length (put_mid (m * depth) gap now row) ≡ length old)
    × ((k c : ℕ) → k < m + 1 → c < depth → slice_index (put_mid (m * depth) gap now row) (k * depth + c) ≡ value k c)
row-more depth m gap value old now row gap_is room long given before =
    let same = before.0 in
    let inside : m * depth + gap ≤ length now = omega (arith, room, same, gap_is) in
    let whole : length row ≡ gap = long ∙ sym gap_is in (
      put-length (m * depth) gap now row inside whole ∙ same,
      λ k c below column.
          below_more (λ j. slice_index (put_mid (m * depth) gap now row) (j * depth + c) ≡ value j c) m
          (λ j earlier.
          put-before (m * depth) gap now row inside whole (j * depth + c) (digits_lt earlier column) ∙ before.1 j c earlier column)
          (put-inside (m * depth) gap now row inside whole c (omega (arith, column, gap_is)) ∙ given c column) k below,
    )

-- ---- one word that is written

-- the symbols of word c before symbol i are written, and those of other words are as they were
pub record WordWritten (depth c : ℕ) (word old now : List ℕ) (i : ℕ) : Type 0 where
  pub long : length now ≡ length old
  pub own : (k : ℕ) → k < i → slice_index now (k * depth + c) ≡ slice_index word k
  pub others : (d k : ℕ) → d < depth → d ≢ c → slice_index now (k * depth + d) ≡ slice_index old (k * depth + d)

pub word-more : (depth c i symbol : ℕ) (word old now : List ℕ) → c < depth → i * depth + c < length now → symbol ≡ slice_index word i
    → WordWritten depth c word old now i → WordWritten depth c word old (set now (i * depth + c) symbol) (i + 1)
word-more depth c i symbol word old now inside room is before = record {
  long = length-set now (i * depth + c) symbol ∙ before.long;
  own = below_more (λ k. slice_index (set now (i * depth + c) symbol) (k * depth + c) ≡ slice_index word k) i
      (λ k below. get_or-set_other now (i * depth + c) (k * depth + c) symbol 0
      (λ e. let less = digits_lt below inside in absurd (omega (arith, e, less))) ∙ before.own k below)
      (get_or-set_same now (i * depth + c) symbol 0 room ∙ is);
  others = λ d k below other.
      get_or-set_other now (i * depth + c) (k * depth + d) symbol 0 (λ e. places-differ depth i k c d inside below other e)
      ∙ before.others d k below other;
}

-- ---- all words

-- the words before this one are related to what they were, and the others are as they were
pub record ColumnsChanged (n depth : ℕ) (relates : ℕ → List ℕ → List ℕ → Type 0) (old now : List ℕ) (count : ℕ) : Type 0 where
  pub long : length now ≡ length old
  pub done : (c : ℕ) → c < count → relates c (interleaved_word n depth old c) (interleaved_word n depth now c)
  pub rest : (c : ℕ) → c < depth → count ≤ c → interleaved_word n depth now c ≡ interleaved_word n depth old c

module _ (n depth : ℕ) (relates : ℕ → List ℕ → List ℕ → Type 0) (old : List ℕ) where
  -- a word more
  pub columns-more : (now new : List ℕ) (c : ℕ) → c < depth → length new ≡ length now
      → relates c (interleaved_word n depth now c) (interleaved_word n depth new c)
      → ((d : ℕ) → d < depth → d ≢ c → interleaved_word n depth new d ≡ interleaved_word n depth now d)
      → ColumnsChanged n depth relates old now c → ColumnsChanged n depth relates old new (c + 1)
  columns-more now new c inside long given others before = record {
    long = long ∙ before.long;
    done = below_more (λ d. relates d (interleaved_word n depth old d) (interleaved_word n depth new d)) c
        (λ d below.
        subst (relates d (interleaved_word n depth old d))
        (sym (others d (omega (arith, below, inside)) (λ e. absurd (omega (arith, e, below))))) (before.done d below))
        (subst (λ (w : List ℕ). relates c w (interleaved_word n depth new c)) (before.rest c inside (omega arith)) given);
    rest = λ d below above.
        others d below (λ e. absurd (omega (arith, e, above))) ∙ before.rest d below (omega (arith, above));
  }

-- related in another way too
pub columns-as : (n depth count : ℕ) (relates other : ℕ → List ℕ → List ℕ → Type 0) (old now : List ℕ)
    → ((c : ℕ) (a b : List ℕ) → c < count → relates c a b → other c a b)
    → ColumnsChanged n depth relates old now count → ColumnsChanged n depth other old now count
columns-as n depth count relates other old now each before = record {
  long = before.long;
  done = λ c below.
      each c (interleaved_word n depth old c) (interleaved_word n depth now c) below (before.done c below);
  rest = before.rest;
}
