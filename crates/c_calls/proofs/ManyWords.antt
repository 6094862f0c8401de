-- Words of one length that stand one after the other, of which those before one are changed.
use Rattle.std.proofs.Common.{◌≡◌, ◌⊎◌, inl, inr, ℕ, suc, ◌+◌, ◌-◌, ◌*◌, ◌/◌, ◌<◌, ◌≤◌, Bool, true, List, ◌++◌, length, take, drop, set}
use Rattle.std.proofs.Common.{sym, subst, ◌∙◌, ap, arith, below_more}
use Rattle.std.specs.Prelude.{◌↔◌, slice_index}
use Rattle.std.proofs.Math.Nat.{div-mul-le_self, mul-le-mul_right, suc-mul}
use Rattle.std.proofs.lemmas.Bool.{cases_Bool, cases_lt}
use Rattle.std.proofs.lemmas.List.{get_or-drop, get_or-set_other, get_or-set_same, get_or-take, length-drop, length-set, take-append-drop}
use mir.Val.{bool_byte}
use borrow.Rule.Slice.PartMut.{mid_of, put_mid, drop_put, same_len_mid, take_put}
use lib.Seq.{drop_at, drop-drop, length-take-le, take_at, take-append-le, drop-append-le}
use Rattle.c_calls.specs.Bytes.{Answers}
use Rattle.c_calls.specs.Codes.{nth_word}

-- a word lies in the symbols
pub word_inside : (n symbols i : ℕ) → i < symbols / n → i * n + n ≤ symbols
word_inside n symbols i below =
    let whole = div-mul-le_self symbols n in
    let words : suc i * n ≤ symbols / n * n = mul-le-mul_right n (omega (arith, below)) in
    let next = suc-mul i n in
    omega (arith, whole, words, next)

-- and those before it lie before it
pub word_before : (n i j : ℕ) → i < j → i * n + n ≤ j * n
word_before n i j below =
    let words : suc i * n ≤ j * n = mul-le-mul_right n (omega (arith, below)) in
    let next = suc-mul i n in
    omega (arith, words, next)

-- a part is read from what lies before its end
part_before : (s k a : ℕ) (xs : List ℕ) → s + k ≤ a → a ≤ length xs → take k (drop s xs) ≡ take k (drop s (take a xs))
part_before s k a xs within inside =
    ap (λ (ys : List ℕ). take k (drop s ys)) (sym (take-append-drop a xs))
    ∙ ap (λ (ys : List ℕ). take k ys) (drop-append-le s (take a xs) (drop a xs) (omega (arith, within, front)))
    ∙ take-append-le k (drop s (take a xs)) (drop a xs) (omega (arith, within, front, left))
  where
    front : length (take a xs) ≡ a
    front = length-take-le a xs inside

    left : length (drop s (take a xs)) ≡ length (take a xs) - s
    left = length-drop s (take a xs)

module _ (a n : ℕ) (xs ys : List ℕ) (inside : a + n ≤ length xs) (long : length ys ≡ n) where
  -- what was written is read
  part_written : take n (drop a (put_mid a n xs ys)) ≡ ys
  part_written =
      ap (λ (zs : List ℕ). take n zs) (drop_at (take a xs) (ys ++ drop n (drop a xs)) a (length-take-le a xs (omega (arith, inside))))
      ∙ take_at ys (drop n (drop a xs)) n long

  -- what lies before is as it was
  part_kept : (s k : ℕ) → s + k ≤ a → take k (drop s (put_mid a n xs ys)) ≡ take k (drop s xs)
  part_kept s k before =
      part_before s k a (put_mid a n xs ys) before (omega (arith, inside, same))
      ∙ ap (λ (zs : List ℕ). take k (drop s zs)) (take_put a n xs ys (omega (arith, inside)))
      ∙ sym (part_before s k a xs before (omega (arith, inside)))
    where
      lent : length (mid_of a n xs) ≡ n
      lent = let left = length-drop a xs in length-take-le n (drop a xs) (omega (arith, left, inside))

      same : length (put_mid a n xs ys) ≡ length xs
      same = same_len_mid a n xs ys (long ∙ sym lent)

  -- and so is what lies behind
  part_behind : drop (a + n) (put_mid a n xs ys) ≡ drop (a + n) xs
  part_behind =
      let size : a + n - a ≡ n = omega arith in
      subst (λ (k : ℕ). drop (a + n) (put_mid a k xs ys) ≡ drop (a + n) xs) size
      (drop_put a (a + n) xs ys (omega arith) inside (omega (arith, long)))

-- the words before word `count` are related to what they were, and what lies behind them is as it was
pub record WordsChanged (n : ℕ) (relates : ℕ → List ℕ → List ℕ → Type 0) (old now : List ℕ) (count : ℕ) : Type 0 where
  pub long : length now ≡ length old
  pub done : (i : ℕ) → i < count → relates i (nth_word n i old) (nth_word n i now)
  pub rest : drop (count * n) now ≡ drop (count * n) old

module _ (n : ℕ) (relates : ℕ → List ℕ → List ℕ → Type 0) (old : List ℕ) where
  -- a word more
  pub words-more : (now part : List ℕ) (i : ℕ) → i * n + n ≤ length old → length part ≡ n → relates i (nth_word n i now) part
      → WordsChanged n relates old now i → WordsChanged n relates old (put_mid (i * n) n now part) (i + 1)
  words-more now part i room long given so_far =
      record {
        long = same_len_mid (i * n) n now part (long ∙ sym lent) ∙ so_far.long;
        done = λ j below. pick j (cases_lt j i) below;
        rest =
            ap (λ (m : ℕ). drop m (put_mid (i * n) n now part)) next ∙ part_behind (i * n) n now part inside long
            ∙ sym (drop-drop n (i * n) now) ∙ ap (λ (zs : List ℕ). drop n zs) so_far.rest ∙ drop-drop n (i * n) old
            ∙ ap (λ (m : ℕ). drop m old) (sym next);
      }
    where
      inside : i * n + n ≤ length now
      inside = let same = so_far.long in omega (arith, same, room)

      lent : length (mid_of (i * n) n now) ≡ n
      lent = let left = length-drop (i * n) now in length-take-le n (drop (i * n) now) (omega (arith, left, inside))

      next : (i + 1) * n ≡ i * n + n
      next = ap (λ (m : ℕ). m * n) one ∙ suc-mul i n
        where
          one : i + 1 ≡ suc i
          one = omega arith

      Holds : ℕ → Type 0
      Holds j = relates j (nth_word n j old) (nth_word n j (put_mid (i * n) n now part))

      pick : (j : ℕ) → (j < i) ⊎ (i ≤ j) → j < i + 1 → Holds j
      pick j (inl before) _ =
          subst (λ (w : List ℕ). relates j (nth_word n j old) w)
          (sym (part_kept (i * n) n now part inside long (j * n) n (word_before n j i before))) (so_far.done j before)
      pick j (inr from) below =
          let same : i ≡ j = omega (arith, from, below) in
          subst Holds same
          (subst (λ (w : List ℕ). relates i (nth_word n i old) w) (sym (part_written (i * n) n now part inside long))
          (subst (λ (w : List ℕ). relates i w part) (ap (λ (zs : List ℕ). take n zs) so_far.rest) given))

-- ---- as loops read and write words

-- a part of so many symbols is a word, by another name of the length
pub word_read : (n size i : ℕ) (xs : List ℕ) → size ≡ n → mid_of (i * size) (i * size + size - i * size) xs ≡ nth_word n i xs
word_read n size i xs same =
    let taken : i * size + size - i * size ≡ size = omega arith in
    ap (λ (k : ℕ). take k (drop (i * size) xs)) taken ∙ ap (λ (s : ℕ). nth_word s i xs) same

-- a word that lies in the symbols has its length
pub word-long : (n i : ℕ) (xs : List ℕ) → i < length xs / n → length (nth_word n i xs) ≡ n
word-long n i xs below =
    let inside = word_inside n (length xs) i below in
    let left = length-drop (i * n) xs in
    length-take-le n (drop (i * n) xs) (omega (arith, left, inside))

module _ (n : ℕ) (relates : ℕ → List ℕ → List ℕ → Type 0) (old : List ℕ) where
  -- a word more, whose part was lent and written
  pub words-lent : (now part : List ℕ) (i size : ℕ) → size ≡ n → i * n + n ≤ length old
      → length part ≡ length (mid_of (i * size) (i * size + size - i * size) now)
      → relates i (mid_of (i * size) (i * size + size - i * size) now) part
      → WordsChanged n relates old now i → WordsChanged n relates old (put_mid (i * size) (i * size + size - i * size) now part) (i + 1)
  words-lent now part i size same room long given so_far =
      let taken : n ≡ i * size + size - i * size = omega (arith, same) in
      subst (λ (k : ℕ). WordsChanged n relates old (put_mid (i * size) k now part) (i + 1)) taken
      (subst (λ (s : ℕ). WordsChanged n relates old (put_mid (i * s) n now part) (i + 1)) (sym same)
      (words-more n relates old now part i room (long ∙ ap (λ (w : List ℕ). length w) read ∙ lent)
      (subst (λ (w : List ℕ). relates i w part) read given) so_far))
    where
      read : mid_of (i * size) (i * size + size - i * size) now ≡ nth_word n i now
      read = word_read n size i now same

      lent : length (nth_word n i now) ≡ n
      lent =
          let left = length-drop (i * n) now in
          let as_long = so_far.long in
          length-take-le n (drop (i * n) now) (omega (arith, left, room, as_long))

  -- a word more, that was written at once
  pub words-written : (now new part : List ℕ) (i : ℕ) → i * n + n ≤ length old → length part ≡ n → relates i (nth_word n i now) part
      → new ≡ put_mid (i * length part) (length part) now part → WordsChanged n relates old now i → WordsChanged n relates old new (i + 1)
  words-written now new part i room long given is so_far =
      subst (λ (w : List ℕ). WordsChanged n relates old w (i + 1)) (sym (is ∙ ap (λ (k : ℕ). put_mid (i * k) k now part) long))
      (words-more n relates old now part i room long given so_far)

-- values that were found of a word as it was read
pub values-read : (value : ℕ → (ℕ → ℕ) → ℕ → ℕ) (seen word found : List ℕ) (n checks : ℕ) → seen ≡ word → length word ≡ n
    → ((m : ℕ) → m < checks → slice_index found m ≡ value (length seen) (slice_index seen) m)
    → (m : ℕ) → m < checks → slice_index (take checks found) m ≡ value n (slice_index word) m
values-read value seen word found n checks is long at m below =
    get_or-take checks found m 0 below ∙ at m below ∙ ap (λ (w : List ℕ). value (length w) (slice_index w) m) is
    ∙ ap (λ (k : ℕ). value k (slice_index word) m) long

-- what a test told of a word as it was read
pub told : (b : Bool) (byte n : ℕ) (holds : List ℕ → Type 0) (seen word : List ℕ) → byte ≡ bool_byte b → seen ≡ word → length word ≡ n
    → ((b ≡ true) ↔ ((length seen ≡ n) × holds seen)) → Answers (holds word) byte
told b byte n holds seen word is same long test =
    record {
      yes = λ fact. is ∙ ap bool_byte (test.1 (ap (λ (w : List ℕ). length w) same ∙ long, subst holds (sym same) fact));
      no = λ none.
          elim (cases_Bool b) [
            | inl right ↦ absurd (none (subst holds same (test.0 right).1))
            | inr wrong ↦ is ∙ ap bool_byte wrong
          ];
    }

-- an answer more
pub answers-more : (facts : ℕ → Type 0) (old now : List ℕ) (i byte : ℕ) → i < length old → Answers (facts i) byte
    → (length now ≡ length old) × ((j : ℕ) → j < i → Answers (facts j) (slice_index now j))
    → (length (set now i byte) ≡ length old) × ((j : ℕ) → j < i + 1 → Answers (facts j) (slice_index (set now i byte) j))
answers-more facts old now i byte below answer so_far =
    let long = so_far.0 in (
      length-set now i byte ∙ long,
      below_more (λ j. Answers (facts j) (slice_index (set now i byte) j)) i
          (λ j before.
          subst (Answers (facts j)) (sym (get_or-set_other now i j byte 0 (λ e. absurd (omega (arith, e, before))))) (so_far.1 j before))
          (subst (Answers (facts i)) (sym (get_or-set_same now i byte 0 (omega (arith, long, below)))) answer),
    )

-- another relation that follows for the words so far
pub words-mapped : (n : ℕ) (before after : ℕ → List ℕ → List ℕ → Type 0) (old now : List ℕ) (count : ℕ)
    → ((i : ℕ) → i < count → before i (nth_word n i old) (nth_word n i now) → after i (nth_word n i old) (nth_word n i now))
    → WordsChanged n before old now count → WordsChanged n after old now count
words-mapped n before after old now count step so_far =
    record { long = so_far.long; done = λ i below. step i below (so_far.done i below); rest = so_far.rest }

-- ---- symbols below a bound

-- symbol j of word i
pub word_symbol : (n i j : ℕ) (xs : List ℕ) → j < n → slice_index (nth_word n i xs) j ≡ slice_index xs (i * n + j)
word_symbol n i j xs below = get_or-take n (drop (i * n) xs) j 0 below ∙ get_or-drop (i * n) xs j 0

-- all symbols are below a bound, and so are those of a word
pub word_below : (n i b : ℕ) (xs : List ℕ) → i * n + n ≤ length xs → ((k : ℕ) → k < length xs → slice_index xs k < b)
    → (j : ℕ) → j < n → slice_index (nth_word n i xs) j < b
word_below n i b xs inside all j below =
    subst (λ (v : ℕ). v < b) (sym (word_symbol n i j xs below)) (all (i * n + j) (omega (arith, inside, below)))

module _ (n size k i b : ℕ) (xs : List ℕ) (same : size ≡ n) (few : k ≤ n) (below : i < length xs / n) where
  -- the first symbols of a word, as they are read
  abbrev Part : List ℕ
  Part = mid_of (i * size) (i * size + k - i * size) xs

  part-is : Part ≡ take k (drop (i * n) xs)
  part-is =
      let taken : i * size + k - i * size ≡ k = omega arith in
      ap (λ (m : ℕ). take m (drop (i * size) xs)) taken ∙ ap (λ (s : ℕ). take k (drop (i * s) xs)) same

  part-long : length Part ≡ k
  part-long =
      let inside = word_inside n (length xs) i below in
      let left = length-drop (i * n) xs in
      ap (λ (ys : List ℕ). length ys) part-is ∙ length-take-le k (drop (i * n) xs) (omega (arith, left, inside, few))

  part-symbol : (j : ℕ) → j < k → slice_index Part j ≡ slice_index (nth_word n i xs) j
  part-symbol j within =
      ap (λ (ys : List ℕ). slice_index ys j) part-is ∙ get_or-take k (drop (i * n) xs) j 0 within
      ∙ sym (get_or-take n (drop (i * n) xs) j 0 (omega (arith, within, few)))

  pub part-seen : ((j : ℕ) → j < length Part → slice_index Part j < b) → (j : ℕ) → j < k → slice_index (nth_word n i xs) j < b
  part-seen all j within =
      subst (λ (v : ℕ). v < b) (part-symbol j within) (all j (omega (arith, within, part-long)))

  pub part-shown : ((j : ℕ) → j < k → slice_index (nth_word n i xs) j < b) → (j : ℕ) → j < length Part → slice_index Part j < b
  part-shown all j within =
      let inside : j < k = omega (arith, within, part-long) in
      subst (λ (v : ℕ). v < b) (sym (part-symbol j inside)) (all j inside)

-- a word that is not yet changed is as it was
pub word_waits : (n i : ℕ) (relates : ℕ → List ℕ → List ℕ → Type 0) (old now : List ℕ) → WordsChanged n relates old now i
    → nth_word n i now ≡ nth_word n i old
word_waits n i relates old now so_far = ap (λ (zs : List ℕ). take n zs) so_far.rest
