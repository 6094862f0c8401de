-- The places of symbols that are flagged, as a list, and words that are corrected with these as the erased ones.
use Rattle.std.proofs.Common.{◌≡◌, ◌≢◌, ◌⊎◌, inl, inr, ℕ, suc, ◌+◌, ◌-◌, ◌*◌, ◌<◌, ◌≤◌, Bool, true, false, cond, List, [], ◌∷◌, ◌++◌, length}
use Rattle.std.proofs.Common.{take, drop, set, refl, sym, subst, ◌∙◌, ap, ap₂, arith, below_more}
use Rattle.std.specs.Prelude.{◌||◌, ◌&&◌, min, nat_eq, not, slice_index}
use Rattle.std.proofs.Math.Bool.{or-false, or-true, or_assoc}
use Rattle.std.proofs.lemmas.Bool.{cases_lt, eq-eqb, ne_eqb}
use Rattle.std.proofs.lemmas.List.{length-drop, nil_from_length}
use Rattle.std.proofs.Math.Nat.{min-eq_left, min-eq_right}
use lib.Seq.{take_all, take-suc-set}
use Rattle.field_slices.specs.Marks.{marked_below}
use Rattle.field_slices.proofs.Counting.{total-add, total-most}
use Rattle.field_slices.proofs.Counts.{unmarked-count}
use Rattle.error_codes.specs.Correcting.{IsMeantIn, is_listed}
use Rattle.error_codes.specs.Words.{is_wrong}
use Rattle.error_codes.proofs.Meanings.{marks-same}
use Rattle.c_calls.specs.Codes.{is_flagged, nth_word}

-- a place more at the end of a list
listed-more : (ps : List ℕ) (p i : ℕ) → is_listed (ps ++ p ∷ []) i ≡ (is_listed ps i || nat_eq p i)
listed-more [] p i = or-false (nat_eq p i)
listed-more (q ∷ ps) p i =
    ap (λ (b : Bool). nat_eq q i || b) (listed-more ps p i) ∙ sym (or_assoc (nat_eq q i) (is_listed ps i) (nat_eq p i))

-- a place that is another, and one that is the same
listed-other : (a b : Bool) → b ≡ false → (a || b) ≡ a
listed-other a b other = ap (λ (c : Bool). a || c) other ∙ or-false a

listed-own : (a b : Bool) → b ≡ true → (a || b) ≡ true
listed-own a b own = ap (λ (c : Bool). a || c) own ∙ or-true a

-- the places before place i that are flagged are listed, and no others
pub record AreListed (flags places : List ℕ) (i : ℕ) : Type 0 where
  pub before : (j : ℕ) → j < i → is_listed places j ≡ is_flagged flags j
  pub behind : (j : ℕ) → i ≤ j → is_listed places j ≡ false

module _ (flags places : List ℕ) where
  -- the next symbol is not flagged
  pub listed-left : (count i : ℕ) → slice_index flags i ≡ 0 → AreListed flags (take count places) i
      → AreListed flags (take count places) (i + 1)
  listed-left count i zero so_far =
      record {
        before =
            below_more (λ j. is_listed (take count places) j ≡ is_flagged flags j) i so_far.before
            (so_far.behind i (omega arith) ∙ sym (ap (λ (n : ℕ). not (nat_eq n 0)) zero));
        behind = λ j past. so_far.behind j (omega (arith, past));
      }

  -- and is flagged
  pub listed-added : (count i : ℕ) → count < length places → slice_index flags i ≢ 0 → AreListed flags (take count places) i
      → AreListed flags (take (count + 1) (set places count i)) (i + 1)
  listed-added count i room nonzero so_far =
      record {
        before =
            below_more (λ j. is_listed (take (count + 1) (set places count i)) j ≡ is_flagged flags j) i
            (λ j below. added j ∙ listed-other (is_listed (take count places) j) (nat_eq i j) (ne_eqb i j (λ e. absurd (omega (arith, e, below))))
            ∙ so_far.before j below)
            (added i ∙ listed-own (is_listed (take count places) i) (nat_eq i i) (eq-eqb i i refl)
            ∙ sym (ap not (ne_eqb (slice_index flags i) 0 nonzero)));
        behind =
            λ j past.
            added j ∙ listed-other (is_listed (take count places) j) (nat_eq i j) (ne_eqb i j (λ e. absurd (omega (arith, e, past))))
            ∙ so_far.behind j (omega (arith, past));
      }
    where
      next : take (count + 1) (set places count i) ≡ take count places ++ i ∷ []
      next = ap (λ (n : ℕ). take n (set places count i)) one ∙ take-suc-set places count i room
        where
          one : count + 1 ≡ suc count
          one = omega arith

      added : (j : ℕ) → is_listed (take (count + 1) (set places count i)) j ≡ (is_listed (take count places) j || nat_eq i j)
      added j = ap (λ (ps : List ℕ). is_listed ps j) next ∙ listed-more (take count places) i j

-- ---- words

-- no more places are marked than there are
pub marks-fit : (a : ℕ → Bool) (n : ℕ) → marked_below a n ≤ n
marks-fit a n = let both = unmarked-count a n in omega (arith, both)

-- a word is meant by any list of the same places
pub meant-again : (width : ℕ) (times : ℕ → ℕ → ℕ) (root first n checks : ℕ) (received sent ps qs : List ℕ)
    → ((i : ℕ) → i < n → is_listed ps i ≡ is_listed qs i) → IsMeantIn width times root first n checks received ps sent
    → IsMeantIn width times root first n checks received qs sent
meant-again width times root first n checks received sent ps qs same meant =
    let near = meant.near in
    let erased = marks-same (is_listed ps) (is_listed qs) n same in
    let wrong =
    marks-same (is_wrong (λ i. i) (slice_index received) (is_listed ps) (slice_index sent))
    (is_wrong (λ i. i) (slice_index received) (is_listed qs) (slice_index sent)) n
    (λ i below. ap (λ (b : Bool). not b && not (nat_eq (slice_index received i) (slice_index sent i))) (same i below)) in
    record { count = meant.count; symbols = meant.symbols; roots = meant.roots; near = omega (arith, near, erased, wrong) }

-- the flags of a word, cut to those that are there
pub flags_read : (s e n : ℕ) (xs : List ℕ) → e ≡ s + n → take (min e (length xs) - min s (length xs)) (drop (min s (length xs)) xs) ≡ take n (drop s xs)
flags_read s e n xs end = pick (cases_lt s (length xs)) (cases_lt (length xs) e)
  where
    Reads : ℕ → ℕ → Type 0
    Reads from to = take (to - from) (drop from xs) ≡ take n (drop s xs)

    pick : (s < length xs) ⊎ (length xs ≤ s) → (length xs < e) ⊎ (e ≤ length xs)
        → Reads (min s (length xs)) (min e (length xs))
    pick (inl starts) (inr ends) =
        subst (λ (a : ℕ). Reads a (min e (length xs))) (sym (min-eq_left (omega (arith, starts))))
        (subst (λ (b : ℕ). Reads s b) (sym (min-eq_left ends)) (ap (λ (k : ℕ). take k (drop s xs)) (omega (arith, end))))
    pick (inl starts) (inl past) =
        let left = length-drop s xs in
        subst (λ (a : ℕ). Reads a (min e (length xs))) (sym (min-eq_left (omega (arith, starts))))
        (subst (λ (b : ℕ). Reads s b) (sym (min-eq_right (omega (arith, past))))
        (take_all (length xs - s) (drop s xs) (omega (arith, left)) ∙ sym (take_all n (drop s xs) (omega (arith, left, past, end)))))
    pick (inr behind) _ =
        let left = length-drop s xs in
        let gone = length-drop (length xs) xs in
        subst (λ (a : ℕ). Reads a (min e (length xs))) (sym (min-eq_right behind))
        (none (drop (length xs) xs) (omega (arith, gone)) (min e (length xs) - length xs)
        ∙ sym (none (drop s xs) (omega (arith, left, behind)) n))
      where
        none : (ys : List ℕ) → length ys ≡ 0 → (k : ℕ) → take k ys ≡ []
        none ys empty k = take_all k ys (omega (arith, empty)) ∙ nil_from_length ys empty

-- the flags of word i, as they are read
pub flags_word : (n size i from to : ℕ) (xs : List ℕ) → size ≡ n → from ≡ min (i * size) (length xs) → to ≡ min (i * size + size) (length xs)
    → take (to - from) (drop from xs) ≡ nth_word n i xs
flags_word n size i from to xs same from_is to_is =
    ap₂ (λ (a b : ℕ). take (b - a) (drop a xs)) from_is to_is ∙ flags_read (i * size) (i * size + size) size xs refl
    ∙ ap (λ (s : ℕ). nth_word s i xs) same

-- ---- how many symbols change

-- a word that is meant differs at no more places than there are checks
pub changed-few : (width : ℕ) (times : ℕ → ℕ → ℕ) (root first n checks : ℕ) (received places sent : List ℕ)
    → IsMeantIn width times root first n checks received places sent
    → marked_below (λ i. not (nat_eq (slice_index received i) (slice_index sent i))) n ≤ checks
changed-few width times root first n checks received places sent meant =
    let near = meant.near in
    let some = total-most (λ i. cond (differs i) 1 0) (λ i. cond (wrong i) 1 0 + cond (is_listed places i) 1 0) n
    (λ i below. either (differs i) (is_listed places i)) in
    let both = total-add (λ i. cond (wrong i) 1 0) (λ i. cond (is_listed places i) 1 0) n in
    omega (arith, near, some, both)
  where
    differs : ℕ → Bool
    differs i = not (nat_eq (slice_index received i) (slice_index sent i))

    wrong : ℕ → Bool
    wrong = is_wrong (λ i. i) (slice_index received) (is_listed places) (slice_index sent)

    either : (a e : Bool) → cond a 1 0 ≤ cond (not e && a) 1 0 + cond e 1 0
    either true true = omega arith
    either true false = omega arith
    either false true = omega arith
    either false false = omega arith
