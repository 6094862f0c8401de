-- The words of a line from its front: the spaces before the first word, and that word.
use Rattle.std.proofs.Common.{◌≡◌, ◌≢◌, ℕ, suc, ◌+◌, ◌-◌, ◌<◌, ◌≤◌, Bool, true, false, not, cond, List, [], ◌∷◌, ◌++◌, length, get_or, take, drop, Option, Some, None, refl, sym, ◌∙◌, ap, ap₂, arith, ⊎_elim}
use Rattle.std.specs.List.{All, filter, onto_first, slice_split, position, position_or_len}
use Rattle.std.specs.Option.{unwrap_or}
use Rattle.std.proofs.lemmas.Bool.{ne_eqb, cases_lt, lt-ltb, le-ltb, not-true}
use Rattle.std.proofs.lemmas.List.{take_all, drop_all, drop_more, length-take, length-drop, get_or-drop, take_rest}
use Rattle.std.proofs.lemmas.List.Sums.{passes_at_first, fails_before_first}
use Rattle.std.proofs.lemmas.List.Splits.{slice_split-cons_yes, slice_split_first, slice_split_none, length-slice_split}
use Rattle.std.proofs.lemmas.List.Elements.{filter-append}
use Rattle.calculator.specs.Words.{is_space, has_bytes, words}

-- no bytes have no words
pub words-nil : words [] ≡ []
unfolding words
words-nil = refl

-- a space in front counts for nothing
words-space : (byte : ℕ) (rest : List ℕ) → is_space byte ≡ true → words (byte ∷ rest) ≡ words rest
unfolding words
words-space byte rest space = ap (filter has_bytes) (slice_split-cons_yes is_space byte rest space)

-- ---- the spaces before the first word

-- a space in front is passed, and another byte is not
past_one : (b : Bool) (byte : ℕ) (rest : List ℕ) (n : ℕ) → is_space byte ≡ b → words (drop n rest) ≡ words rest
    → words (drop (cond (not (not b)) (1 + n) 0) (byte ∷ rest)) ≡ words (byte ∷ rest)
past_one false byte rest n other known = refl
past_one true byte rest n space known =
    let one_more : 1 + n ≡ suc n = omega arith in
    ap (λ (k : ℕ). words (drop k (byte ∷ rest))) one_more ∙ known ∙ sym (words-space byte rest space)

-- the words of a line are those from its first byte that is no space
pub words-past_spaces : (line : List ℕ)
    → words (drop (position_or_len (λ byte. not (is_space byte)) line) line) ≡ words line
words-past_spaces [] = refl
words-past_spaces (byte ∷ rest) =
    past_one (is_space byte) byte rest (position_or_len (λ byte. not (is_space byte)) rest) refl (words-past_spaces rest)

-- ---- the first word

-- a list that is not empty has bytes
has_bytes-yes : (word : List ℕ) → 0 < length word → has_bytes word ≡ true
has_bytes-yes [] long = absurd (omega arith)
has_bytes-yes (byte ∷ rest) long = refl

-- a part that has bytes is kept as a word
filter-yes : (word : List ℕ) (rest : List (List ℕ)) → 0 < length word
    → filter has_bytes (word ∷ rest) ≡ word ∷ filter has_bytes rest
filter-yes word rest long =
    ap (λ (b : Bool). cond b (word ∷ filter has_bytes rest) (filter has_bytes rest)) (has_bytes-yes word long)

-- a line that does not begin with a space is its first word, up to the first space, and then the words from there on
words-first : (line : List ℕ) → 0 < position_or_len is_space line → position_or_len is_space line < length line
    → words line ≡ take (position_or_len is_space line) line ∷ words (drop (position_or_len is_space line) line)
unfolding words
words-first line long ends =
    let end = position_or_len is_space line in
    let long_word : 0 < length (take end line) = omega (arith, length-take end line) in
    ap (filter has_bytes) (slice_split_first is_space line 0 ends) ∙ filter-yes (take end line) (slice_split is_space (drop (end + 1) line)) long_word
    ∙ ap (λ (rest : List (List ℕ)). take end line ∷ rest)
    (sym (ap words (drop_more line end 0 ends) ∙ words-space (get_or line end 0) (drop (end + 1) line) (passes_at_first is_space line 0 ends)))

-- a line with no space is its only word
words-last : (line : List ℕ) → 0 < length line → length line ≤ position_or_len is_space line → words line ≡ line ∷ []
unfolding words
words-last line long last =
    ap (filter has_bytes) (slice_split_none is_space line (λ k d below. fails_before_first is_space line k d (omega arith)))
    ∙ filter-yes line [] long

-- ---- the places that the code looks for

-- where no item is found, the place is past the end
place-None : {A : Type 0} (p : A → Bool) (xs : List A) → position p xs ≡ None → length xs ≤ position_or_len p xs
place-None p xs none =
    ⊎_elim (λ below. let found = lt-ltb (position_or_len p xs) (length xs) below in
    let both = sym (ap (λ (b : Bool). cond b (Some (position_or_len p xs)) None) found) ∙ none in absurd (cc))
    (λ past. past) (cases_lt (position_or_len p xs) (length xs))

-- where an item is found, the place is its index, within the list
place-Some : {A : Type 0} (p : A → Bool) (xs : List A) (i : ℕ) → position p xs ≡ Some i → (position_or_len p xs ≡ i) × (i < length xs)
place-Some p xs i some =
    ⊎_elim (λ below. let found = lt-ltb (position_or_len p xs) (length xs) below in
    let both = sym (ap (λ (b : Bool). cond b (Some (position_or_len p xs)) None) found) ∙ some in
    let here : position_or_len p xs ≡ i = cc in (here, omega arith))
    (λ past. let lost = le-ltb (position_or_len p xs) (length xs) past in
    let both = sym (ap (λ (b : Bool). cond b (Some (position_or_len p xs)) None) lost) ∙ some in absurd (cc))
    (cases_lt (position_or_len p xs) (length xs))

-- a line that begins with no space begins with a word of one byte at least
word_long : (line : List ℕ) → 0 < length line → is_space (get_or line 0 0) ≡ false → 0 < position_or_len is_space line
word_long [] long other = absurd (omega arith)
word_long (byte ∷ rest) long other =
    let long_word : position_or_len is_space (byte ∷ rest) ≡ 1 + position_or_len is_space rest =
    ap (λ (b : Bool). cond (not b) (1 + position_or_len is_space rest) 0) other in
    omega arith

-- the first word ends at the first space, or with the line
first_word : (line : List ℕ) (end : ℕ) → 0 < length line → is_space (get_or line 0 0) ≡ false
    → end ≡ unwrap_or (position is_space line) (length line) → words line ≡ take end line ∷ words (drop end line)
first_word line end long other ends =
    let place = position_or_len is_space line in
    ⊎_elim (λ below. let here : end ≡ place = ends ∙ ap (λ (b : Bool). unwrap_or (cond b (Some place) None) (length line)) (lt-ltb place (length line) below) in
    rw here (words-first line (word_long line long other) below))
    (λ past. let here : end ≡ length line = ends ∙ ap (λ (b : Bool). unwrap_or (cond b (Some place) None) (length line)) (le-ltb place (length line) past) in
    words-last line long past
    ∙ ap₂ (λ (word : List ℕ) (rest : List (List ℕ)). word ∷ rest) (sym (take_all end line (omega arith)))
    (sym (ap words (drop_all end line (omega arith)) ∙ words-nil)))
    (cases_lt place (length line))

-- ---- the calls of `next_word`

-- a line in which every byte is a space has no word
pub words_none : (line : List ℕ) → position (λ byte. not (is_space byte)) line ≡ None → words line ≡ []
words_none line none =
    sym (words-past_spaces line) ∙ ap words (drop_all _ line (place-None (λ byte. not (is_space byte)) line none)) ∙ words-nil

-- the word from the first byte that is no space to the next space is the first word; the others follow it
pub words_some : (line begun : List ℕ) (start end : ℕ) (found : Option ℕ) → begun ≡ drop start line
    → Some start ≡ position (λ byte. not (is_space byte)) line → found ≡ position is_space begun
    → end ≡ unwrap_or found (length begun)
    → words line ≡ take end begun ∷ words (take (length begun - end) (drop end begun))
words_some line begun start end found from starts finds ends =
    let place = place-Some (λ byte. not (is_space byte)) line start (sym starts) in
    let here : start + 0 ≡ position_or_len (λ byte. not (is_space byte)) line = omega arith in
    let other : is_space (get_or begun 0 0) ≡ false =
    ap (λ (part : List ℕ). is_space (get_or part 0 0)) from
    ∙ ap is_space (get_or-drop start line 0 0 ∙ ap (λ (i : ℕ). get_or line i 0) here)
    ∙ not-true _ (passes_at_first (λ byte. not (is_space byte)) line 0 (omega arith)) in
    let same : words begun ≡ words line =
    ap words from ∙ ap (λ (n : ℕ). words (drop n line)) (sym place.0) ∙ words-past_spaces line in
    let long : 0 < length begun = omega (arith, ap length from, length-drop start line) in
    sym same ∙ first_word begun end long other (ends ∙ ap (λ (o : Option ℕ). unwrap_or o (length begun)) finds)
    ∙ ap (λ (rest : List ℕ). take end begun ∷ words rest) (sym (take_rest begun end))

-- ---- the laws of words

-- bytes with no space among them are one word
pub words-run : (run : List ℕ) → 0 < length run → All (λ byte. byte ≢ 32) run → words run ≡ run ∷ []
unfolding words
words-run run long other =
    ap (filter has_bytes) (slice_split_none is_space run (λ k d below. ne_eqb (get_or run k d) 32 (other k d below)))
    ∙ filter-yes run [] long

-- a byte in front of the first of some parts is in front of the first of all
onto_first-append : (byte : ℕ) (parts rest : List (List ℕ)) → 0 < length parts
    → onto_first byte (parts ++ rest) ≡ onto_first byte parts ++ rest
onto_first-append byte [] rest some = absurd (omega arith)
onto_first-append byte (part ∷ parts) rest some = refl

-- one byte more in front of two lists of parts: a space begins an empty part, and another byte joins the first
split_one : (b : Bool) (byte : ℕ) (before after : List ℕ)
    → slice_split is_space (before ++ (32 ∷ after)) ≡ slice_split is_space before ++ slice_split is_space after
    → cond b ([] ∷ slice_split is_space (before ++ (32 ∷ after))) (onto_first byte (slice_split is_space (before ++ (32 ∷ after))))
    ≡ cond b ([] ∷ slice_split is_space before) (onto_first byte (slice_split is_space before)) ++ slice_split is_space after
split_one true byte before after known = ap (λ (parts : List (List ℕ)). [] ∷ parts) known
split_one false byte before after known =
    ap (onto_first byte) known
    ∙ onto_first-append byte (slice_split is_space before) (slice_split is_space after)
    (omega (arith, length-slice_split is_space before))

-- the parts of what stands before a space and after it are the parts of both
slice_split-space : (before after : List ℕ)
    → slice_split is_space (before ++ (32 ∷ after)) ≡ slice_split is_space before ++ slice_split is_space after
slice_split-space [] after = refl
slice_split-space (byte ∷ before) after = split_one (is_space byte) byte before after (slice_split-space before after)

-- what stands before a space and what stands after it have their words apart
pub words-space_between : (before after : List ℕ) → words (before ++ (32 ∷ after)) ≡ words before ++ words after
unfolding words
words-space_between before after =
    ap (filter has_bytes) (slice_split-space before after)
    ∙ filter-append has_bytes (slice_split is_space before) (slice_split is_space after)
