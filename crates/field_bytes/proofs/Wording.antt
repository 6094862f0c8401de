-- All words that a stream of words gives, of bytes or of rows of bytes.
use Rattle.std.proofs.Common.{◌≡◌, ℕ, suc, ◌+◌, ◌*◌, ◌<◌, ◌≤◌, ◌⊎◌, Bool, refl, sym, ◌∙◌, ap, arith, inl, inr, true, false, List, [], ◌∷◌, ◌++◌, length, None, subst}
use Rattle.std.proofs.lemmas.Bool.{true≢false}
use Rattle.std.proofs.lemmas.List.{append-nil, length-append}
use native.Mathlib.Nat.{mul-suc, mul-zero}
use Rattle.std.specs.Iterator.{Drains, Yields, YieldsThen}
use Rattle.std.specs.declared.option.Option.{Option}
use Rattle.field_bytes.specs.Words.{AreWordsBy, BeginsWordsBy, GivesWordOf, TakesOn}
use Rattle.field_bytes.proofs.Taking.{yields_append}

module _ {S A W X : Type 0} (next_gives : S → Option A → S → Type 0) (n : ℕ) (is : W → List A → Type 0) (ended : X → Bool) (source : X → S) where
  -- a call of a stream X, which keeps its source, and whether it has ended
  abbrev Gives : X → Option W → X → Type 0
  Gives s r t = GivesWordOf next_gives n is (ended s) (source s) r (ended t) (source t)

  -- a stream that has ended takes nothing
  takes_nothing : (s t : X) (bytes : List A) → ended s ≡ true → TakesOn next_gives n (ended s) (source s) bytes (ended t) (source t) → bytes ≡ []
  takes_nothing s t bytes over (inl none) = none.2
  takes_nothing s t bytes over (inr (inl last)) = absurd (true≢false (sym over ∙ last.0))
  takes_nothing s t bytes over (inr (inr whole)) = absurd (true≢false (sym over ∙ whole.0))

  -- a stream that has ended gives no word
  ended_gives : (s t : X) (words : List W) → ended s ≡ true → Yields Gives s words t → words ≡ []
  ended_gives s t [] over run = refl
  ended_gives s t (w ∷ words) over run =
      let none = ap length (takes_nothing s run.0 run.1.0 over run.1.1) in absurd (omega (arith, none, run.1.2.0))

  -- some items, and then all others
  drains_append : (xs ys : List A) (s t : S) → Yields next_gives s xs t → Drains next_gives t ys → Drains next_gives s (xs ++ ys)
  drains_append xs ys s t begun rest = (rest.0, (rest.1.0, yields_append next_gives xs ys s t rest.1.0 begun rest.1.1, rest.1.2))

  -- the bytes that are left make the words that come
  abbrev Makes : X → List W → Type 0
  Makes s words = (items : List A) × Drains next_gives (source s) items × AreWordsBy is n items words

  -- a call that takes no item makes no word
  last_call : (s t : X) (bytes : List A) → 0 < n → ended s ≡ false → bytes ≡ [] → TakesOn next_gives n (ended s) (source s) bytes (ended t) (source t) → Makes s []
  last_call s t bytes wide goes none (inl past) = absurd (true≢false (sym past.0 ∙ goes))
  last_call s t bytes wide goes none (inr (inl last)) = (bytes, (source t, last.2), none)
  last_call s t bytes wide goes none (inr (inr whole)) =
      let short = ap length none in absurd (omega (arith, wide, short, whole.3))

  -- a call that takes items makes their word, and the later calls the others
  call : (s j t : X) (bytes : List A) (w : W) (words : List W) → ended s ≡ false → 0 < length bytes → is w bytes
      → (ended j ≡ false → Makes j words) → Yields Gives j words t → TakesOn next_gives n (ended s) (source s) bytes (ended j) (source j) → Makes s (w ∷ words)
  call s j t bytes w words goes some value others run (inl past) = absurd (true≢false (sym past.0 ∙ goes))
  call s j t bytes w words goes some value others run (inr (inl last)) =
      let none = ended_gives j t words last.1 run in
      let few : length bytes ≤ n = omega (arith, last.3) in (
        bytes,
        (source j, last.2),
        (bytes, [], sym (append-nil bytes), value, some, few, (λ less. refl), subst (λ ws. AreWordsBy is n [] ws) (sym none) refl),
      )
  call s j t bytes w words goes some value others run (inr (inr whole)) =
      let more = others whole.1 in
      let few : length bytes ≤ n = omega (arith, whole.3) in (
        bytes ++ more.0,
        drains_append bytes more.0 (source s) (source j) whole.2 more.1,
        (bytes, more.0, refl, value, some, few, (λ less. absurd (omega (arith, less, whole.3))), more.2),
      )

  -- a run of calls up to None makes the words of all items
  run_makes : (s t u : X) (words : List W) → 0 < n → ended s ≡ false → Yields Gives s words t
      → Gives t None u → Makes s words
  run_makes s t u [] wide goes same end =
      subst (λ x. Makes x []) (sym same)
      (last_call t u end.0 wide (subst (λ (x : X). ended x ≡ false) same goes) end.2 end.1)
  run_makes s t u (w ∷ words) wide goes run end =
      call s run.0 t run.1.0 w words goes run.1.2.0 run.1.2.1 (λ on. run_makes run.0 t u words wide on run.2 end) run.2 run.1.1

  -- a stream that begins gives the words of all items of its source
  pub words_given : (s : X) (words : List W) → 0 < n → ended s ≡ false → Drains Gives s words
      → (items : List A) × Drains next_gives (source s) items × AreWordsBy is n items words
  words_given s words wide goes run = run_makes s run.1.0 run.0 words wide goes run.1.1 run.1.2

  -- the words that come next, up to t
  abbrev Begins : X → List W → X → Type 0
  Begins s words t = BeginsWordsBy next_gives n is ended source (source s) words t

  -- the items of one word, and those of the words after it
  after_whole : (s j t : X) (bytes : List A) (words : List W) → Yields next_gives (source s) bytes (source j) → length bytes ≡ n
      → (more : Begins j words t)
      → ((ended t ≡ false) × Yields next_gives (source s) (bytes ++ more.0) (source t) × (length (bytes ++ more.0) ≡ n * suc (length words)))
      ⊎ ((ended t ≡ true) × YieldsThen next_gives (source s) (bytes ++ more.0) None (source t))
  after_whole s j t bytes words begun whole (items, are, inl (goes, run, long)) =
      let both = length-append bytes items in
      let product : n * suc (length words) ≡ n * length words + n = mul-suc n (length words) in
      inl (goes, yields_append next_gives bytes items (source s) (source j) (source t) begun run, omega (arith, both, product, whole, long))
  after_whole s j t bytes words begun whole (items, are, inr (over, (mid, run, last))) =
      inr (over, (mid, yields_append next_gives bytes items (source s) (source j) mid begun run, last))

  -- one word, and the words after it
  begun_by : (s j t : X) (bytes : List A) (w : W) (words : List W) → ended s ≡ false → 0 < length bytes → is w bytes
      → (ended j ≡ false → Begins j words t) → Yields Gives j words t → TakesOn next_gives n (ended s) (source s) bytes (ended j) (source j)
      → Begins s (w ∷ words) t
  begun_by s j t bytes w words goes some value others run (inl past) = absurd (true≢false (sym past.0 ∙ goes))
  begun_by s j t bytes w words goes some value others run (inr (inl last)) =
      let none = ended_gives j t words last.1 run in
      let same : j ≡ t = subst (λ ws. Yields Gives j ws t) none run in
      let few : length bytes ≤ n = omega (arith, last.3) in (
        bytes,
        (bytes, [], sym (append-nil bytes), value, some, few, (λ less. refl), subst (λ ws. AreWordsBy is n [] ws) (sym none) refl),
        inr (ap ended (sym same) ∙ last.1, subst (λ (x : X). YieldsThen next_gives (source s) bytes None (source x)) same last.2),
      )
  begun_by s j t bytes w words goes some value others run (inr (inr whole)) =
      let more = others whole.1 in
      let few : length bytes ≤ n = omega (arith, whole.3) in (
        bytes ++ more.0,
        (bytes, more.0, refl, value, some, few, (λ less. absurd (omega (arith, less, whole.3))), more.1),
        after_whole s j t bytes words whole.2 whole.3 more,
      )

  -- a run of calls, wherever it is cut short, makes the words of the items that it took
  pub words_begun : (s t : X) (words : List W) → ended s ≡ false → Yields Gives s words t → BeginsWordsBy next_gives n is ended source (source s) words t
  words_begun s t [] goes same =
      ([], refl, inl (subst (λ (x : X). ended x ≡ false) same goes, ap source same, sym (mul-zero n)))
  words_begun s t (w ∷ words) goes run =
      begun_by s run.0 t run.1.0 w words goes run.1.2.0 run.1.2.1 (λ on. words_begun run.0 t words on run.2) run.2 run.1.1
