-- Slices of words whose first words are changed many at once, and those behind them one after another.
use Rattle.std.proofs.Common.{◌≡◌, ◌⊎◌, inl, inr, ℕ, ◌+◌, ◌-◌, ◌<◌, ◌≤◌, List, ◌++◌, length, get_or, map, sym, ◌∙◌, ap, ap₂, arith}
use Rattle.std.specs.Prelude.{bit_xor, slice_index}
use Rattle.std.proofs.lemmas.Bool.{cases_lt}
use Rattle.std.proofs.lemmas.List.{get_or-append_right, get_or-map, get_or_append_left, length-append}
use Rattle.field_base.specs.Tower.{tower_mul}
use Rattle.field_base.proofs.TowerRing.{tower_ring}
use Rattle.additive_transforms.specs.Units.{FirstAre}
use Rattle.many_words.specs.Places.{FirstHold}

module _ {W : Type 0} (number : W → ℕ) (value : ℕ → W → ℕ) where
  -- what is known of the numbers in their order
  pub first_of_numbers : (n : ℕ) (old new : List W) (are : ℕ → ℕ) → length new ≡ length old → n ≤ length old
      → ((k : ℕ) → k < n → slice_index (map number new) k ≡ are k)
      → ((k : ℕ) → n ≤ k → slice_index (map number new) k ≡ slice_index (map number old) k)
      → ((k : ℕ) → k < n → (d : W) → are k ≡ value k d) → FirstHold number n value old new
  first_of_numbers n old new are long few done kept is =
      record {
        long = long;
        few = few;
        done = λ k below d. sym (get_or-map number new k d 0 (omega (arith, long, few, below))) ∙ done k below ∙ is k below d;
        kept =
            λ k past inside d.
            sym (get_or-map number new k d 0 (omega (arith, long, inside))) ∙ kept k past ∙ get_or-map number old k d 0 inside;
      }

-- those behind the first n words, which are the front of a slice, are changed by themselves: `step` says what becomes of a word at its place
module _ {W : Type 0} (number : W → ℕ) (step : ℕ → W → ℕ → ℕ) {n : ℕ} {old mid : List W} (front back behind : List W)
    (first : FirstHold number n (λ k d. step k d (number (get_or old k d))) old mid) (parts : mid ≡ front ++ back) (front_long : length front ≡ n)
    (back_long : length behind ≡ length back) where
  -- the slice is as long as it was
  both_long : length (front ++ behind) ≡ length old
  both_long =
      let whole = length-append front behind in
      let before = length-append front back in
      let same : length mid ≡ length (front ++ back) = ap length parts in
      let long = first.long in
      omega (arith, whole, before, same, long, back_long)

  -- and each word is changed
  pub both_changed : ((j : ℕ) → j < length behind → (d : W) → number (get_or behind j d) ≡ step (n + j) d (number (get_or back j d)))
      → (k : ℕ) → k < length (front ++ behind) → (d : W) → number (get_or (front ++ behind) k d) ≡ step k d (number (get_or old k d))
  both_changed done k inside d = at (cases_lt k n)
    where
      at : (k < n) ⊎ (n ≤ k) → number (get_or (front ++ behind) k d) ≡ step k d (number (get_or old k d))
      at (inl below) =
          ap number
          (get_or_append_left front behind d k (omega (arith, below, front_long))
          ∙ sym (get_or_append_left front back d k (omega (arith, below, front_long))) ∙ ap (λ (l : List W). get_or l k d) (sym parts))
          ∙ first.done k below d
      at (inr past) =
          let whole = length-append front behind in
          let all = both_long in
          let place : n + (k - n) ≡ k = omega (arith, past) in
          ap number (get_or-append_right front behind n k d front_long past)
          ∙ done (k - n) (omega (arith, inside, whole, front_long, past)) d
          ∙ ap₂ (λ (p x : ℕ). step p d x) place
          (ap number (sym (get_or-append_right front back n k d front_long past) ∙ ap (λ (l : List W). get_or l k d) (sym parts))
          ∙ first.kept k past (omega (arith, inside, all)) d)

-- the words behind the first n, at their places
pub word_behind : {W : Type 0} (n : ℕ) {words : List W} (front back : List W) → words ≡ front ++ back → length front ≡ n → (j : ℕ) (d : W)
    → get_or back j d ≡ get_or words (n + j) d
word_behind n {words} front back parts long j d =
    let place : n + j - n ≡ j = omega arith in
    sym (ap (λ (l : List _). get_or l (n + j) d) parts ∙ get_or-append_right front back n (n + j) d long (omega arith)
    ∙ ap (λ (i : ℕ). get_or back i d) place)

-- ---- products by a scalar

module _ {W : Type 0} (number : W → ℕ) (product : ℕ → ℕ → ℕ) (s : ℕ) where
  -- the products of words
  abbrev pub multiplied : List W → ℕ → W → ℕ
  multiplied old k d = product (number (get_or old k d)) s

  -- and their sums with others
  abbrev pub summed : List W → List W → ℕ → W → ℕ
  summed old words k d = bit_xor (number (get_or old k d)) (product s (number (get_or words k d)))

  -- the first ones are those of the level
  module _ (k : ℕ) (is : (x y : ℕ) → product x y ≡ tower_mul k x y) (n : ℕ) where
    pub first_multiplied : (old new : List W) → length new ≡ length old → n ≤ length old
        → FirstAre n (λ i. tower_mul k s (slice_index (map number old) i)) (map number old) (map number new)
        → FirstHold number n (multiplied old) old new
    first_multiplied old new long few are =
        first_of_numbers number (multiplied old) n old new (λ i. tower_mul k s (slice_index (map number old) i)) long few are.done are.kept
        (λ i below d.
        ap (tower_mul k s) (get_or-map number old i d 0 (omega (arith, below, few)))
        ∙ (tower_ring k).comm s (number (get_or old i d)) ∙ sym (is (number (get_or old i d)) s))

    pub first_added : (words old new : List W) → length words ≡ length old → length new ≡ length old → n ≤ length old
        → FirstAre n (λ i. bit_xor (slice_index (map number old) i) (tower_mul k s (slice_index (map number words) i))) (map number old)
        (map number new)
        → FirstHold number n (summed old words) old new
    first_added words old new same long few are =
        first_of_numbers number (summed old words) n old new
        (λ i. bit_xor (slice_index (map number old) i) (tower_mul k s (slice_index (map number words) i))) long few are.done are.kept
        (λ i below d.
        ap₂ bit_xor (get_or-map number old i d 0 (omega (arith, below, few)))
        (ap (tower_mul k s) (get_or-map number words i d 0 (omega (arith, below, few, same)))
        ∙ sym (is s (number (get_or words i d)))))

  -- and the words behind them by themselves, as are the sums of products
  pub sums_behind : {n : ℕ} {words old mid : List W} (front_words back_words front back behind : List W) → FirstHold number n (summed old words) old mid
      → mid ≡ front ++ back → length front ≡ n → words ≡ front_words ++ back_words → length front_words ≡ n → length behind ≡ length back
      → ((j : ℕ) → j < length behind → (d : W)
      → number (get_or behind j d) ≡ bit_xor (number (get_or back j d)) (product s (number (get_or back_words j d))))
      → (k : ℕ) → k < length (front ++ behind) → (d : W) → number (get_or (front ++ behind) k d) ≡ summed old words k d
  sums_behind {n} {words} front_words back_words front back behind first parts long others others_long back_long done =
      both_changed number (λ k d x. bit_xor x (product s (number (get_or words k d)))) front back behind first parts long back_long
      (λ j inside d.
      done j inside d
      ∙ ap (λ (w : W). bit_xor (number (get_or back j d)) (product s (number w))) (word_behind n front_words back_words others others_long j d))
