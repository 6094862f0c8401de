-- Pairs of places of two slices, one after another.
use Rattle.std.proofs.Common.{◌≡◌, ◌≢◌, ◌⊎◌, inl, inr, ℕ, zero, suc, ◌+◌, ◌<◌, ◌≤◌, Bool, true, false, List, [], ◌∷◌, ◌++◌, length, map, get_or, refl, sym, ◌∙◌, ap, ap₂, subst, arith, lit<, get_or-set_other, get_or-set_same}
use Rattle.std.specs.Prelude.{bit_xor, slice_index, IsTrue}
use Rattle.std.specs.Simd.Lanes.{zip2}
use Rattle.std.proofs.Math.ListN.{set}
use Rattle.std.proofs.lemmas.Bool.{cases_lt}
use Rattle.std.proofs.lemmas.List.{ext_get_or, get_or-map, length-map, length-set, map-set}
use Rattle.std.proofs.lemmas.Simd.{length-zip2}
use Rattle.ghash_slices.specs.LowStages.{ghash_product}
use Rattle.ghash_slices.specs.Stages.{add_multiple}
use Rattle.additive_transforms.specs.Stages.{IsButterfly, TakesBlock, TakesSlices}
pub use Rattle.additive_transforms.specs.Pairs.{PairsSoFar, taken_pair}
use Rattle.additive_transforms.proofs.Butterflies.{read_both, read_lower, read_upper, taken_back, taken_on}
use Rattle.field_base.proofs.RingLemmas.{xor_back}

-- the forward butterfly takes a pair to a pair
abbrev pub forward_of : (ℕ → ℕ → ℕ) → ℕ → ℕ → ℕ → ℕ → ℕ → Type 0
forward_of times s x y x' y' = (x' ≡ add_multiple times s x y) × (y' ≡ bit_xor y x')

-- and the inverse one
abbrev pub inverse_of : (ℕ → ℕ → ℕ) → ℕ → ℕ → ℕ → ℕ → ℕ → Type 0
inverse_of times s x y x' y' = (y' ≡ bit_xor y x) × (x' ≡ add_multiple times s x y')

-- the forward one does, or, where `inverse` is true, the inverse one
abbrev pub one_of : Bool → (ℕ → ℕ → ℕ) → ℕ → ℕ → ℕ → ℕ → ℕ → Type 0
one_of false = forward_of
one_of true = inverse_of

-- before the first pair nothing is done
pub pairs_start : (pair : ℕ → ℕ → ℕ → ℕ → Type 0) (lo hi : List ℕ) → PairsSoFar pair 0 lo hi lo hi
pairs_start pair lo hi =
    record {
      low_length = refl;
      high_length = refl;
      done = λ p below. absurd (omega arith);
      low_rest = λ p past. refl;
      high_rest = λ p past. refl;
    }

-- one more pair done, of elements by their values, which were read from both slices and written there
module _ {A : Type 0} (value : A → ℕ) (pair : ℕ → ℕ → ℕ → ℕ → Type 0) (n : ℕ) (lo hi low high : List A) (x y x' y' : A) where
  -- place n of a list with a value set there
  at : (xs : List A) (z : A) → n < length xs → slice_index (map value (set xs n z)) n ≡ value z
  at xs z inside =
      ap (λ (l : List ℕ). slice_index l n) (map-set value xs n z)
      ∙ get_or-set_same (map value xs) n (value z) 0 (let same = length-map xs value in omega (arith, same))

  -- any other place
  off : (xs : List A) (z : A) (p : ℕ) → p ≢ n → slice_index (map value (set xs n z)) p ≡ slice_index (map value xs) p
  off xs z p other = ap (λ (l : List ℕ). slice_index l p) (map-set value xs n z) ∙ get_or-set_other (map value xs) n p (value z) 0 other

  -- and the length
  as_long : (xs : List A) (z : A) → length (map value (set xs n z)) ≡ length (map value xs)
  as_long xs z = ap length (map-set value xs n z) ∙ length-set (map value xs) n (value z)

  -- a list of as many values as another has place n where that has it
  inside_both : (xs ys : List A) → length (map value ys) ≡ length (map value xs) → n < length xs → n < length ys
  inside_both xs ys same below =
      let count = length-map xs value in let count' = length-map ys value in omega (arith, same, below, count, count')

  pub pairs_step : length lo ≡ length hi → n < length lo
      → pair (value (get_or low n x)) (value (get_or high n y)) (value x') (value y')
      → PairsSoFar pair n (map value lo) (map value hi) (map value low) (map value high)
      → PairsSoFar pair (n + 1) (map value lo) (map value hi) (map value (set low n x')) (map value (set high n y'))
  pairs_step equal below is so_far =
      record {
        low_length = as_long low x' ∙ so_far.low_length;
        high_length = as_long high y' ∙ so_far.high_length;
        done = λ p within. pick p within (cases_lt p n);
        low_rest = λ p past. off low x' p (omega arith) ∙ so_far.low_rest p (omega arith);
        high_rest = λ p past. off high y' p (omega arith) ∙ so_far.high_rest p (omega arith);
      }
    where
      low_in : n < length low
      low_in = inside_both lo low so_far.low_length below

      high_in : n < length high
      high_in = inside_both hi high so_far.high_length (subst (λ (m : ℕ). n < m) equal below)

      same : (a b a' b' c d c' d' : ℕ) → a ≡ a' → b ≡ b' → c ≡ c' → d ≡ d' → pair a b c d → pair a' b' c' d'
      same a b a' b' c d c' d' first second third fourth holds =
          subst (λ (v : ℕ). pair a' b' c' v) fourth (subst (λ (v : ℕ). pair a' b' v d) third
          (subst (λ (v : ℕ). pair a' v c d) second (subst (λ (v : ℕ). pair v b c d) first holds)))

      pick : (p : ℕ) → p < n + 1 → (p < n) ⊎ (n ≤ p) → pair (slice_index (map value lo) p) (slice_index (map value hi) p)
          (slice_index (map value (set low n x')) p) (slice_index (map value (set high n y')) p)
      pick p within (inl earlier) =
          same _ _ _ _ _ _ _ _ refl refl (sym (off low x' p (omega arith))) (sym (off high y' p (omega arith))) (so_far.done p earlier)
      pick p within (inr last) =
          let here : n ≡ p = omega arith in
          let from : n ≤ n = omega arith in
          subst (λ (m : ℕ). pair (slice_index (map value lo) m) (slice_index (map value hi) m)
          (slice_index (map value (set low n x')) m) (slice_index (map value (set high n y')) m)) here
          (same _ _ _ _ _ _ _ _ (sym (get_or-map value low n x 0 low_in) ∙ so_far.low_rest n from)
          (sym (get_or-map value high n y 0 high_in) ∙ so_far.high_rest n from) (sym (at low x' low_in)) (sym (at high y' high_in)) is)

-- `pairs_step` for a butterfly of either direction, with names for the lists after it
pub slices_step : {A : Type 0} (value : A → ℕ) (s n : ℕ) (lo hi low high : List A) → length lo ≡ length hi → n < length lo
    → (inverse : Bool) → PairsSoFar (one_of inverse ghash_product s) n (map value lo) (map value hi) (map value low) (map value high)
    → (way : Bool) → inverse ≡ way → (x y x' y' : A) (low' high' : List A) → low' ≡ set low n x' → high' ≡ set high n y'
    → one_of way ghash_product s (value (get_or low n x)) (value (get_or high n y)) (value x') (value y')
    → PairsSoFar (one_of inverse ghash_product s) (n + 1) (map value lo) (map value hi) (map value low') (map value high')
slices_step {A} value s n lo hi low high equal below inverse so_far way chosen x y x' y' low' high' lower upper is =
    subst (λ (l : List A). PairsSoFar pair (n + 1) (map value lo) (map value hi) (map value l) (map value high')) (sym lower)
    (subst (λ (l : List A). PairsSoFar pair (n + 1) (map value lo) (map value hi) (map value (set low n x')) (map value l)) (sym upper)
    (pairs_step value pair n lo hi low high x y x' y' equal below
    (subst (λ (b : Bool). one_of b ghash_product s (value (get_or low n x)) (value (get_or high n y)) (value x') (value y')) (sym chosen)
    is)
    so_far))
  where
    pair : ℕ → ℕ → ℕ → ℕ → Type 0
    pair = one_of inverse ghash_product s

-- after the last pair each list is the butterfly's
module _ (times : ℕ → ℕ → ℕ) (s n : ℕ) (lo hi lo' hi' : List ℕ) (equal : length lo ≡ length hi) (all : length lo ≤ n) where
  forward_numbers : PairsSoFar (forward_of times s) n lo hi lo' hi'
      → (lo' ≡ zip2 (add_multiple times s) lo hi) × (hi' ≡ zip2 bit_xor hi lo')
  forward_numbers so_far = (
    ext_get_or 0 lo' (zip2 (add_multiple times s) lo hi)
        (so_far.low_length ∙ sym (length-zip2 (add_multiple times s) lo hi equal))
        (λ p below.
        let inside : p < length lo = let same = so_far.low_length in omega (arith, same) in
        (so_far.done p (omega arith)).0
        ∙ sym (read_both (add_multiple times s) (length lo) lo hi refl (sym equal) p inside)),
    ext_get_or 0 hi' (zip2 bit_xor hi lo') (so_far.high_length ∙ sym (length-zip2 bit_xor hi lo' (sym (so_far.low_length ∙ equal))))
        (λ p below.
        let inside : p < length hi = let same = so_far.high_length in omega (arith, same) in
        (so_far.done p (omega arith)).1
        ∙ sym (read_both bit_xor (length hi) hi lo' refl (so_far.low_length ∙ equal) p inside)),
  )

  inverse_numbers : PairsSoFar (inverse_of times s) n lo hi lo' hi'
      → (hi' ≡ zip2 bit_xor hi lo) × (lo' ≡ zip2 (add_multiple times s) lo hi')
  inverse_numbers so_far = (
    ext_get_or 0 hi' (zip2 bit_xor hi lo) (so_far.high_length ∙ sym (length-zip2 bit_xor hi lo (sym equal)))
        (λ p below.
        let inside : p < length hi = let same = so_far.high_length in omega (arith, same) in
        (so_far.done p (omega arith)).0 ∙ sym (read_both bit_xor (length hi) hi lo refl equal p inside)),
    ext_get_or 0 lo' (zip2 (add_multiple times s) lo hi')
        (so_far.low_length ∙ sym (length-zip2 (add_multiple times s) lo hi' (equal ∙ sym so_far.high_length)))
        (λ p below.
        let inside : p < length lo = let same = so_far.low_length in omega (arith, same) in
        (so_far.done p (omega arith)).1
        ∙ sym (read_both (add_multiple times s) (length lo) lo hi' refl (so_far.high_length ∙ sym equal) p inside)),
  )

-- so each slice has its values, whichever way
module _ {A : Type 0} (value : A → ℕ) (s n : ℕ) (lo hi lo' hi' : List A) (equal : length lo ≡ length hi) (all : length lo ≤ n) where
  same_count : length (map value lo) ≡ length (map value hi)
  same_count = length-map lo value ∙ equal ∙ sym (length-map hi value)

  all_counted : length (map value lo) ≤ n
  all_counted = let count = length-map lo value in omega (arith, count, all)

  pub slices_end : (inverse : Bool)
      → PairsSoFar (one_of inverse ghash_product s) n (map value lo) (map value hi) (map value lo') (map value hi')
      → TakesSlices inverse s (map value lo) (map value hi) (map value lo') (map value hi')
  slices_end false so_far =
      let both = forward_numbers ghash_product s n _ _ _ _ same_count all_counted so_far in record { low = both.0; high = both.1 }
  slices_end true so_far =
      let both = inverse_numbers ghash_product s n _ _ _ _ same_count all_counted so_far in record { high = both.0; low = both.1 }

-- ---- whichever way

-- what holds at the only place of a list of one
at_only : (P : ℕ → Type 0) → P 0 → (r : ℕ) → r < 1 → P r
at_only P first zero below = first
at_only P first (suc r) below = absurd (omega arith)

module _ (times : ℕ → ℕ → ℕ) (s x y x' y' : ℕ) where
  -- a pair that the forward butterfly takes is a block of two places
  of_pair : forward_of times s x y x' y' → IsButterfly times s 1 (slice_index (x ∷ y ∷ [])) (slice_index (x' ∷ y' ∷ []))
  of_pair is =
      record {
        lower =
            at_only (λ r. slice_index (x' ∷ y' ∷ []) r ≡ add_multiple times s (slice_index (x ∷ y ∷ []) r) (slice_index (x ∷ y ∷ []) (1 + r))) is.0;
        upper =
            at_only (λ r. slice_index (x' ∷ y' ∷ []) (1 + r) ≡ bit_xor (slice_index (x ∷ y ∷ []) (1 + r)) (slice_index (x' ∷ y' ∷ []) r)) is.1;
      }

  -- and back
  to_pair : IsButterfly times s 1 (slice_index (x ∷ y ∷ [])) (slice_index (x' ∷ y' ∷ [])) → forward_of times s x y x' y'
  to_pair is = (is.lower 0 (lit< tt), is.upper 0 (lit< tt))

module _ (times : ℕ → ℕ → ℕ) (s x y x' y' : ℕ) where
  -- the forward one takes the pair
  pub pair_on : (inverse : Bool) → inverse ≡ false → x' ≡ add_multiple times s x y → y' ≡ bit_xor y x' → taken_pair inverse times s x y x' y'
  pair_on inverse chosen low high =
      taken_on times s 1 (slice_index (x ∷ y ∷ [])) (slice_index (x' ∷ y' ∷ [])) inverse chosen (of_pair times s x y x' y' (low, high))

  -- or the inverse one does
  pub pair_back : (inverse : Bool) → IsTrue inverse → y' ≡ bit_xor y x → x' ≡ add_multiple times s x y' → taken_pair inverse times s x y x' y'
  pair_back inverse chosen high low =
      taken_back times s 1 (slice_index (x ∷ y ∷ [])) (slice_index (x' ∷ y' ∷ [])) inverse chosen
      (of_pair times s x' y' x y
      (sym (ap (λ (z : ℕ). bit_xor z (times s y')) low ∙ xor_back x (times s y')), sym (ap (λ (z : ℕ). bit_xor z x) high ∙ xor_back y x)))

-- where the forward butterfly takes each pair of places of two lists, it takes the block that they make
of_places : (times : ℕ → ℕ → ℕ) (s n : ℕ) (lo hi lo' hi' : List ℕ) → length lo ≡ n → length lo' ≡ n
    → ((p : ℕ) → p < n → forward_of times s (slice_index lo p) (slice_index hi p) (slice_index lo' p) (slice_index hi' p))
    → IsButterfly times s n (slice_index (lo ++ hi)) (slice_index (lo' ++ hi'))
of_places times s n lo hi lo' hi' low low' pairs =
    record {
      lower =
          λ r below.
          read_lower n lo' hi' low' r below ∙ (pairs r below).0
          ∙ ap₂ (λ (x y : ℕ). bit_xor x (times s y)) (sym (read_lower n lo hi low r below)) (sym (read_upper n lo hi low r));
      upper =
          λ r below.
          read_upper n lo' hi' low' r ∙ (pairs r below).1
          ∙ ap₂ bit_xor (sym (read_upper n lo hi low r)) (sym (read_lower n lo' hi' low' r below));
    }

-- so whichever way each pair is taken, the block is
block_taken : (inverse : Bool) (times : ℕ → ℕ → ℕ) (s n : ℕ) (lo hi lo' hi' : List ℕ) → length lo ≡ n → length lo' ≡ n
    → ((p : ℕ) → p < n → taken_pair inverse times s (slice_index lo p) (slice_index hi p) (slice_index lo' p) (slice_index hi' p))
    → TakesBlock inverse times s n (slice_index (lo ++ hi)) (slice_index (lo' ++ hi'))
block_taken false times s n lo hi lo' hi' low low' pairs =
    of_places times s n lo hi lo' hi' low low' (λ p below. to_pair times s _ _ _ _ (pairs p below))
block_taken true times s n lo hi lo' hi' low low' pairs =
    of_places times s n lo' hi' lo hi low' low (λ p below. to_pair times s _ _ _ _ (pairs p below))

-- after the last pair the block is taken
pub taken_ends : {A : Type 0} (value : A → ℕ) (times : ℕ → ℕ → ℕ) (s n : ℕ) (lo hi lo' hi' : List A) → length lo ≡ length hi → length lo ≤ n
    → (inverse : Bool) → PairsSoFar (taken_pair inverse times s) n (map value lo) (map value hi) (map value lo') (map value hi')
    → TakesBlock inverse times s (length lo) (slice_index (map value lo ++ map value hi)) (slice_index (map value lo' ++ map value hi'))
taken_ends value times s n lo hi lo' hi' equal all inverse so_far =
    block_taken inverse times s (length lo) (map value lo) (map value hi) (map value lo') (map value hi') (length-map lo value)
    (so_far.low_length ∙ length-map lo value) (λ p below. so_far.done p (omega (arith, below, all)))
