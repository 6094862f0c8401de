-- Words in vectors of bytes: what is read from a slice and written to it, and the pairs of places that are so computed.
use Rattle.std.proofs.Common.{◌≡◌, ◌≢◌, ◌⊎◌, inl, inr, ℕ, zero, suc, ◌+◌, ◌-◌, ◌*◌, ◌/◌, ◌%◌, ◌^◌, ◌<◌, ◌≤◌, Bool, List, [], ◌∷◌, ◌++◌, length, map, get_or, refl, sym, ◌∙◌, ap, ap₂, subst, arith, w8, Fits}
use Rattle.std.specs.Prelude.{slice_index}
use Rattle.std.specs.Simd.Lanes.{Each1}
use Rattle.std.proofs.Math.ListN.{get_or-map}
use Rattle.std.proofs.Math.Nat.{mul-le-mul_right, pow-suc}
use Rattle.std.proofs.Math.Pow.{pow_mono}
use Rattle.std.proofs.lemmas.Bool.{cases_lt}
use Rattle.std.proofs.Math.ListN.{set}
use Rattle.std.proofs.lemmas.List.{length-append, get_or-map as get_or-map_inside, get_or-set_other, get_or-set_same, length-map, length-set, map-set}
use Rattle.std.proofs.lemmas.Nat.{pow_pos}
use Rattle.std.proofs.lemmas.Simd.{map-map}
use native.Mathlib.Nat.{mod-eq_of_lt}
use Rattle.additive_transforms.proofs.PairLoops.{taken_pair}
use Rattle.field_base.specs.Quadratic.{pair}
use Rattle.field_base.specs.Tower.{tower_mul}
use Rattle.additive_transforms.specs.Chunks.{TakesChunks, chunk_of}
use Rattle.additive_transforms.specs.Rows.{byte_of_lane, level_of}
use Rattle.additive_transforms.specs.Units.{AreChunks, ArePut, AreUnits, byte_of, unit_of}
use Rattle.additive_transforms.specs.Words.{TakesPairs, level_element}
use Rattle.additive_transforms.proofs.ChunkProducts.{chunk_left, chunk_right}
use Rattle.additive_transforms.proofs.LaneFacts.{lane-byte}
use Rattle.additive_transforms.proofs.LaneWeaving.{joined_first, joined_second}
use Rattle.additive_transforms.proofs.LevelProducts.{place_taken, same_pair}
use Rattle.additive_transforms.proofs.UnitFacts.{half_count, two_put, two_read, unit-modulo, unit-same}
use Rattle.additive_transforms.proofs.WordPlaces.{unit-byte}

-- an element of bytes is a unit of them
chunk-unit : (d : ℕ) (bytes : List ℕ) (i : ℕ) → chunk_of d bytes i ≡ unit_of d (slice_index bytes) i
unfolding chunk_of unit_of
chunk-unit zero bytes i = refl
chunk-unit (suc d) bytes i = ap₂ (pair (2 ^ level_of d)) (chunk-unit d bytes (2 * i)) (chunk-unit d bytes (2 * i + 1))

-- units of what begins further on are further on
unit-further : (d first : ℕ) (bytes : ℕ → ℕ) (i : ℕ) → unit_of d (λ p. bytes (first * 2 ^ d + p)) i ≡ unit_of d bytes (first + i)
unfolding unit_of
unit-further zero first bytes i = let at : first * 1 + i ≡ first + i = omega arith in ap bytes at
unit-further (suc d) first bytes i =
    ap₂ (pair (2 ^ level_of d))
    (unit-same d (λ p. bytes (first * 2 ^ suc d + p)) (λ p. bytes (2 * first * 2 ^ d + p)) (2 * i) (λ p below. ap bytes (next p))
    ∙ unit-further d (2 * first) bytes (2 * i) ∙ ap (unit_of d bytes) even)
    (unit-same d (λ p. bytes (first * 2 ^ suc d + p)) (λ p. bytes (2 * first * 2 ^ d + p)) (2 * i + 1) (λ p below. ap bytes (next p))
    ∙ unit-further d (2 * first) bytes (2 * i + 1) ∙ ap (unit_of d bytes) odd)
  where
    next : (p : ℕ) → first * 2 ^ suc d + p ≡ 2 * first * 2 ^ d + p
    next p = let twice = ap (λ (x : ℕ). first * x) (pow-suc 2 d) in omega (arith, twice)

    even : 2 * first + 2 * i ≡ 2 * (first + i)
    even = omega arith

    odd : 2 * first + (2 * i + 1) ≡ 2 * (first + i) + 1
    odd = omega arith

-- the bytes in the lanes of a vector are elements, the numbers
pub chunks_are : (size start count n : ℕ) (bytes numbers : List ℕ) → count * 2 ^ size ≡ n → length bytes ≡ n → Each1 (Fits w8) bytes
    → AreUnits 0 size start n (byte_of_lane bytes) numbers → AreChunks size start count bytes numbers
chunks_are size start count n bytes numbers whole long fit are i below =
    chunk-unit size bytes i
    ∙ unit-same size (slice_index bytes) (λ p. byte_of size numbers (start * 2 ^ size + p)) i each
    ∙ unit-further size start (byte_of size numbers) i
    ∙ unit-modulo size (start + i) numbers
  where
    each : (p : ℕ) → p < (i + 1) * 2 ^ size → slice_index bytes p ≡ byte_of size numbers (start * 2 ^ size + p)
    each p early =
        let most : (i + 1) * 2 ^ size ≤ count * 2 ^ size = mul-le-mul_right (2 ^ size) (omega (arith, below)) in
        let inside : p < n = omega (arith, early, most, whole) in
        sym (lane-byte bytes p fit (omega (arith, inside, long)))
        ∙ are (start * 2 ^ size) (omega arith) p inside
        ∙ unit-byte (byte_of size numbers) (start * 2 ^ size + p)

-- and the others are as they were
pub others_kept : (size start count n : ℕ) (units : ℕ → ℕ) (old new : List ℕ) → count * 2 ^ size ≡ n → ArePut 0 size start n units old new
    → (k : ℕ) → (k < start) ⊎ (start + count ≤ k) → slice_index new k ≡ slice_index old k
others_kept size start count n units old new whole are k (inl before) = are.kept k (inl before)
others_kept size start count n units old new whole are k (inr past) =
    let less : (start + count) * 2 ^ size ≤ k * 2 ^ size = mul-le-mul_right (2 ^ size) past in
    are.kept k (inr (omega (arith, less, whole)))

-- ---- words in two vectors

each_joined : {A : Type 0} (P : A → Type 0) (xs ys : List A) → Each1 P xs → Each1 P ys → Each1 P (xs ++ ys)
each_joined P [] ys first second = second
each_joined P (x ∷ xs) ys first second = (first.0, each_joined P xs ys first.1 second)

module _ (size start count : ℕ) (a b : List ℕ) (few : size ≤ 4) (whole : count * 2 ^ size ≡ 64) (a_long : length a ≡ 32) (b_long : length b ≡ 32)
    (a_fit : Each1 (Fits w8) a) (b_fit : Each1 (Fits w8) b) where
  half : count / 2 * 2 ^ size ≡ 32
  half = (half_count size count 32 2 few refl whole).0

  long : length (a ++ b) ≡ 64
  long = let sum = length-append a b in omega (arith, sum, a_long, b_long)

  fit : Each1 (Fits w8) (a ++ b)
  fit = each_joined (Fits w8) a b a_fit b_fit

  at_first : (p : ℕ) → p < 32 → byte_of_lane (a ++ b) p ≡ byte_of_lane a p
  at_first p below = ap (λ (x : ℕ). x % 2 ^ 8) (joined_first a b 32 p a_long below)

  at_second : (p : ℕ) → 32 ≤ p → p < 64 → byte_of_lane (a ++ b) p ≡ byte_of_lane b (p - 32)
  at_second p past below = ap (λ (x : ℕ). x % 2 ^ 8) (joined_second a b 32 p a_long past)

  -- that are read
  pub two_chunks_read : (numbers : List ℕ) → AreUnits 0 size start 32 (byte_of_lane a) numbers
      → AreUnits 0 size (start + count / 2) 32 (byte_of_lane b) numbers → AreChunks size start count (a ++ b) numbers
  two_chunks_read numbers first second =
      chunks_are size start count 64 (a ++ b) numbers whole long fit
      (two_read 0 size start (count / 2) 32 half (byte_of_lane a) (byte_of_lane b) (byte_of_lane (a ++ b)) at_first at_second numbers first second)

  -- and that are put
  pub two_chunks_put : (old mid new : List ℕ) → ArePut 0 size start 32 (byte_of_lane a) old mid
      → ArePut 0 size (start + count / 2) 32 (byte_of_lane b) mid new
      → AreChunks size start count (a ++ b) new × ((k : ℕ) → (k < start) ⊎ (start + count ≤ k) → slice_index new k ≡ slice_index old k)
  two_chunks_put old mid new first second =
      let put = two_put 0 size start (count / 2) 32 half (byte_of_lane a) (byte_of_lane b) (byte_of_lane (a ++ b)) at_first at_second old mid new
      first second in (
        chunks_are size start count 64 (a ++ b) new whole long fit put.put,
        others_kept size start count 64 (byte_of_lane (a ++ b)) old new whole put,
      )

-- so many elements has a vector of thirty-two bytes
elements_in : (size : ℕ) → size ≤ 4 → (m : ℕ) × (2 ^ size * m ≡ 32)
elements_in zero few = (32, refl)
elements_in (suc zero) few = (16, refl)
elements_in (suc (suc zero)) few = (8, refl)
elements_in (suc (suc (suc zero))) few = (4, refl)
elements_in (suc (suc (suc (suc zero)))) few = (2, refl)
elements_in (suc (suc (suc (suc (suc size))))) few = absurd (omega (arith, few))

-- the butterflies of two vectors, and those of two others
pub taken_both : (inverse : Bool) (size s : ℕ) (x x₂ y y₂ z z₂ w w₂ : List ℕ) → size ≤ 4 → length x ≡ 32 → length y ≡ 32
    → length z ≡ 32 → length w ≡ 32 → TakesChunks inverse size s x y z w → TakesChunks inverse size s x₂ y₂ z₂ w₂
    → TakesChunks inverse size s (x ++ x₂) (y ++ y₂) (z ++ z₂) (w ++ w₂)
taken_both inverse size s x x₂ y y₂ z z₂ w w₂ few x_long y_long z_long w_long first second i = pick (cases_lt i m)
  where
    m : ℕ
    m = (elements_in size few).0

    whole : 2 ^ size * m ≡ 32
    whole = (elements_in size few).1

    left : i < m → (u v : List ℕ) → length u ≡ 32 → chunk_of size u i ≡ chunk_of size (u ++ v) i
    left below u v long =
        let most : (i + 1) * 2 ^ size ≤ m * 2 ^ size = mul-le-mul_right (2 ^ size) (omega (arith, below)) in
        let all = whole in
        sym (chunk_left size i u v (omega (arith, most, all, long)))

    right : m ≤ i → (u v : List ℕ) → length u ≡ 32 → chunk_of size v (i - m) ≡ chunk_of size (u ++ v) i
    right past u v long =
        let at : m + (i - m) ≡ i = omega (arith, past) in
        sym (chunk_right size m (i - m) u v (long ∙ sym whole)) ∙ ap (chunk_of size (u ++ v)) at

    pick : (i < m) ⊎ (m ≤ i) → taken_pair inverse (tower_mul (level_of size)) s (chunk_of size (x ++ x₂) i) (chunk_of size (y ++ y₂) i)
        (chunk_of size (z ++ z₂) i) (chunk_of size (w ++ w₂) i)
    pick (inl below) =
        same_pair inverse (tower_mul (level_of size)) s _ _ _ _ _ _ _ _ (left below x x₂ x_long) (left below y y₂ y_long)
        (left below z z₂ z_long) (left below w w₂ w_long) (first i)
    pick (inr past) =
        same_pair inverse (tower_mul (level_of size)) s _ _ _ _ _ _ _ _ (right past x x₂ x_long) (right past y y₂ y_long)
        (right past z z₂ z_long) (right past w w₂ w_long) (second (i - m))

-- ---- pairs of places

-- the elements of words are those of their numbers
pub element-at : {A : Type 0} (number : A → ℕ) (k : ℕ) (words : List A) (p : ℕ)
    → slice_index (map (level_element number k) words) p ≡ slice_index (map number words) p % 2 ^ 2 ^ k
element-at number k words p =
    ap (λ (l : List ℕ). slice_index l p) (sym (map-map (λ (x : ℕ). x % 2 ^ 2 ^ k) number words))
    ∙ ap (get_or (map (λ (x : ℕ). x % 2 ^ 2 ^ k) (map number words)) p) (sym (mod-eq_of_lt (pow_pos (2 ^ k))))
    ∙ get_or-map (λ (x : ℕ). x % 2 ^ 2 ^ k) (map number words) p 0

-- what holds of four numbers holds of equal ones
same : (related : ℕ → ℕ → ℕ → ℕ → Type 0) (a b c d a' b' c' d' : ℕ) → a ≡ a' → b ≡ b' → c ≡ c' → d ≡ d' → related a b c d
    → related a' b' c' d'
same related a b c d a' b' c' d' first second third fourth holds =
    subst (λ (v : ℕ). related a' b' c' v) fourth (subst (λ (v : ℕ). related a' b' v d) third
    (subst (λ (v : ℕ). related a' v c d) second (subst (λ (v : ℕ). related v b c d) first holds)))

-- more pairs that are done
pub more_pairs : (related : ℕ → ℕ → ℕ → ℕ → Type 0) (n c : ℕ) (lo hi lo' hi' : List ℕ) → length lo' ≡ length lo → length hi' ≡ length hi
    → ((p : ℕ) → n ≤ p → p < n + c → related (slice_index lo p) (slice_index hi p) (slice_index lo' p) (slice_index hi' p))
    → ((p : ℕ) → (p < n) ⊎ (n + c ≤ p) → slice_index lo' p ≡ slice_index lo p)
    → ((p : ℕ) → (p < n) ⊎ (n + c ≤ p) → slice_index hi' p ≡ slice_index hi p)
    → TakesPairs related n (n + c) lo hi lo' hi'
more_pairs related n c lo hi lo' hi' low_long high_long here low_kept high_kept lower upper before =
    record {
      low_length = low_long ∙ before.low_length;
      high_length = high_long ∙ before.high_length;
      done = λ p below. pick p below (cases_lt p n);
      low_rest = λ p past. low_kept p (inr past) ∙ before.low_rest p (omega (arith, past));
      high_rest = λ p past. high_kept p (inr past) ∙ before.high_rest p (omega (arith, past));
    }
  where
    pick : (p : ℕ) → p < n + c → (p < n) ⊎ (n ≤ p) → related (slice_index lower p) (slice_index upper p) (slice_index lo' p) (slice_index hi' p)
    pick p below (inl early) =
        same related _ _ _ _ _ _ _ _ refl refl (sym (low_kept p (inl early))) (sym (high_kept p (inl early))) (before.done p early)
    pick p below (inr late) = same related _ _ _ _ _ _ _ _ (before.low_rest p late) (before.high_rest p late) refl refl (here p late below)

module _ {A : Type 0} (number : A → ℕ) (inverse : Bool) (j k size start count s : ℕ) (x y x' y' : List ℕ) (lo hi lo' hi' : List A)
    (within : j ≤ k) (few : k ≤ level_of size) (fits : s < 2 ^ 2 ^ j)
    (x_read : AreChunks size start count x (map number lo)) (y_read : AreChunks size start count y (map number hi))
    (taken : TakesChunks inverse size s x y x' y')
    (low_long : length lo' ≡ length lo) (x_put : AreChunks size start count x' (map number lo'))
    (low_kept : (p : ℕ) → (p < start) ⊎ (start + count ≤ p) → slice_index (map number lo') p ≡ slice_index (map number lo) p)
    (high_long : length hi' ≡ length hi) (y_put : AreChunks size start count y' (map number hi'))
    (high_kept : (p : ℕ) → (p < start) ⊎ (start + count ≤ p) → slice_index (map number hi') p ≡ slice_index (map number hi) p) where
  kept : (old new : List A)
      → ((p : ℕ) → (p < start) ⊎ (start + count ≤ p) → slice_index (map number new) p ≡ slice_index (map number old) p)
      → (p : ℕ) → (p < start) ⊎ (start + count ≤ p) → slice_index (map (level_element number k) new) p ≡ slice_index (map (level_element number k) old) p
  kept old new stays p side =
      element-at number k new p ∙ ap (λ (v : ℕ). v % 2 ^ 2 ^ k) (stays p side) ∙ sym (element-at number k old p)

  in_vector : (i : ℕ) → i < count → taken_pair inverse (tower_mul k) s (slice_index (map (level_element number k) lo) (start + i))
      (slice_index (map (level_element number k) hi) (start + i)) (slice_index (map (level_element number k) lo') (start + i)) (slice_index (map (level_element number k) hi') (start + i))
  in_vector i below =
      let p = start + i in
      let m = level_of size in
      same_pair inverse (tower_mul k) s _ _ _ _ _ _ _ _ (sym (element-at number k lo p)) (sym (element-at number k hi p))
      (sym (element-at number k lo' p)) (sym (element-at number k hi' p))
      (place_taken inverse j k m s (slice_index (map number lo) p) (slice_index (map number hi) p) (slice_index (map number lo') p)
      (slice_index (map number hi') p) (chunk_of size x i) (chunk_of size y i) (chunk_of size x' i) (chunk_of size y' i) within few fits
      (x_read i below) (y_read i below) (x_put i below) (y_put i below) (taken i))

  here : (p : ℕ) → start ≤ p → p < start + count → taken_pair inverse (tower_mul k) s (slice_index (map (level_element number k) lo) p)
      (slice_index (map (level_element number k) hi) p) (slice_index (map (level_element number k) lo') p) (slice_index (map (level_element number k) hi') p)
  here p late below =
      let at : start + (p - start) ≡ p = omega (arith, late) in
      subst (λ (q : ℕ). taken_pair inverse (tower_mul k) s (slice_index (map (level_element number k) lo) q) (slice_index (map (level_element number k) hi) q)
      (slice_index (map (level_element number k) lo') q) (slice_index (map (level_element number k) hi') q)) at (in_vector (p - start) (omega (arith, late, below)))

  -- those of a block of each row are done
  pub vector_taken : TakesPairs (taken_pair inverse (tower_mul k) s) start (start + count) (map (level_element number k) lo) (map (level_element number k) hi) (map (level_element number k) lo')
      (map (level_element number k) hi')
  vector_taken =
      more_pairs (taken_pair inverse (tower_mul k) s) start count (map (level_element number k) lo) (map (level_element number k) hi) (map (level_element number k) lo') (map (level_element number k) hi')
      (length-map lo' (level_element number k) ∙ low_long ∙ sym (length-map lo (level_element number k))) (length-map hi' (level_element number k) ∙ high_long ∙ sym (length-map hi (level_element number k)))
      here (kept lo lo' low_kept) (kept hi hi' high_kept)

-- a level that fits so many bits is no higher than theirs
pub level_within : (k m : ℕ) → 2 ^ k ≤ 2 ^ m → k ≤ m
level_within k m fits = pick (cases_lt m k)
  where
    pick : (m < k) ⊎ (k ≤ m) → k ≤ m
    pick (inl less) =
        let more : 2 ^ suc m ≤ 2 ^ k = pow_mono (omega (arith, less)) in
        let next = pow-suc 2 m in
        let some = pow_pos m in absurd (omega (arith, more, next, some, fits))
    pick (inr within) = within

-- levels are ordered as the numbers of bytes
pub depth_within : (d e : ℕ) → level_of d ≤ level_of e → d ≤ e
depth_within d e within = let low = level-three d in let high = level-three e in omega (arith, low, high, within)
  where
    level-three : (n : ℕ) → level_of n ≡ n + 3
    level-three zero = refl
    level-three (suc n) = let before = level-three n in omega (arith, before)

-- ---- one place of words

module _ {A : Type 0} (element : A → ℕ) (n : ℕ) (words : List A) (word : A) where
  put_at : n < length words → slice_index (map element (set words n word)) n ≡ element word
  put_at inside =
      ap (λ (l : List ℕ). slice_index l n) (map-set element words n word)
      ∙ get_or-set_same (map element words) n (element word) 0 (let same = length-map words element in omega (arith, same, inside))

  put_off : (p : ℕ) → (p < n) ⊎ (n + 1 ≤ p) → slice_index (map element (set words n word)) p ≡ slice_index (map element words) p
  put_off p side =
      ap (λ (l : List ℕ). slice_index l p) (map-set element words n word)
      ∙ get_or-set_other (map element words) n p (element word) 0 (λ same. apart side same)
    where
      apart : (p < n) ⊎ (n + 1 ≤ p) → p ≢ n
      apart (inl before) same = absurd (omega (arith, before, same))
      apart (inr past) same = absurd (omega (arith, past, same))

  put_long : length (map element (set words n word)) ≡ length (map element words)
  put_long = ap length (map-set element words n word) ∙ length-set (map element words) n (element word)

-- one more pair done
pub next_pair : {A : Type 0} (element : A → ℕ) (related : ℕ → ℕ → ℕ → ℕ → Type 0) (n : ℕ) (low high : List A) (x y x' y' : A)
    → length low ≡ length high → n < length low
    → related (element (get_or low n x)) (element (get_or high n y)) (element x') (element y')
    → TakesPairs related n (n + 1) (map element low) (map element high) (map element (set low n x')) (map element (set high n y'))
next_pair element related n low high x y x' y' equal below is =
    more_pairs related n 1 (map element low) (map element high) (map element (set low n x')) (map element (set high n y'))
    (put_long element n low x') (put_long element n high y') here (put_off element n low x') (put_off element n high y')
  where
    high_below : n < length high
    high_below = omega (arith, equal, below)

    here : (p : ℕ) → n ≤ p → p < n + 1 → related (slice_index (map element low) p) (slice_index (map element high) p)
        (slice_index (map element (set low n x')) p) (slice_index (map element (set high n y')) p)
    here p late early =
        let at : n ≡ p = omega (arith, late, early) in
        subst (λ (q : ℕ). related (slice_index (map element low) q) (slice_index (map element high) q)
        (slice_index (map element (set low n x')) q) (slice_index (map element (set high n y')) q)) at
        (same related _ _ _ _ _ _ _ _ (sym (get_or-map_inside element low n x 0 below)) (sym (get_or-map_inside element high n y 0 high_below))
        (sym (put_at element n low x' below)) (sym (put_at element n high y' high_below)) is)
