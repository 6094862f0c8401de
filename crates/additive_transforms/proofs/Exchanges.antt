-- Vectors of bytes whose pairs of elements are exchanged, or taken from two.
use Rattle.std.proofs.Common.{◌≡◌, ◌⊎◌, inl, inr, ℕ, zero, suc, ◌+◌, ◌-◌, ◌*◌, ◌/◌, ◌%◌, ◌^◌, ◌<◌, ◌≤◌, List, ◌++◌, length, map, sym, ◌∙◌, ap, ap₂, arith, lit<}
use Rattle.std.specs.Prelude.{slice_index}
use Rattle.std.specs.List.{range_with_len}
use Rattle.std.proofs.Math.Nat.{div-add-mod', mul-le-mul_right, two-pow-succ}
use Rattle.std.proofs.lemmas.Bool.{cases_lt}
use Rattle.std.proofs.lemmas.List.{get_or-append-add, get_or_append_left, get_or_past}
use Rattle.std.proofs.lemmas.List.FromFn.{get_or-map-range_with_len, length-map-range_with_len}
use Rattle.std.proofs.lemmas.Nat.{div-mul-add}
use Rattle.field_base.specs.Quadratic.{pair}
use Rattle.additive_transforms.specs.Chunks.{AreExchanged, AreMerged, chunk_of}
use Rattle.additive_transforms.specs.Rows.{level_of}

-- elements are the same where their bytes are
chunk_same : (d i j : ℕ) (xs ys : List ℕ) → ((r : ℕ) → r < 2 ^ d → slice_index xs (i * 2 ^ d + r) ≡ slice_index ys (j * 2 ^ d + r))
    → chunk_of d xs i ≡ chunk_of d ys j
unfolding chunk_of
chunk_same zero i j xs ys same =
    let first : i ≡ i * 2 ^ 0 + 0 = omega arith in
    let second : j ≡ j * 2 ^ 0 + 0 = omega arith in
    ap (slice_index xs) first ∙ same 0 (lit< tt) ∙ sym (ap (slice_index ys) second)
chunk_same (suc d) i j xs ys same =
    ap₂ (pair (2 ^ level_of d)) (chunk_same d (2 * i) (2 * j) xs ys low) (chunk_same d (2 * i + 1) (2 * j + 1) xs ys high)
  where
    twice : 2 ^ suc d ≡ 2 * 2 ^ d
    twice = let next = two-pow-succ d in omega (arith, next)

    low : (r : ℕ) → r < 2 ^ d → slice_index xs (2 * i * 2 ^ d + r) ≡ slice_index ys (2 * j * 2 ^ d + r)
    low r below = ap (slice_index xs) (sym (at i)) ∙ same r (let next = twice in omega (arith, next, below)) ∙ ap (slice_index ys) (at j)
      where
        at : (n : ℕ) → n * 2 ^ suc d + r ≡ 2 * n * 2 ^ d + r
        at n = let more = ap (λ (m : ℕ). n * m) twice in omega (arith, more)

    high : (r : ℕ) → r < 2 ^ d → slice_index xs ((2 * i + 1) * 2 ^ d + r) ≡ slice_index ys ((2 * j + 1) * 2 ^ d + r)
    high r below =
        ap (slice_index xs) (sym (at i)) ∙ same (2 ^ d + r) (let next = twice in omega (arith, next, below)) ∙ ap (slice_index ys) (at j)
      where
        at : (n : ℕ) → n * 2 ^ suc d + (2 ^ d + r) ≡ (2 * n + 1) * 2 ^ d + r
        at n = let more = ap (λ (m : ℕ). n * m) twice in omega (arith, more)

-- one of the pair i
abbrev OfPair : (ℕ → ℕ) → Type 0
OfPair p = (i : ℕ) → (2 * i ≤ p i) × (p i ≤ 2 * i + 1)

low_of : OfPair (λ i. 2 * i)
low_of i = (omega arith, omega arith)

high_of : OfPair (λ i. 2 * i + 1)
high_of i = (omega arith, omega arith)

-- the bytes of a list at the places f 0, f 1, and so on, so many of them
abbrev picked : ℕ → (ℕ → ℕ) → List ℕ → List ℕ
picked count f xs = map (λ p. slice_index xs (f p)) (range_with_len 0 count)

-- Of a list bytes are picked, as many as h pairs of elements have.
module _ (count d h : ℕ) (xs : List ℕ) (f : ℕ → ℕ) (size : 2 ^ d * (2 * h) ≡ count) where
  -- an element p of each pair is the element q of another vector, where its bytes are picked from there
  pairs_picked : (ys : List ℕ) (p q : ℕ → ℕ) → OfPair p → OfPair q → length ys ≡ count
      → ((i r : ℕ) → r < 2 ^ d → q i * 2 ^ d + r < count → slice_index xs (f (p i * 2 ^ d + r)) ≡ slice_index ys (q i * 2 ^ d + r))
      → (i : ℕ) → chunk_of d (picked count f xs) (p i) ≡ chunk_of d ys (q i)
  pairs_picked ys p q p_of q_of long same i = chunk_same d (p i) (q i) (picked count f xs) ys (λ r below. pick r below (cases_lt i h))
    where
      inside : (n r : ℕ) → n ≤ 2 * i + 1 → r < 2 ^ d → i < h → n * 2 ^ d + r < count
      inside n r small below within =
          let most : (n + 1) * 2 ^ d ≤ 2 * h * 2 ^ d = mul-le-mul_right (2 ^ d) (omega (arith, small, within)) in
          omega (arith, most, size, below)

      beyond : (n r : ℕ) → 2 * i ≤ n → h ≤ i → count ≤ n * 2 ^ d + r
      beyond n r large past =
          let least : 2 * h * 2 ^ d ≤ n * 2 ^ d = mul-le-mul_right (2 ^ d) (omega (arith, large, past)) in
          omega (arith, least, size)

      pick : (r : ℕ) → r < 2 ^ d → (i < h) ⊎ (h ≤ i)
          → slice_index (picked count f xs) (p i * 2 ^ d + r) ≡ slice_index ys (q i * 2 ^ d + r)
      pick r below (inl within) =
          get_or-map-range_with_len (λ k. slice_index xs (f k)) 0 count (p i * 2 ^ d + r) (p i * 2 ^ d + r) 0 (inside (p i) r (p_of i).1 below within)
          (omega arith)
          ∙ same i r below (inside (q i) r (q_of i).1 below within)
      pick r below (inr past) =
          let place = beyond (p i) r (p_of i).0 past in
          let other = beyond (q i) r (q_of i).0 past in
          let picked_count = length-map-range_with_len (λ k. slice_index xs (f k)) 0 count in
          get_or_past (picked count f xs) (p i * 2 ^ d + r) 0 (omega (arith, picked_count, place))
          ∙ sym (get_or_past ys (q i * 2 ^ d + r) 0 (omega (arith, long, other)))

-- byte p is that of the other element of its pair
abbrev exchanged_place : ℕ → ℕ → ℕ
exchanged_place d p = (p / 2 ^ d + 1 - 2 * (p / 2 ^ d % 2)) * 2 ^ d + p % 2 ^ d

-- byte p of the first vector for the low element of a pair, and of the second, which is behind it, for the high one
abbrev merged_place : ℕ → ℕ → ℕ → ℕ
merged_place count d p = p + count * (p / 2 ^ d % 2)

-- the elements of each pair are exchanged
pub exchanged : (count d h : ℕ) (bytes : List ℕ) → 2 ^ d * (2 * h) ≡ count → length bytes ≡ count
    → AreExchanged d bytes (picked count (exchanged_place d) (bytes ++ bytes))
exchanged count d h bytes size long =
    record {
      low =
          pairs_picked count d h (bytes ++ bytes) (exchanged_place d) size bytes (λ i. 2 * i) (λ i. 2 * i + 1) low_of high_of long
          (λ i r below inside. other (2 * i) (2 * i + 1) r below inside (omega arith));
      high =
          pairs_picked count d h (bytes ++ bytes) (exchanged_place d) size bytes (λ i. 2 * i + 1) (λ i. 2 * i) high_of low_of long
          (λ i r below inside. other (2 * i + 1) (2 * i) r below inside (omega arith));
    }
  where
    other : (n m r : ℕ) → r < 2 ^ d → m * 2 ^ d + r < count → n + 1 - 2 * (n % 2) ≡ m
        → slice_index (bytes ++ bytes) (exchanged_place d (n * 2 ^ d + r)) ≡ slice_index bytes (m * 2 ^ d + r)
    other n m r below inside turned =
        let row = div-mul-add n (2 ^ d) r below in
        let parts = div-add-mod' (n * 2 ^ d + r) (2 ^ d) in
        let same = ap (λ (k : ℕ). k * 2 ^ d) row in
        let column : (n * 2 ^ d + r) % 2 ^ d ≡ r = omega (arith, parts, same) in
        let place = ap₂ (λ (k b : ℕ). (k + 1 - 2 * (k % 2)) * 2 ^ d + b) row column ∙ ap (λ (k : ℕ). k * 2 ^ d + r) turned in
        ap (slice_index (bytes ++ bytes)) place ∙ get_or_append_left bytes bytes 0 (m * 2 ^ d + r) (omega (arith, long, inside))

-- the low elements of the pairs are those of one vector, and the high ones those of another
pub merged : (count d h : ℕ) (lows highs : List ℕ) → 2 ^ d * (2 * h) ≡ count → length lows ≡ count → length highs ≡ count
    → AreMerged d lows highs (picked count (merged_place count d) (lows ++ highs))
merged count d h lows highs size low_long high_long =
    record {
      low =
          pairs_picked count d h (lows ++ highs) (merged_place count d) size lows (λ i. 2 * i) (λ i. 2 * i) low_of low_of low_long
          (λ i r below inside. ap (slice_index (lows ++ highs)) (from (2 * i) 0 r below (omega arith)) ∙ first (2 * i * 2 ^ d + r) inside);
      high =
          pairs_picked count d h (lows ++ highs) (merged_place count d) size highs (λ i. 2 * i + 1) (λ i. 2 * i + 1) high_of high_of high_long
          (λ i r below inside. ap (slice_index (lows ++ highs)) (from (2 * i + 1) 1 r below (omega arith)) ∙ second ((2 * i + 1) * 2 ^ d + r));
    }
  where
    from : (n side r : ℕ) → r < 2 ^ d → n % 2 ≡ side → merged_place count d (n * 2 ^ d + r) ≡ n * 2 ^ d + r + count * side
    from n side r below is =
        ap (λ (k : ℕ). n * 2 ^ d + r + count * k) (ap (λ (k : ℕ). k % 2) (div-mul-add n (2 ^ d) r below) ∙ is)

    first : (p : ℕ) → p < count → slice_index (lows ++ highs) (p + count * 0) ≡ slice_index lows p
    first p inside =
        let same : p + count * 0 ≡ p = omega arith in
        ap (slice_index (lows ++ highs)) same ∙ get_or_append_left lows highs 0 p (omega (arith, low_long, inside))

    second : (p : ℕ) → slice_index (lows ++ highs) (p + count * 1) ≡ slice_index highs p
    second p =
        let behind : p + count * 1 ≡ length lows + p = omega (arith, low_long) in
        ap (slice_index (lows ++ highs)) behind ∙ get_or-append-add lows highs p 0
