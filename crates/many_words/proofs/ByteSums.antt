-- Bytes to which products by one scalar are added, in blocks that may overlap, and the tables of these products.
use Rattle.std.proofs.Common.{◌≡◌, inl, inr, ℕ, ◌+◌, ◌-◌, ◌*◌, ◌/◌, ◌%◌, ◌^◌, ◌<◌, ◌≤◌, List, [], ◌∷◌, length, get_or, map, take, drop, refl, sym, ◌∙◌, ap, ap₂, subst, arith, lit<}
use native.Mathlib.Nat.{mod-lt}
use Rattle.std.specs.Prelude.{bit_xor}
use Rattle.std.specs.Simd.Lanes.{chunk, put_chunk, zip2}
use Rattle.std.proofs.lemmas.Bool.{cases_lt}
use Rattle.std.proofs.lemmas.List.{get_or-drop, get_or-map, get_or-take, length-map}
use Rattle.std.proofs.lemmas.Simd.{get_or-chunk, get_or-put_chunk_above, get_or-put_chunk_at, get_or-put_chunk_below, get_or-zip2, length-chunk, length-put_chunk, length-zip2}
use Rattle.field_base.proofs.TableChecks.{passes, tabulates, tabulates_at}
use Rattle.word_tables.specs.Nibbles.{entry_sum}
use Rattle.many_words.proofs.NumberParts.{two_parts}

-- the first n places have the sums of f at the bytes of the same places and the old values, and the others are as they were
pub record AreAdded (f : ℕ → ℕ) (n : ℕ) (bytes old now : List ℕ) : Type 0 where
  pub long : length now ≡ length old
  pub done : (k : ℕ) → k < n → get_or now k 0 ≡ bit_xor (get_or old k 0) (f (get_or bytes k 0))
  pub kept : (k : ℕ) → n ≤ k → get_or now k 0 ≡ get_or old k 0

-- at first none
pub none_added : (f : ℕ → ℕ) (n : ℕ) (bytes old : List ℕ) → n ≡ 0 → AreAdded f n bytes old old
none_added f n bytes old none = record { long = refl; done = λ k below. absurd (omega (arith, none, below)); kept = λ k past. refl }

module _ (f : ℕ → ℕ) (bytes old : List ℕ) (same : length bytes ≡ length old) where
  -- what a block of `width` sums from a place on is
  abbrev pub block_at : ℕ → ℕ → List ℕ → List ℕ
  block_at place width sums = zip2 bit_xor (chunk place width sums) (map f (chunk place width bytes))

  module _ (place width : ℕ) (room : place + width ≤ length old) where
    -- its entries
    entry : (sums : List ℕ) → length sums ≡ length old → (k : ℕ) → k < width
        → get_or (block_at place width sums) k 0 ≡ bit_xor (get_or sums (place + k) 0) (f (get_or bytes (place + k) 0))
    entry sums long k below =
        let first = length-chunk place width sums (omega (arith, room, long)) in
        let other = length-chunk place width bytes (omega (arith, room, same)) in
        let mapped = length-map (chunk place width bytes) f in
        get_or-zip2 bit_xor (chunk place width sums) (map f (chunk place width bytes)) k 0 0 0 (omega (arith, first, below))
        (omega (arith, other, mapped, below))
        ∙ ap₂ bit_xor (get_or-chunk place width sums k 0 below)
        (get_or-map f (chunk place width bytes) k 0 0 (omega (arith, other, below)) ∙ ap f (get_or-chunk place width bytes k 0 below))

    count : (sums : List ℕ) → length sums ≡ length old → length (block_at place width sums) ≡ width
    count sums long =
        let first = length-chunk place width sums (omega (arith, room, long)) in
        let other = length-chunk place width bytes (omega (arith, room, same)) in
        let mapped = length-map (chunk place width bytes) f in
        length-zip2 bit_xor (chunk place width sums) (map f (chunk place width bytes)) (omega (arith, first, other, mapped)) ∙ first

    -- a block that was taken where its sums were the old ones is written over places of which some may be done
    pub block_added : (n : ℕ) (sums now out : List ℕ) → place ≤ n → n ≤ place + width → AreAdded f n bytes old now
        → length sums ≡ length old → ((k : ℕ) → k < width → get_or sums (place + k) 0 ≡ get_or old (place + k) 0)
        → out ≡ block_at place width sums → AreAdded f (place + width) bytes old (put_chunk place now out)
    block_added n sums now out reach over so_far long taken is =
        record {
          long = length-put_chunk place now out ∙ so_far.long;
          done = λ k below.
              elim (cases_lt k place) [
                | inl before ↦ get_or-put_chunk_below place now out k 0 before ∙ so_far.done k (omega (arith, before, reach))
                | inr here ↦ new k here below
              ];
          kept = λ k past. get_or-put_chunk_above place now out k 0 (omega (arith, past, size)) ∙ so_far.kept k (omega (arith, past, over));
        }
      where
        size : length out ≡ width
        size = ap length is ∙ count sums long

        new : (k : ℕ) → place ≤ k → k < place + width → get_or (put_chunk place now out) k 0 ≡ bit_xor (get_or old k 0) (f (get_or bytes k 0))
        new k here below =
            let at : place + (k - place) ≡ k = omega (arith, here) in
            let small : k - place < width = omega (arith, here, below) in
            let all = so_far.long in
            subst (λ (p : ℕ). get_or (put_chunk place now out) p 0 ≡ bit_xor (get_or old p 0) (f (get_or bytes p 0))) at
            (get_or-put_chunk_at place now out (k - place) 0 (omega (arith, size, small)) (omega (arith, size, room, all))
            ∙ ap (λ (l : List ℕ). get_or l (k - place) 0) is
            ∙ entry sums long (k - place) small
            ∙ ap (λ (x : ℕ). bit_xor x (f (get_or bytes (place + (k - place)) 0))) (taken (k - place) small))

-- ---- the tables of a linear map of bytes

-- the products of the numbers below 16 by 16
abbrev sixteens : List ℕ
sixteens = 0 ∷ 16 ∷ 32 ∷ 48 ∷ 64 ∷ 80 ∷ 96 ∷ 112 ∷ 128 ∷ 144 ∷ 160 ∷ 176 ∷ 192 ∷ 208 ∷ 224 ∷ 240 ∷ []

-- and before them these numbers
abbrev pub nibbles : List ℕ
nibbles = 0 ∷ 1 ∷ 2 ∷ 3 ∷ 4 ∷ 5 ∷ 6 ∷ 7 ∷ 8 ∷ 9 ∷ 10 ∷ 11 ∷ 12 ∷ 13 ∷ 14 ∷ 15 ∷ sixteens

low_nibble : (n : ℕ) → n < 16 → get_or nibbles n 0 ≡ n
unfolding tabulates passes
low_nibble n below =
    sym (get_or-take 16 nibbles n 0 below) ∙ tabulates_at (λ x. x) (take 16 nibbles) n refl below

high_nibble : (n : ℕ) → n < 16 → get_or nibbles (16 + n) 0 ≡ n * 16
unfolding tabulates passes
high_nibble n below = sym (get_or-drop 16 nibbles n 0) ∙ tabulates_at (λ x. x * 16) sixteens n refl below

module _ (f : ℕ → ℕ) (entries : List ℕ) (is : entries ≡ map f nibbles) where
  entry_at : (n : ℕ) → n < 32 → get_or entries n 0 ≡ f (get_or nibbles n 0)
  entry_at n below = ap (λ (l : List ℕ). get_or l n 0) is ∙ get_or-map f nibbles n 0 0 below

  -- the entries of the halves of a byte sum to the value at the byte, where f keeps sums
  pub entries_sum : ((a b : ℕ) → f (bit_xor a b) ≡ bit_xor (f a) (f b)) → (x : ℕ) → x < 256
      → entry_sum (chunk 0 16 entries) (chunk 0 16 (take 16 (drop 16 entries))) x ≡ f x
  entries_sum keeps x fits =
      ap₂ bit_xor low high ∙ sym (keeps (x % 16) (x / 16 * 16)) ∙ ap f (two_parts 4 (x % 16) (x / 16) (mod-lt x (lit< tt)) ∙ whole)
    where
      few : x / 16 < 16
      few = omega (arith, fits)

      whole : x / 16 * 2 ^ 4 + x % 16 ≡ x
      whole = omega arith

      low : get_or (chunk 0 16 entries) (x % 16) 0 ≡ f (x % 16)
      low =
          let below : x % 16 < 16 = mod-lt x (lit< tt) in
          get_or-take 16 entries (x % 16) 0 below ∙ entry_at (x % 16) (omega (arith, below)) ∙ ap f (low_nibble (x % 16) below)

      high : get_or (chunk 0 16 (take 16 (drop 16 entries))) (x / 16) 0 ≡ f (x / 16 * 16)
      high =
          get_or-take 16 (take 16 (drop 16 entries)) (x / 16) 0 few
          ∙ get_or-take 16 (drop 16 entries) (x / 16) 0 few
          ∙ get_or-drop 16 entries (x / 16) 0
          ∙ entry_at (16 + x / 16) (omega (arith, few)) ∙ ap f (high_nibble (x / 16) few)
