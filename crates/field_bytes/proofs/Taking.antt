-- Bytes that are read one after the other.
use Rattle.std.proofs.Common.{◌≡◌, ℕ, zero, suc, ◌+◌, ◌*◌, ◌%◌, ◌^◌, ◌<◌, ◌≤◌, refl, sym, ◌∙◌, ap, ap₂, arith, List, [], ◌∷◌, ◌++◌, length, Option, None, Some, inl, inr, subst}
use Rattle.std.proofs.Math.Pow.{pow_mono}
use Rattle.std.proofs.Math.Nat.{lt_of_lt_of_le}
use Rattle.std.proofs.lemmas.Nat.{mod-pow-add, pow-add, pow_pos}
use Rattle.std.proofs.lemmas.List.{length-append}
use native.Mathlib.Nat.{mod-eq_of_lt, mul-suc, mul_assoc, mul_comm}
use native.Mathlib.Numerals.{add-one}
use Rattle.std.specs.Iterator.{Count, IsFinite, Yields, size}
use Rattle.field_base.specs.Chunks.{chunk, chunks, joined}
use Rattle.field_bytes.specs.Bytes.{ReadsElement, ReadsWord, TakesUpTo, low_bytes, number_of_bytes}
use Rattle.field_base.proofs.ChunkLists.{more-lt}

-- some items, and one more
pub yields_more : {S A : Type 0} (next_gives : S → Option A → S → Type 0) (s : S) (xs : List A) (t u : S) (x : A)
    → Yields next_gives s xs t → next_gives t (Some x) u → Yields next_gives s (xs ++ x ∷ []) u
yields_more next_gives s [] t u x same step = (u, subst (λ p. next_gives p (Some x) u) (sym same) step, refl)
yields_more next_gives s (y ∷ ys) t u x begun step = (begun.0, begun.1, yields_more next_gives begun.0 ys t u x begun.2 step)

-- some items, and then others
pub yields_append : {S A : Type 0} (next_gives : S → Option A → S → Type 0) (xs ys : List A) (s t u : S)
    → Yields next_gives s xs t → Yields next_gives t ys u → Yields next_gives s (xs ++ ys) u
yields_append next_gives [] ys s t u same others = subst (λ p. Yields next_gives p ys u) (sym same) others
yields_append next_gives (x ∷ xs) ys s t u begun others =
    (begun.0, begun.1, yields_append next_gives xs ys begun.0 t u begun.2 others)

-- what was taken of a source that ended before n items, of one that gave n, and how much the former had
module _ {S A : Type 0} (next_gives : S → Option A → S → Type 0) (says : List A → Type 0) (start now : S) (taken : List A) (i n : ℕ) where
  -- the source ended before n items
  pub few_taken : (end : S) → Yields next_gives start taken now → length taken ≡ i → says taken → i < n → next_gives now None end
      → (items : List A) × TakesUpTo next_gives start n items end × (i ≡ length items) × says items
  few_taken end yields long is few step = (taken, inl ((now, yields, step), omega (arith, long, few)), sym long, is)

  -- the source gave n items
  pub all_taken : (count : ℕ) → Yields next_gives start taken now → length taken ≡ i → says taken → i ≡ n → count ≡ n
      → (items : List A) × TakesUpTo next_gives start n items now × (count ≡ length items) × says items
  all_taken count yields long is all counted = (taken, inr (yields, long ∙ all), counted ∙ sym (long ∙ all), is)

-- where fewer than n items were taken, the source had no fewer than those
pub few_left : (before now end : Count) (i n : ℕ) → i < n → (IsFinite before → IsFinite now × (size now + i ≤ size before)) → IsFinite before
    → (i ≤ size before) × (i ≡ n → IsFinite end × (size end + n ≤ size before))
few_left before now end i n few counted finite =
    let left = (counted finite).1 in (omega (arith, left), (λ whole. absurd (omega (arith, whole, few))))

-- a byte is worth 256 times as much as the one below it
pub next_place : (n : ℕ) → 2 ^ (8 * suc n) ≡ 256 * 2 ^ (8 * n)
next_place n = ap (λ (k : ℕ). 2 ^ k) (mul-suc 8 n ∙ omega arith) ∙ pow-add 2 8 (8 * n)

-- bytes above others are worth more
pub number-append : (xs ys : List ℕ) → number_of_bytes (xs ++ ys) ≡ number_of_bytes ys * 2 ^ (8 * length xs) + number_of_bytes xs
unfolding joined
number-append [] ys = omega arith
number-append (x ∷ xs) ys =
    let n = number_of_bytes ys in
    let worth : n * 2 ^ (8 * suc (length xs)) ≡ 256 * (n * 2 ^ (8 * length xs)) =
    ap (λ (p : ℕ). n * p) (next_place (length xs)) ∙ sym (mul_assoc n 256 (2 ^ (8 * length xs)))
    ∙ ap (λ (p : ℕ). p * 2 ^ (8 * length xs)) (mul_comm n 256) ∙ mul_assoc 256 n (2 ^ (8 * length xs)) in
    let rest = number-append xs ys in
    omega (arith, worth, rest)

-- one byte more
pub number-more : (bs : List ℕ) (b : ℕ) → number_of_bytes (bs ++ b ∷ []) ≡ b * 2 ^ (8 * length bs) + number_of_bytes bs
unfolding joined
number-more bs b =
    let one : 0 * 256 + b ≡ b = omega arith in
    number-append bs (b ∷ []) ∙ ap (λ (n : ℕ). n * 2 ^ (8 * length bs) + number_of_bytes bs) one

-- the bytes so far, from the state `start` to the state `now`, and their number
pub record Reading {S : Type 0} (next_gives : S → Option ℕ → S → Type 0) (start : S) (i number : ℕ) (now : S) : Type 0 where
  pub below : number < 2 ^ (8 * i)
  pub taken : List ℕ
  pub yields : Yields next_gives start taken now
  pub long : length taken ≡ i
  pub is : number_of_bytes taken ≡ number

module _ {S : Type 0} (next_gives : S → Option ℕ → S → Type 0) (start : S) where
  -- before the first byte the number is 0
  pub nothing_read : (number : ℕ) → number ≡ 0 → Reading next_gives start 0 number start
  unfolding joined
  nothing_read number none = record {
    below = subst (λ (n : ℕ). n < 2 ^ (8 * 0)) (sym none) (pow_pos 0);
    taken = [];
    yields = refl;
    long = refl;
    is = sym none;
  }

  -- one more byte, put above those that were read
  pub byte_read : (i number more b : ℕ) (now next : S) → Reading next_gives start i number now → next_gives now (Some b) next → b < 2 ^ 8
      → more ≡ b * 2 ^ (8 * i) + number → Reading next_gives start (i + 1) more next
  byte_read i number more b now next begun step fits is = record {
    below = more-lt 8 i more b number begun.below fits is;
    taken = begun.taken ++ b ∷ [];
    yields = yields_more next_gives start begun.taken now next b begun.yields step;
    long = length-append begun.taken (b ∷ []) ∙ ap (λ (n : ℕ). n + 1) begun.long;
    is = number-more begun.taken b ∙ ap (λ (n : ℕ). b * 2 ^ (8 * n) + number_of_bytes begun.taken) begun.long
        ∙ ap (λ (n : ℕ). b * 2 ^ (8 * i) + n) begun.is ∙ sym is;
  }

-- ---- the bytes of a number, read again

-- the list of the first n digits has the length n
pub length-chunks : (width n a : ℕ) → length (chunks width n a) ≡ n
unfolding chunks
length-chunks width zero a = refl
length-chunks width (suc n) a = length-append (chunks width n a) (chunk width n a ∷ []) ∙ ap (λ (k : ℕ). k + 1) (length-chunks width n a) ∙ add-one n

-- the number of the lowest bytes of a is a modulo 2 ^ (8 count)
pub read_again : (count a : ℕ) → number_of_bytes (low_bytes count a) ≡ a % 2 ^ (8 * count)
unfolding chunks joined
read_again zero a = sym (mod-one a)
  where
    mod-one : (n : ℕ) → n % 1 ≡ 0
    mod-one n = omega arith
read_again (suc count) a =
    let bits : 8 * suc count ≡ 8 + 8 * count = omega arith in
    number-more (low_bytes count a) (chunk 8 count a)
    ∙ ap₂ (λ (k n : ℕ). chunk 8 count a * 2 ^ (8 * k) + n) (length-chunks 8 count a) (read_again count a)
    ∙ sym (ap (λ (k : ℕ). a % 2 ^ k) bits ∙ mod-pow-add a 8 (8 * count))

-- the bytes of an element give its representation back
pub given_back : (count width a : ℕ) → a < 2 ^ width → width ≤ 8 * count → number_of_bytes (low_bytes count a) % 2 ^ width ≡ a
given_back count width a fits room =
    ap (λ (n : ℕ). n % 2 ^ width) (read_again count a ∙ mod-eq_of_lt (lt_of_lt_of_le fits (pow_mono {i = width} {j = 8 * count} room)))
    ∙ mod-eq_of_lt fits

-- an element that is read from the bytes of an element has its representation
pub same_again : (count width a b : ℕ) (bytes : List ℕ) → a < 2 ^ width → width ≤ 8 * count → b ≡ number_of_bytes bytes % 2 ^ width
    → bytes ≡ low_bytes count a → b ≡ a
same_again count width a b bytes fits room is same =
    is ∙ ap (λ ys. number_of_bytes ys % 2 ^ width) same ∙ given_back count width a fits room

-- the element that a word is cut to is read where the word is
pub element_read : {S W E : Type 0} {can_next : S → Type 0} {next_gives : S → Option ℕ → S → Type 0} {number : W → ℕ} {n : ℕ} {iter rest : S}
    {w : W} (repr : E → ℕ) (width : ℕ) (e : E) → width ≤ 8 * n → ReadsWord can_next next_gives number n iter (Some w) rest
    → repr e ≡ number w % 2 ^ width → ((x : E) → repr x < 2 ^ width) → ((x y : E) → repr x ≡ repr y → x ≡ y)
    → ReadsElement can_next next_gives repr width n iter (Some e) rest
element_read {n = n} repr width e room read cut fits same =
    let value = cut ∙ ap (λ (k : ℕ). k % 2 ^ width) read.value in
    record {
      bytes = read.bytes;
      taken = read.taken;
      none_if_short = read.none_if_short;
      value = value;
      goes_on = read.goes_on;
      own_bytes_return = λ x own. same e x (same_again n width (repr x) (repr e) read.bytes (fits x) room value own);
    }
