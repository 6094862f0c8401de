-- Eight bytes of an element that a stream gives at once.
use Rattle.std.proofs.Common.{◌≡◌, ℕ, zero, suc, ◌+◌, ◌*◌, ◌/◌, ◌%◌, ◌^◌, ◌<◌, ◌≤◌, inl, inr, Bool, false, refl, sym, ◌∙◌, ap, arith, List, [], ◌∷◌, ◌++◌, drop, length, subst, Option, Some, None}
use Rattle.std.proofs.Math.Nat.{div-div-eq-div-mul}
use Rattle.std.proofs.lemmas.List.{append-nil, length-drop}
use Rattle.std.proofs.lemmas.Nat.{mul-le, pow-add}
use native.Mathlib.Nat.{div-one, mul-add, suc-mul}
use Rattle.std.specs.Iterator.{Count, IsFinite, Yields, size as items}
use Rattle.field_base.specs.Chunks.{chunk, chunks, joined}
use Rattle.field_bytes.specs.Bytes.{TakesUpTo, low_bytes, number_of_bytes}
use Rattle.field_bytes.specs.declared.streams.ByteStream.{ByteStream}
use Rattle.field_bytes.specs.Streams.{GivesByte, HasTaken, IsWithin, byte_count, bytes_pending, joined_bytes}
use Rattle.field_bytes.proofs.Streaming.{byte_given, first_bytes, none_taken, one_taken}
use Rattle.field_bytes.proofs.Taking.{length-chunks, read_again, yields_more}

-- a byte of what is above some bytes
chunk-above : (g n a : ℕ) → chunk 8 n (a / 2 ^ (8 * g)) ≡ chunk 8 (g + n) a
chunk-above g n a =
    ap (λ (k : ℕ). k % 2 ^ 8) (div-div-eq-div-mul a (2 ^ (8 * g)) (2 ^ (8 * n))
    ∙ ap (λ (k : ℕ). a / k) (sym (ap (λ (k : ℕ). 2 ^ k) (mul-add 8 g n) ∙ pow-add 2 (8 * g) (8 * n))))

-- the lowest word is read without a shift
pub low_word : (k n : ℕ) → k ≡ 0 → n % 2 ^ 64 ≡ chunk 64 k n
low_word k n first = sym (ap (λ (i : ℕ). n / 2 ^ (64 * i) % 2 ^ 64) first ∙ ap (λ (m : ℕ). m % 2 ^ 64) (div-one n))

-- the word of eight bytes from a whole word on
pub word_of_eight : (g a n : ℕ) → g % 8 ≡ 0 → n ≡ chunk 64 (g / 8) a % 2 ^ 64 → n ≡ number_of_bytes (low_bytes 8 (a / 2 ^ (8 * g)))
word_of_eight g a n whole is =
    let place : 64 * (g / 8) ≡ 8 * g = omega (arith, whole) in
    is ∙ twice (a / 2 ^ (64 * (g / 8))) ∙ ap (λ (k : ℕ). a / 2 ^ k % 2 ^ 64) place ∙ sym (read_again 8 (a / 2 ^ (8 * g)))
  where
    twice : (m : ℕ) → m % 2 ^ 64 % 2 ^ 64 ≡ m % 2 ^ 64
    twice m = omega arith

-- an element of whole words has room for a word where one begins within it
pub room_within : (size g : ℕ) → size % 8 ≡ 0 → g % 8 ≡ 0 → g < size → g + 8 ≤ size
room_within size g words whole within = omega (arith, words, whole, within)

module _ {S E : Type 0} (next_gives : S → Option E → S → Type 0) (size : ℕ) (repr : E → ℕ) where
  -- The bytes of x from place g on come next from a stream, whose source is then at e.
  abbrev pub Comes : ByteStream S E → E → ℕ → S → Type 0
  Comes s x g e = (taken : List E) × HasTaken next_gives s.ended s.elements taken e
      × (bytes_pending size repr s.pending s.given ++ joined_bytes size repr taken ≡ drop g (low_bytes size (repr x)))

  -- a pending element comes next
  pub comes_pending : (s : ByteStream S E) (x : E) → s.pending ≡ Some x → Comes s x s.given s.elements
  comes_pending s x is = ([], none_taken next_gives s.ended s.elements s.elements refl, append-nil (bytes_pending size repr s.pending s.given) ∙ ap (λ p. bytes_pending size repr p s.given) is)

  -- where none is pending, an element of the source comes next
  pub comes_next : (s : ByteStream S E) (x : E) (e : S) → s.pending ≡ None → IsWithin size s.pending s.given → s.ended ≡ false
      → next_gives s.elements (Some x) e → Comes s x 0 e
  comes_next s x e none within goes step =
      let start : s.given ≡ 0 = subst (λ p. IsWithin size p s.given) none within in
      subst (λ (g : ℕ). Comes s x g e) start (x ∷ [], one_taken next_gives s.ended s.elements e e x goes step refl, first_bytes size repr s.pending s.given x _ none within refl)

  -- the stream whose next bytes are those of x from place g on
  abbrev state_at : E → ℕ → S → Bool → ByteStream S E
  state_at x g e over = record { elements = e; pending = Some x; given = g; ended = over }

  -- the next byte of the element that comes is given by a call
  one_byte : (s t : ByteStream S E) (x : E) (g b : ℕ) (e : S) → Comes s x g e → g < size → b ≡ chunk 8 g (repr x) → t.elements ≡ e
      → bytes_pending size repr t.pending t.given ≡ drop (g + 1) (low_bytes size (repr x)) → t.ended ≡ s.ended
      → GivesByte next_gives size repr s (Some b) t
  one_byte s t x g b e comes within is same left kept = (
    comes.0,
    (comes.1.0, subst (λ u. Yields next_gives s.elements comes.0 u) (sym same) comes.1.1),
    comes.2 ∙ byte_given size g (repr x) b within is ∙ ap (λ ys. b ∷ ys) (sym left),
    kept,
  )

  -- the byte at place g + n, which is byte n of what is above g bytes
  byte_at : (s t : ByteStream S E) (x : E) (g n : ℕ) (e : S) → Comes s x (g + n) e → g + n < size → t.elements ≡ e
      → bytes_pending size repr t.pending t.given ≡ drop (g + suc n) (low_bytes size (repr x)) → t.ended ≡ s.ended
      → GivesByte next_gives size repr s (Some (chunk 8 n (repr x / 2 ^ (8 * g)))) t
  byte_at s t x g n e comes within same left kept =
      one_byte s t x (g + n) _ e comes within (chunk-above g n (repr x)) same
      (left ∙ ap (λ (k : ℕ). drop k (low_bytes size (repr x))) next) kept
    where
      next : g + suc n ≡ g + n + 1
      next = omega arith

  -- n + 1 further bytes of the element that comes are given by as many calls
  some_bytes : (n : ℕ) (s : ByteStream S E) (x : E) (g : ℕ) (e : S) → Comes s x (g + 0) e → g + n < size
      → Yields (GivesByte next_gives size repr) s (chunks 8 (suc n) (repr x / 2 ^ (8 * g))) (state_at x (g + suc n) e s.ended)
  unfolding chunks
  some_bytes zero s x g e comes within =
      (state_at x (g + suc zero) e s.ended, byte_at s (state_at x (g + suc zero) e s.ended) x g zero e comes within refl refl refl, refl)
  some_bytes (suc n) s x g e comes within =
      yields_more (GivesByte next_gives size repr) s _ (state_at x (g + suc n) e s.ended) (state_at x (g + suc (suc n)) e s.ended) _
      (some_bytes n s x g e comes (omega (arith, within)))
      (byte_at (state_at x (g + suc n) e s.ended) (state_at x (g + suc (suc n)) e s.ended) x g (suc n) e
      (comes_pending (state_at x (g + suc n) e s.ended) x refl) within refl refl refl)

  -- eight bytes of an element, after which the stream is one that has the others
  pub eight_bytes : (s t : ByteStream S E) (x : E) (g : ℕ) (e : S) → Comes s x g e → g + 8 ≤ size → t.elements ≡ e
      → bytes_pending size repr t.pending t.given ≡ drop (g + 8) (low_bytes size (repr x)) → t.ended ≡ s.ended
      → Yields (GivesByte next_gives size repr) s (low_bytes 8 (repr x / 2 ^ (8 * g))) t
  unfolding chunks
  eight_bytes s t x g e comes room same left kept =
      yields_more (GivesByte next_gives size repr) s (chunks 8 7 (repr x / 2 ^ (8 * g))) (state_at x (g + 7) e s.ended) t _
      (some_bytes 6 s x g e (subst (λ (k : ℕ). Comes s x k e) nothing comes) (omega (arith, room)))
      (byte_at (state_at x (g + 7) e s.ended) t x g 7 e (comes_pending (state_at x (g + 7) e s.ended) x refl) (omega (arith, room)) same left kept)
    where
      nothing : g ≡ g + 0
      nothing = omega arith

  -- a stream gives eight bytes at once, which make the word
  pub word_taken : (s t : ByteStream S E) (x : E) (g : ℕ) (e : S) → Comes s x g e → g + 8 ≤ size → t.elements ≡ e
      → bytes_pending size repr t.pending t.given ≡ drop (g + 8) (low_bytes size (repr x)) → t.ended ≡ s.ended → (n number : ℕ) → n ≡ 8
      → number ≡ number_of_bytes (low_bytes 8 (repr x / 2 ^ (8 * g)))
      → (bytes : List ℕ) × TakesUpTo (GivesByte next_gives size repr) s n bytes t × (8 ≡ length bytes) × (number ≡ number_of_bytes bytes)
  word_taken s t x g e comes room same left kept n number eight is =
      let long : length (low_bytes 8 (repr x / 2 ^ (8 * g))) ≡ 8 = length-chunks 8 8 (repr x / 2 ^ (8 * g)) in
      (low_bytes 8 (repr x / 2 ^ (8 * g)), inr (eight_bytes s t x g e comes room same left kept, long ∙ sym eight), sym long, is)

  -- a stream whose source ends gives no byte, and the word 0
  pub nothing_taken : (s t : ByteStream S E) (n number : ℕ) → 0 < n → number ≡ 0 → GivesByte next_gives size repr s None t
      → (bytes : List ℕ) × TakesUpTo (GivesByte next_gives size repr) s n bytes t × (0 ≡ length bytes) × (number ≡ number_of_bytes bytes)
  unfolding joined
  nothing_taken s t n number wide none step = ([], inl ((s, refl, step), wide), refl, none)

  -- eight bytes fewer are pending
  left_after : (g : ℕ) (x : E) → g + 8 ≤ size → length (drop (g + 8) (low_bytes size (repr x))) + 8 ≡ length (drop g (low_bytes size (repr x)))
  left_after g x room =
      let whole = length-chunks 8 size (repr x) in
      let before = length-drop g (low_bytes size (repr x)) in
      let after = length-drop (g + 8) (low_bytes size (repr x)) in
      omega (arith, whole, before, after, room)

  module _ (remaining : S → Count) where
    -- what may still come after a word of the pending element
    pub less_pending : (s t : ByteStream S E) (x : E) (n : ℕ) → n ≡ 8 → s.pending ≡ Some x → s.given + 8 ≤ size → t.elements ≡ s.elements
        → bytes_pending size repr t.pending t.given ≡ drop (s.given + 8) (low_bytes size (repr x))
        → IsFinite (byte_count remaining size repr s)
        → (8 ≤ items (byte_count remaining size repr s))
        × (8 ≡ n → IsFinite (byte_count remaining size repr t) × (items (byte_count remaining size repr t) + n ≤ items (byte_count remaining size repr s)))
    less_pending s t x n eight is room same left finite =
        let now : length (bytes_pending size repr s.pending s.given) ≡ length (drop s.given (low_bytes size (repr x))) =
        ap (λ p. length (bytes_pending size repr p s.given)) is in
        let then : length (bytes_pending size repr t.pending t.given) ≡ length (drop (s.given + 8) (low_bytes size (repr x))) = ap length left in
        let less = left_after s.given x room in
        let bound : (remaining t.elements).bound * size ≡ (remaining s.elements).bound * size = ap (λ e. (remaining e).bound * size) same in
        (omega (arith, now, less), λ whole. (subst (λ e. IsFinite (remaining e)) (sym same) finite, omega (arith, now, then, less, bound, eight)))

    -- after the first word of an element of the source, eight bytes fewer are left than before
    pub less_left : (s t : ByteStream S E) (x : E) (e : S) (n : ℕ) → n ≡ 8 → 0 + 8 ≤ size → t.elements ≡ e
        → bytes_pending size repr t.pending t.given ≡ drop (0 + 8) (low_bytes size (repr x))
        → IsFinite (remaining e) → (remaining e).bound < (remaining s.elements).bound
        → (8 ≤ items (byte_count remaining size repr s))
        × (8 ≡ n → IsFinite (byte_count remaining size repr t) × (items (byte_count remaining size repr t) + n ≤ items (byte_count remaining size repr s)))
    less_left s t x e n eight room same left finite fewer =
        let then : length (bytes_pending size repr t.pending t.given) ≡ length (drop (0 + 8) (low_bytes size (repr x))) = ap length left in
        let less = left_after 0 x room in
        let all : length (drop 0 (low_bytes size (repr x))) ≡ size = length-chunks 8 size (repr x) in
        let bound : (remaining t.elements).bound * size ≡ (remaining e).bound * size = ap (λ u. (remaining u).bound * size) same in
        let more : suc (remaining e).bound * size ≤ (remaining s.elements).bound * size =
        mul-le (suc (remaining e).bound) size (remaining s.elements).bound size fewer (omega arith) in
        let one : suc (remaining e).bound * size ≡ (remaining e).bound * size + size = suc-mul (remaining e).bound size in
        (omega (arith, more, one, room), λ whole. (subst (λ u. IsFinite (remaining u)) (sym same) finite, omega (arith, then, less, all, bound, more, one, eight)))
