-- The shift register of the encoder in lanes: products that are looked up, rows of 32 symbols, and the words that these are symbols of.
use Rattle.std.proofs.Common.{◌≡◌, ◌⊎◌, inl, inr, ℕ, ◌+◌, ◌-◌, ◌*◌, ◌/◌, ◌%◌, ◌^◌, ◌<◌, ◌≤◌, List, length, set, refl, sym, ◌∙◌, ap, ap₂, subst}
use Rattle.std.proofs.Common.{arith, lit<, below_more}
use Rattle.std.specs.Prelude.{bit_xor, slice_index}
use Rattle.std.specs.Simd.Lanes.{chunk, put_chunk}
use Rattle.std.proofs.lemmas.Bool.{cases_lt}
use Rattle.std.proofs.lemmas.List.{get_or-set_other, get_or-set_same, length-set}
use Rattle.std.proofs.lemmas.Nat.{xor_block, xor_comm}
use Rattle.std.proofs.lemmas.Simd.{get_or-chunk, get_or-put_chunk_above, get_or-put_chunk_at, get_or-put_chunk_below, length-put_chunk}
use native.Mathlib.Nat.{mod-lt}
use lib.Arith.{digits_lt}
use lib.Bits.{xor_zero_r}
use Rattle.word_tables.specs.Nibbles.{entry_sum}
use Rattle.field_base.specs.Ring.{IsRing}
use Rattle.field_base.proofs.RingLemmas.{sum_times}
use Rattle.error_codes.specs.Interleaved.{HaveProducts, interleaved_word}
use Rattle.error_codes.proofs.WordColumns.{row_inside, word-same}

-- ---- products that are looked up

-- a byte is the sum of its halves
halves : (x : ℕ) → bit_xor (x % 16) (16 * (x / 16)) ≡ x
halves x =
    ap₂ bit_xor low high ∙ xor_block 4 0 (x / 16) (x % 16) 0 (mod-lt x (lit< tt)) (lit< tt)
    ∙ ap₂ (λ (a b : ℕ). a * 2 ^ 4 + b) (xor_comm 0 (x / 16) ∙ xor_zero_r (x / 16)) (xor_zero_r (x % 16)) ∙ whole
  where
    low : x % 16 ≡ 0 * 2 ^ 4 + x % 16
    low = omega arith

    high : 16 * (x / 16) ≡ x / 16 * 2 ^ 4 + 0
    high = omega arith

    whole : x / 16 * 2 ^ 4 + x % 16 ≡ x
    whole = omega arith

-- the entries at the halves of a byte sum to its product by the scalar
pub product-looked_up : (times : ℕ → ℕ → ℕ) → IsRing 8 1 times → (scalars tables : List ℕ) (count j x : ℕ)
    → HaveProducts times scalars count tables → j < count → x < 256
    → entry_sum (chunk (32 * j) 16 tables) (chunk (32 * j + 16) 16 tables) x ≡ times x (slice_index scalars j)
product-looked_up times ring scalars tables count j x have inside fits =
    ap₂ bit_xor (get_or-chunk (32 * j) 16 tables (x % 16) 0 low ∙ have.low j (x % 16) inside low)
    (get_or-chunk (32 * j + 16) 16 tables (x / 16) 0 high ∙ have.high j (x / 16) inside high)
    ∙ sym (sum_times 8 1 times ring (x % 16) (16 * (x / 16)) (slice_index scalars j))
    ∙ ap (λ (v : ℕ). times v (slice_index scalars j)) (halves x)
  where
    low : x % 16 < 16
    low = mod-lt x (lit< tt)

    high : x / 16 < 16
    high = omega (arith, fits)

-- ---- tables that are written

-- the first n entries of both halves of the table that begins at a place, and everything before it as it was
pub record TableWritten (times : ℕ → ℕ → ℕ) (scalar start n : ℕ) (old now : List ℕ) : Type 0 where
  pub long : length now ≡ length old
  pub low : (k : ℕ) → k < n → slice_index now (start + k) ≡ times k scalar
  pub high : (k : ℕ) → k < n → slice_index now (start + 16 + k) ≡ times (16 * k) scalar
  pub before : (p : ℕ) → p < start → slice_index now p ≡ slice_index old p

pub table-none : (times : ℕ → ℕ → ℕ) (scalar start : ℕ) (old : List ℕ) → TableWritten times scalar start 0 old old
table-none times scalar start old = record {
  long = refl;
  low = λ k below. absurd (omega (arith, below));
  high = λ k below. absurd (omega (arith, below));
  before = λ p less. refl;
}

pub table-more : (times : ℕ → ℕ → ℕ) (scalar start n a b : ℕ) (old now : List ℕ) → n < 16 → start + 32 ≤ length old
    → a ≡ times n scalar → b ≡ times (16 * n) scalar → TableWritten times scalar start n old now
    → TableWritten times scalar start (n + 1) old (set (set now (start + n) a) (start + 16 + n) b)
table-more times scalar start n a b old now few room a_is b_is before = record {
  long = length-set one (start + 16 + n) b ∙ length-set now (start + n) a ∙ before.long;
  low = below_more (λ k. slice_index both (start + k) ≡ times k scalar) n
      (λ k below. get_or-set_other one (start + 16 + n) (start + k) b 0 (λ e. absurd (omega (arith, e, below)))
      ∙ get_or-set_other now (start + n) (start + k) a 0 (λ e. absurd (omega (arith, e, below))) ∙ before.low k below)
      (get_or-set_other one (start + 16 + n) (start + n) b 0 (λ e. absurd (omega (arith, e)))
      ∙ get_or-set_same now (start + n) a 0 (omega (arith, room, few, same)) ∙ a_is);
  high = below_more (λ k. slice_index both (start + 16 + k) ≡ times (16 * k) scalar) n
      (λ k below. get_or-set_other one (start + 16 + n) (start + 16 + k) b 0 (λ e. absurd (omega (arith, e, below)))
      ∙ get_or-set_other now (start + n) (start + 16 + k) a 0 (λ e. absurd (omega (arith, e, few))) ∙ before.high k below)
      (get_or-set_same one (start + 16 + n) b 0 (omega (arith, room, few, same, longer)) ∙ b_is);
  before = λ p less.
      get_or-set_other one (start + 16 + n) p b 0 (λ e. absurd (omega (arith, e, less)))
      ∙ get_or-set_other now (start + n) p a 0 (λ e. absurd (omega (arith, e, less))) ∙ before.before p less;
}
  where
    one : List ℕ
    one = set now (start + n) a

    both : List ℕ
    both = set one (start + 16 + n) b

    same : length now ≡ length old
    same = before.long

    longer : length one ≡ length now
    longer = length-set now (start + n) a

pub products-none : (times : ℕ → ℕ → ℕ) (scalars tables : List ℕ) → HaveProducts times scalars 0 tables
products-none times scalars tables = record {
  low = λ j n below few. absurd (omega (arith, below));
  high = λ j n below few. absurd (omega (arith, below));
}

-- a table more
pub products-more : (times : ℕ → ℕ → ℕ) (scalars : List ℕ) (j : ℕ) (now next : List ℕ)
    → ((n : ℕ) → n < 16 → slice_index next (32 * j + n) ≡ times n (slice_index scalars j))
    → ((n : ℕ) → n < 16 → slice_index next (32 * j + 16 + n) ≡ times (16 * n) (slice_index scalars j))
    → ((p : ℕ) → p < 32 * j → slice_index next p ≡ slice_index now p)
    → HaveProducts times scalars j now → HaveProducts times scalars (j + 1) next
products-more times scalars j now next low high same before = record {
  low = λ k n below few.
      below_more (λ i. slice_index next (32 * i + n) ≡ times n (slice_index scalars i)) j
      (λ i less. same (32 * i + n) (omega (arith, less, few)) ∙ before.low i n less few) (low n few) k below;
  high = λ k n below few.
      below_more (λ i. slice_index next (32 * i + 16 + n) ≡ times (16 * n) (slice_index scalars i)) j
      (λ i less. same (32 * i + 16 + n) (omega (arith, less, few)) ∙ before.high i n less few) (high n few) k below;
}

-- ---- rows that are written one after the other

-- the rows before row j have their values, and everything from there on is as it was
pub record RowsWritten (value : ℕ → ℕ → ℕ) (j : ℕ) (old now : List ℕ) : Type 0 where
  pub long : length now ≡ length old
  pub done : (k lane : ℕ) → k < j → lane < 32 → slice_index now (32 * k + lane) ≡ value k lane
  pub rest : (p : ℕ) → 32 * j ≤ p → slice_index now p ≡ slice_index old p

pub rows-none : (value : ℕ → ℕ → ℕ) (old : List ℕ) → RowsWritten value 0 old old
rows-none value old = record { long = refl; done = λ k lane below few. absurd (omega (arith, below)); rest = λ p above. refl }

pub rows-more : (value : ℕ → ℕ → ℕ) (j : ℕ) (old now row : List ℕ) → 32 * j + 32 ≤ length old → length row ≡ 32
    → ((lane : ℕ) → lane < 32 → slice_index row lane ≡ value j lane) → RowsWritten value j old now
    → RowsWritten value (j + 1) old (put_chunk (32 * j) now row)
rows-more value j old now row room long given before = record {
  long = length-put_chunk (32 * j) now row ∙ before.long;
  done = λ k lane below few.
      below_more (λ i. slice_index (put_chunk (32 * j) now row) (32 * i + lane) ≡ value i lane) j
      (λ i less. get_or-put_chunk_below (32 * j) now row (32 * i + lane) 0 (omega (arith, less, few)) ∙ before.done i lane less few)
      (get_or-put_chunk_at (32 * j) now row lane 0 (omega (arith, long, few)) (omega (arith, long, room, same)) ∙ given lane few)
      k below;
  rest = λ p above.
      get_or-put_chunk_above (32 * j) now row p 0 (omega (arith, long, above)) ∙ before.rest p (omega (arith, above));
}
  where
    same : length now ≡ length old
    same = before.long

-- ---- the words that rows are symbols of

-- the symbols from symbol `base` on of the words `first`, .., first + width - 1 have their values up to the j-th of them, and the symbols
-- before, and those of other words, are as they were
pub record ColumnsWritten (depth first width base : ℕ) (value : ℕ → ℕ → ℕ) (old now : List ℕ) (j : ℕ) : Type 0 where
  pub long : length now ≡ length old
  pub done : (k c : ℕ) → k < j → c < width → slice_index now ((base + k) * depth + (first + c)) ≡ value k c
  pub others : (c i : ℕ) → c < depth → (i < base) ⊎ ((c < first) ⊎ (first + width ≤ c))
      → slice_index now (i * depth + c) ≡ slice_index old (i * depth + c)

pub written-none : (depth first width base : ℕ) (value : ℕ → ℕ → ℕ) (old : List ℕ)
    → ColumnsWritten depth first width base value old old 0
written-none depth first width base value old = record {
  long = refl;
  done = λ k c below inside. absurd (omega (arith, below));
  others = λ c i inside out. refl;
}

-- a symbol of other words, or an earlier one, lies outside of a row
outside-row : (depth first width base j c i : ℕ) → first + width ≤ depth → c < depth
    → (i < base) ⊎ ((c < first) ⊎ (first + width ≤ c))
    → (i * depth + c < (base + j) * depth + first) ⊎ ((base + j) * depth + first + width ≤ i * depth + c)
outside-row depth first width base j c i room inside (inl early) =
    inl (let less : i * depth + c < (base + j) * depth = digits_lt (omega (arith, early)) inside in omega (arith, less))
outside-row depth first width base j c i room inside (inr out) = pick out (cases_lt i (base + j)) (cases_lt (base + j) i)
  where
    pick : (c < first) ⊎ (first + width ≤ c) → (i < base + j) ⊎ (base + j ≤ i) → (base + j < i) ⊎ (i ≤ base + j)
        → (i * depth + c < (base + j) * depth + first) ⊎ ((base + j) * depth + first + width ≤ i * depth + c)
    pick side (inl early) other =
        inl (let less : i * depth + c < (base + j) * depth = digits_lt early inside in omega (arith, less))
    pick side (inr most) (inl late) =
        inr (let more = row_inside depth (base + j) i late in omega (arith, more, room))
    pick (inl low) (inr most) (inr least) =
        let here : i ≡ base + j = omega (arith, most, least) in
        let same : i * depth ≡ (base + j) * depth = ap (λ (n : ℕ). n * depth) here in inl (omega (arith, same, low))
    pick (inr high) (inr most) (inr least) =
        let here : i ≡ base + j = omega (arith, most, least) in
        let same : i * depth ≡ (base + j) * depth = ap (λ (n : ℕ). n * depth) here in inr (omega (arith, same, high))

-- a row more
pub written-more : (depth first width base : ℕ) (value : ℕ → ℕ → ℕ) (j : ℕ) (old now next : List ℕ) → first + width ≤ depth
    → length next ≡ length now
    → ((c : ℕ) → c < width → slice_index next ((base + j) * depth + first + c) ≡ value j c)
    → ((p : ℕ) → (p < (base + j) * depth + first) ⊎ ((base + j) * depth + first + width ≤ p) → slice_index next p ≡ slice_index now p)
    → ColumnsWritten depth first width base value old now j → ColumnsWritten depth first width base value old next (j + 1)
written-more depth first width base value j old now next room long given same before = record {
  long = long ∙ before.long;
  done = λ k c below inside.
      below_more (λ i. slice_index next ((base + i) * depth + (first + c)) ≡ value i c) j
      (λ i less. same ((base + i) * depth + (first + c)) (inl (earlier i c less inside)) ∙ before.done i c less inside)
      (ap (slice_index next) (place c) ∙ given c inside) k below;
  others = λ c i inside out.
      same (i * depth + c) (outside-row depth first width base j c i room inside out) ∙ before.others c i inside out;
}
  where
    place : (c : ℕ) → (base + j) * depth + (first + c) ≡ (base + j) * depth + first + c
    place c = omega arith

    earlier : (i c : ℕ) → i < j → c < width → (base + i) * depth + (first + c) < (base + j) * depth + first
    earlier i c less inside =
        let row : base + i < base + j = omega (arith, less) in
        let column : first + c < depth = omega (arith, inside, room) in
        let below : (base + i) * depth + (first + c) < (base + j) * depth = digits_lt row column in omega (arith, below)

-- what holds of the words before, and of those that are changed, where the others are as they were
pub words-joined : (holds : List ℕ → Type 0) (n depth first width : ℕ) (now next : List ℕ) → first + width ≤ depth
    → ((c i : ℕ) → c < depth → (c < first) ⊎ (first + width ≤ c)
    → slice_index next (i * depth + c) ≡ slice_index now (i * depth + c))
    → ((c : ℕ) → c < width → holds (interleaved_word n depth next (first + c)))
    → ((c : ℕ) → c < first → holds (interleaved_word n depth now c))
    → (c : ℕ) → c < first + width → holds (interleaved_word n depth next c)
words-joined holds n depth first width now next room same changed before c below =
    elim (cases_lt c first) [
      | inl less ↦
          subst holds
          (sym (word-same n depth now next c (λ i inside. same c i (omega (arith, less, room)) (inl less)))) (before c less)
      | inr most ↦
          let here : first + (c - first) ≡ c = omega (arith, most) in
          subst (λ (d : ℕ). holds (interleaved_word n depth next d)) here (changed (c - first) (omega (arith, below, most)))
    ]
