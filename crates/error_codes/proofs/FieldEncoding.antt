-- Encoding in place over any field: the generator polynomial by one root more, and the rest of division by one symbol more.
use Rattle.std.proofs.Common.{◌≡◌, inl, inr, ℕ, ◌+◌, ◌^◌, ◌<◌, ◌≤◌, List, length, take, refl, sym, ◌∙◌, ap, arith, subst}
use Rattle.std.specs.Prelude.{bit_xor, slice_index}
use Rattle.std.proofs.lemmas.Bool.{cases_lt}
use Rattle.std.proofs.lemmas.List.{get_or-take, get_or_past, length-take-le}
use Rattle.std.proofs.lemmas.Nat.{pow_pos, xor_lt}
use lib.Bits.{xor_zero_r}
use Rattle.field_base.specs.Field.{IsField}
use Rattle.field_base.specs.Powers.{power}
use Rattle.field_base.proofs.RingLemmas.{times-zero}
use Rattle.error_codes.specs.Correcting.{HasRoots, code_value}
use Rattle.error_codes.proofs.Encoding.{generator-more, rest-completes, rest-more, value-same}

-- the coefficients of a monic polynomial with the first m roots, and zeros
pub record HasFirstRoots (times : ℕ → ℕ → ℕ) (roots : ℕ → ℕ) (m : ℕ) (row : List ℕ) : Type 0 where
  pub monic : slice_index row 0 ≡ 1
  pub above : (j : ℕ) → m < j → slice_index row j ≡ 0
  pub zeros : (n : ℕ) → n < m → code_value times (m + 1) (slice_index row) (roots n) ≡ 0

module _ (width : ℕ) (times : ℕ → ℕ → ℕ) (wide : 0 < width) (field : IsField width times) where
  -- a root more
  pub first-roots-more : (m x : ℕ) (roots : ℕ → ℕ) (old new : List ℕ) → m + 1 < length old → length new ≡ length old → x ≡ roots m
      → slice_index new 0 ≡ slice_index old 0
      → ((j : ℕ) → j + 1 < length old
      → slice_index new (j + 1) ≡ bit_xor (slice_index old (j + 1)) (times x (slice_index old j)))
      → HasFirstRoots times roots m old → HasFirstRoots times roots (m + 1) new
  first-roots-more m x roots old new room long is first next before =
      let more = generator-more width times wide field (length old) m roots (slice_index old) (slice_index new) room first
      (λ j below. next j below
      ∙ ap (λ (r : ℕ). bit_xor (slice_index old (j + 1)) (times r (slice_index old j))) is)
      (before.monic, (λ j above below. before.above j above), before.zeros) in record {
        monic = more.0;
        above = λ j above.
            elim (cases_lt j (length old)) [
              | inl inside ↦ more.1 j above inside
              | inr past ↦ get_or_past new j 0 (omega (arith, past, long))
            ];
        zeros = more.2;
      }

  -- the rest behind the front, a symbol further
  pub shifted-rest : (start count n x symbol : ℕ) (front generator : ℕ → ℕ) (old new : List ℕ) → length old ≡ start + count
      → generator 0 ≡ 1 → code_value times (count + 1) generator x ≡ 0 → symbol ≡ front n
      → ((j : ℕ) → start + j < length old → slice_index new (start + j)
      ≡ bit_xor (slice_index old (start + (j + 1))) (times (bit_xor symbol (slice_index old start)) (generator (j + 1))))
      → code_value times count (λ j. slice_index old (start + j)) x ≡ times (code_value times n front x) (power 1 times x count)
      → code_value times count (λ j. slice_index new (start + j)) x
      ≡ times (code_value times (n + 1) front x) (power 1 times x count)
  shifted-rest start count n x symbol front generator old new long monic root symbol_is next value =
      rest-more width times wide field count n x front generator (λ j. slice_index old (start + j))
      (λ j. slice_index new (start + j)) symbol monic root symbol_is (get_or_past old (start + count) 0 (omega (arith, long)))
      (λ j below. next j (omega (arith, below, long))
      ∙ ap (λ (k : ℕ). bit_xor (slice_index old (start + (j + 1)))
      (times (bit_xor symbol (slice_index old k)) (generator (j + 1)))) first)
      value
    where
      first : start ≡ start + 0
      first = omega arith

  -- it has elements again
  pub shifted-fits : (start symbol : ℕ) (generator : ℕ → ℕ) (old new : List ℕ) → length new ≡ length old
      → ((j : ℕ) → start + j < length old → slice_index new (start + j)
      ≡ bit_xor (slice_index old (start + (j + 1))) (times (bit_xor symbol (slice_index old start)) (generator (j + 1))))
      → ((j : ℕ) → slice_index old (start + j) < 2 ^ width)
      → (j : ℕ) → slice_index new (start + j) < 2 ^ width
  shifted-fits start symbol generator old new long next fits j =
      elim (cases_lt (start + j) (length old)) [
        | inl inside ↦
            subst (λ (v : ℕ). v < 2 ^ width) (sym (next j inside))
            (xor_lt width (slice_index old (start + (j + 1)))
            (times (bit_xor symbol (slice_index old start)) (generator (j + 1))) (fits (j + 1))
            (field.ring.below (bit_xor symbol (slice_index old start)) (generator (j + 1))))
        | inr past ↦
            subst (λ (v : ℕ). v < 2 ^ width) (sym (get_or_past new (start + j) 0 (omega (arith, past, long)))) (pow_pos width)
      ]

  -- the rest behind the front makes a word of the code
  pub rest-encodes : (start count root first : ℕ) (front : ℕ → ℕ) (word : List ℕ) → length word ≡ start + count
      → ((i : ℕ) → i < start → slice_index word i ≡ front i)
      → ((m : ℕ) → m < count → code_value times count (λ j. slice_index word (start + j)) (power 1 times root (first + m))
      ≡ times (code_value times start front (power 1 times root (first + m)))
      (power 1 times (power 1 times root (first + m)) count))
      → HasRoots times root first count word
  rest-encodes start count root first front word long kept values m below =
      ap (λ (n : ℕ). code_value times n (slice_index word) (power 1 times root (first + m))) long
      ∙ rest-completes width times wide field count start (power 1 times root (first + m)) front
      (λ j. slice_index word (start + j)) (slice_index word) kept (λ j inside. refl) (values m below)

  -- where a factor is 0
  pub product-behind : (r a b : ℕ) → b ≡ 0 → a ≡ bit_xor a (times r b)
  product-behind r a b none =
      sym (xor_zero_r a) ∙ ap (bit_xor a) (sym (ap (times r) none ∙ times-zero width 1 times field.ring r))

  -- the value of the first k coefficients alone
  pub front-value : (coefficients : List ℕ) (k x : ℕ) → k ≤ length coefficients
      → code_value times (length (take k coefficients)) (slice_index (take k coefficients)) x
      ≡ code_value times k (slice_index coefficients) x
  front-value coefficients k x inside =
      ap (λ (m : ℕ). code_value times m (slice_index (take k coefficients)) x) (length-take-le k coefficients inside)
      ∙ value-same width times wide field k (slice_index (take k coefficients)) (slice_index coefficients) x
      (λ j below. get_or-take k coefficients j 0 below)
