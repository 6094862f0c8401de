-- Division by a generator polynomial, a symbol at a time, by the values at its roots.
use Rattle.std.proofs.Common.{◌≡◌, ℕ, zero, suc, ◌+◌, ◌-◌, ◌^◌, ◌<◌, sym, ◌∙◌, ap, ap₂, arith, below_more}
use Rattle.std.specs.Prelude.{bit_xor}
use Rattle.std.proofs.lemmas.Nat.{pow_below, xor_comm}
use lib.Bits.{xor_assoc, xor_self, xor_zero_l, xor_zero_r}
use Rattle.field_base.specs.Basis.{sum_below}
use Rattle.field_base.specs.Field.{IsField}
use Rattle.field_base.specs.Powers.{power}
use Rattle.field_base.proofs.PowerLemmas.{one-times, power-lt, times-one}
use Rattle.field_base.proofs.RingLemmas.{mod-times, sum_times, times-zero, xor_cancel, xor_nothing, zero-times}
use Rattle.error_codes.specs.Correcting.{code_value}
use Rattle.error_codes.proofs.CodeValues.{horner-next, value-split}
use Rattle.error_codes.proofs.Moments.{sum-add, sum-none, sum-same, sum-times}

module _ (width : ℕ) (times : ℕ → ℕ → ℕ) (wide : 0 < width) (field : IsField width times) where
  one_fits : 1 < 2 ^ width
  one_fits = pow_below 0 width wide

  -- ---- values of sums

  pub value-same : (n : ℕ) (f g : ℕ → ℕ) (x : ℕ) → ((j : ℕ) → j < n → f j ≡ g j)
      → code_value times n f x ≡ code_value times n g x
  value-same n f g x same =
      sum-same (λ i. times (f i) (power 1 times x (n - 1 - i))) (λ i. times (g i) (power 1 times x (n - 1 - i))) n
      (λ i below. ap (λ (z : ℕ). times z (power 1 times x (n - 1 - i))) (same i below))

  -- the value of a + s b
  value-sum : (n : ℕ) (a b : ℕ → ℕ) (s x : ℕ)
      → code_value times n (λ j. bit_xor (a j) (times s (b j))) x
      ≡ bit_xor (code_value times n a x) (times s (code_value times n b x))
  value-sum n a b s x =
      sum-same (λ i. times (bit_xor (a i) (times s (b i))) (power 1 times x (n - 1 - i)))
      (λ i. bit_xor (times (a i) (power 1 times x (n - 1 - i))) (times s (times (b i) (power 1 times x (n - 1 - i))))) n
      (λ i below.
      sum_times width 1 times field.ring (a i) (times s (b i)) (power 1 times x (n - 1 - i))
      ∙ ap (bit_xor (times (a i) (power 1 times x (n - 1 - i))))
      (field.ring.assoc s (b i) (power 1 times x (n - 1 - i))))
      ∙ sum-add (λ i. times (a i) (power 1 times x (n - 1 - i)))
      (λ i. times s (times (b i) (power 1 times x (n - 1 - i)))) n
      ∙ ap (bit_xor (code_value times n a x))
      (sum-times width times wide field s (λ i. times (b i) (power 1 times x (n - 1 - i))) n)

  -- the value of the first coefficient alone
  value-one : (f : ℕ → ℕ) (x : ℕ) → code_value times 1 f x ≡ times (f 0) 1
  unfolding sum_below power
  value-one f x = xor_zero_l (times (f 0) (power 1 times x (1 - 1 - 0)))

  -- all coefficients moved up by one, where the last was 0
  value-moved : (n : ℕ) (f : ℕ → ℕ) (x : ℕ) → f n ≡ 0
      → code_value times n (λ j. f (j + 1)) x
      ≡ bit_xor (times (code_value times n f x) x) (times (f 0) (power 1 times x n))
  value-moved n f x none =
      value-same n (λ j. f (j + 1)) (λ j. f (1 + j)) x (λ j below. ap f (omega arith))
      ∙ sym (xor_cancel first (code_value times n (λ j. f (1 + j)) x))
      ∙ ap (bit_xor first) (sym (value-split width times wide field 1 n f x)
      ∙ ap (λ (m : ℕ). code_value times m f x) whole ∙ horner-next width times wide field n f x
      ∙ ap (bit_xor (times (code_value times n f x) x)) (ap (λ (z : ℕ). times z 1) none
      ∙ zero-times width 1 times field.ring 1)
      ∙ xor_zero_r (times (code_value times n f x) x))
      ∙ xor_comm first (times (code_value times n f x) x)
      ∙ ap (bit_xor (times (code_value times n f x) x)) first-is
    where
      whole : 1 + n ≡ suc n
      whole = omega arith

      first : ℕ
      first = times (code_value times 1 f x) (power 1 times x n)

      first-is : times (code_value times 1 f x) (power 1 times x n) ≡ times (f 0) (power 1 times x n)
      first-is =
          ap (λ (z : ℕ). times z (power 1 times x n))
          (value-one f x ∙ field.ring.comm (f 0) 1 ∙ field.ring.one (f 0))
          ∙ mod-times width 1 times field.ring (f 0) (power 1 times x n)

  -- ---- the generator polynomial

  -- a polynomial of count + 1 coefficients times x + r, the highest coefficient first
  pub times-root : (count r x : ℕ) (before after : ℕ → ℕ) → after 0 ≡ before 0
      → ((j : ℕ) → j < count + 1 → after (j + 1) ≡ bit_xor (before (j + 1)) (times r (before j)))
      → before (count + 1) ≡ 0
      → code_value times (count + 1 + 1) after x
      ≡ bit_xor (times (code_value times (count + 1) before x) x) (times r (code_value times (count + 1) before x))
  times-root count r x before after first next none =
      ap (λ (m : ℕ). code_value times m after x) whole
      ∙ value-split width times wide field 1 (count + 1) after x
      ∙ ap₂ bit_xor
      (ap (λ (z : ℕ). times z (power 1 times x (count + 1)))
      (value-one after x ∙ ap (λ (z : ℕ). times z 1) first ∙ sym (value-one before x)))
      (value-same (count + 1) (λ j. after (1 + j)) (λ j. bit_xor (before (1 + j)) (times r (before j))) x
      (λ j below. ap after (turned j) ∙ next j below ∙ ap (λ (k : ℕ). bit_xor (before k) (times r (before j)))
      (sym (turned j)))
      ∙ value-sum (count + 1) (λ j. before (1 + j)) before r x)
      ∙ sym (xor_assoc (times (code_value times 1 before x) (power 1 times x (count + 1)))
      (code_value times (count + 1) (λ j. before (1 + j)) x) (times r (code_value times (count + 1) before x)))
      ∙ ap (λ (z : ℕ). bit_xor z (times r (code_value times (count + 1) before x)))
      (sym (value-split width times wide field 1 (count + 1) before x)
      ∙ ap (λ (m : ℕ). code_value times m before x) other
      ∙ horner-next width times wide field (count + 1) before x
      ∙ ap (bit_xor (times (code_value times (count + 1) before x) x))
      (ap (λ (z : ℕ). times z 1) none ∙ zero-times width 1 times field.ring 1)
      ∙ xor_zero_r (times (code_value times (count + 1) before x) x))
    where
      whole : count + 1 + 1 ≡ 1 + (count + 1)
      whole = omega arith

      other : 1 + (count + 1) ≡ suc (count + 1)
      other = omega arith

      turned : (j : ℕ) → 1 + j ≡ j + 1
      turned j = omega arith

  -- a root stays, and r is one
  pub root-stays : (count r x : ℕ) (before after : ℕ → ℕ) → after 0 ≡ before 0
      → ((j : ℕ) → j < count + 1 → after (j + 1) ≡ bit_xor (before (j + 1)) (times r (before j)))
      → before (count + 1) ≡ 0
      → code_value times (count + 1) before x ≡ 0 → code_value times (count + 1 + 1) after x ≡ 0
  root-stays count r x before after first next none root =
      times-root count r x before after first next none
      ∙ ap (λ (z : ℕ). bit_xor (times z x) (times r z)) root
      ∙ ap₂ bit_xor (zero-times width 1 times field.ring x) (times-zero width 1 times field.ring r)
      ∙ xor_zero_l 0

  pub root-added : (count r : ℕ) (before after : ℕ → ℕ) → after 0 ≡ before 0
      → ((j : ℕ) → j < count + 1 → after (j + 1) ≡ bit_xor (before (j + 1)) (times r (before j)))
      → before (count + 1) ≡ 0
      → code_value times (count + 1 + 1) after r ≡ 0
  root-added count r before after first next none =
      times-root count r r before after first next none
      ∙ ap (λ (z : ℕ). bit_xor z (times r (code_value times (count + 1) before r)))
      (field.ring.comm (code_value times (count + 1) before r) r)
      ∙ xor_self (times r (code_value times (count + 1) before r))

  -- a root more
  pub generator-more : (room m : ℕ) (roots before after : ℕ → ℕ) → m + 1 < room → after 0 ≡ before 0
      → ((j : ℕ) → j + 1 < room → after (j + 1) ≡ bit_xor (before (j + 1)) (times (roots m) (before j)))
      → (before 0 ≡ 1) × ((j : ℕ) → m < j → j < room → before j ≡ 0)
      × ((n : ℕ) → n < m → code_value times (m + 1) before (roots n) ≡ 0)
      → (after 0 ≡ 1) × ((j : ℕ) → m + 1 < j → j < room → after j ≡ 0)
      × ((n : ℕ) → n < m + 1 → code_value times (m + 1 + 1) after (roots n) ≡ 0)
  generator-more room m roots before after few first next holds = (
    first ∙ holds.0,
    λ j above below. higher j above below,
    below_more (λ n. code_value times (m + 1 + 1) after (roots n) ≡ 0) m
        (λ n below. root-stays m (roots m) (roots n) before after first nearer none (holds.2 n below))
        (root-added m (roots m) before after first nearer none),
  )
    where
      nearer : (j : ℕ) → j < m + 1 → after (j + 1) ≡ bit_xor (before (j + 1)) (times (roots m) (before j))
      nearer j below = next j (omega (arith, below, few))

      none : before (m + 1) ≡ 0
      none = holds.1 (m + 1) (omega arith) (omega (arith, few))

      more : (j : ℕ) → suc j ≡ j + 1
      more j = omega arith

      higher : (j : ℕ) → m + 1 < j → j < room → after j ≡ 0
      higher zero above below = absurd (omega (arith, above))
      higher (suc j) above below =
          ap after (more j) ∙ next j (omega (arith, below))
          ∙ ap₂ bit_xor (holds.1 (j + 1) (omega (arith, above)) (omega (arith, below)))
          (ap (times (roots m)) (holds.1 j (omega (arith, above)) (omega (arith, below)))
          ∙ times-zero width 1 times field.ring (roots m))
          ∙ xor_zero_l 0

  -- ---- the rest of division

  -- at a root the lower coefficients of a monic polynomial have the value of the highest power
  lower-value : (count x : ℕ) (generator : ℕ → ℕ) → generator 0 ≡ 1 → code_value times (count + 1) generator x ≡ 0
      → code_value times count (λ j. generator (j + 1)) x ≡ power 1 times x count
  lower-value count x generator monic root =
      value-same count (λ j. generator (j + 1)) (λ j. generator (1 + j)) x (λ j below. ap generator (omega arith))
      ∙ sym (xor_nothing (power 1 times x count) (code_value times count (λ j. generator (1 + j)) x)
      (ap (λ (z : ℕ). bit_xor z (code_value times count (λ j. generator (1 + j)) x))
      (sym (one-times width 1 times field.ring (power 1 times x count)
      (power-lt width 1 times field.ring one_fits x count))
      ∙ ap (λ (z : ℕ). times z (power 1 times x count))
      (sym (value-one generator x ∙ ap (λ (z : ℕ). times z 1) monic ∙ times-one width 1 times field.ring 1 one_fits)))
      ∙ sym (value-split width times wide field 1 count generator x)
      ∙ ap (λ (m : ℕ). code_value times m generator x) whole ∙ root))
    where
      whole : 1 + count ≡ count + 1
      whole = omega arith

  -- before the first symbol there is nothing
  pub rest-starts : (count x : ℕ) (word rest : ℕ → ℕ) → ((j : ℕ) → rest j ≡ 0)
      → code_value times count rest x ≡ times (code_value times 0 word x) (power 1 times x count)
  unfolding sum_below
  rest-starts count x word rest none =
      sum-none (λ i. times (rest i) (power 1 times x (count - 1 - i))) count
      (λ i below. ap (λ (z : ℕ). times z (power 1 times x (count - 1 - i))) (none i)
      ∙ zero-times width 1 times field.ring (power 1 times x (count - 1 - i)))
      ∙ sym (zero-times width 1 times field.ring (power 1 times x count))

  -- a symbol further: the value at a root is that of the data so far, times the highest power
  pub rest-more : (count n x : ℕ) (word generator before after : ℕ → ℕ) (symbol : ℕ)
      → generator 0 ≡ 1 → code_value times (count + 1) generator x ≡ 0 → symbol ≡ word n → before count ≡ 0
      → ((j : ℕ) → j < count
      → after j ≡ bit_xor (before (j + 1)) (times (bit_xor symbol (before 0)) (generator (j + 1))))
      → code_value times count before x ≡ times (code_value times n word x) (power 1 times x count)
      → code_value times count after x ≡ times (code_value times (n + 1) word x) (power 1 times x count)
  rest-more count n x word generator before after symbol monic root symbol_is none next value =
      value-same count after (λ j. bit_xor (before (j + 1)) (times (bit_xor symbol (before 0))
      (generator (j + 1)))) x next
      ∙ value-sum count (λ j. before (j + 1)) (λ j. generator (j + 1)) (bit_xor symbol (before 0)) x
      ∙ ap₂ bit_xor (value-moved count before x none)
      (ap (times (bit_xor symbol (before 0))) (lower-value count x generator monic root)
      ∙ sum_times width 1 times field.ring symbol (before 0) top
      ∙ xor_comm (times symbol top) (times (before 0) top))
      ∙ joined (times (code_value times count before x) x) (times (before 0) top) (times symbol top)
      ∙ ap₂ bit_xor
      (ap (λ (z : ℕ). times z x) value
      ∙ field.ring.assoc (code_value times n word x) top x
      ∙ ap (times (code_value times n word x)) (field.ring.comm top x)
      ∙ sym (field.ring.assoc (code_value times n word x) x top))
      (sym (mod-times width 1 times field.ring symbol top)
      ∙ ap (λ (z : ℕ). times z top) (sym (field.ring.one symbol) ∙ field.ring.comm 1 symbol
      ∙ ap (λ (z : ℕ). times z 1) symbol_is))
      ∙ sym (sum_times width 1 times field.ring (times (code_value times n word x) x) (times (word n) 1) top)
      ∙ ap (λ (z : ℕ). times z top) (sym (horner-next width times wide field n word x)
      ∙ ap (λ (m : ℕ). code_value times m word x) more)
    where
      top : ℕ
      top = power 1 times x count

      more : suc n ≡ n + 1
      more = omega arith

      joined : (a b c : ℕ) → bit_xor (bit_xor a b) (bit_xor b c) ≡ bit_xor a c
      joined a b c = xor_assoc a b (bit_xor b c) ∙ ap (bit_xor a) (xor_cancel b c)

  -- the rest behind the data makes a word that is 0 at the root
  pub rest-completes : (count n x : ℕ) (word rest whole : ℕ → ℕ) → ((i : ℕ) → i < n → whole i ≡ word i)
      → ((j : ℕ) → j < count → whole (n + j) ≡ rest j)
      → code_value times count rest x ≡ times (code_value times n word x) (power 1 times x count)
      → code_value times (n + count) whole x ≡ 0
  rest-completes count n x word rest whole kept written value =
      value-split width times wide field n count whole x
      ∙ ap₂ bit_xor (ap (λ (z : ℕ). times z (power 1 times x count)) (value-same n whole word x kept))
      (value-same count (λ j. whole (n + j)) rest x written ∙ value)
      ∙ xor_self (times (code_value times n word x) (power 1 times x count))
