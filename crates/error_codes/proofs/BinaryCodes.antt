-- The generator polynomial of a binary code: a polynomial whose highest coefficient is 1 and whose roots are different, as many as its
-- degree, and the squares of each other, has bits as its coefficients.
use Rattle.std.proofs.Common.{◌≡◌, ◌⊎◌, inl, inr, ℕ, zero, suc, ◌+◌, ◌-◌, ◌%◌, ◌<◌, ◌≤◌, List, length, Bool, true, false}
use Rattle.std.proofs.Common.{refl, sym, subst, ◌∙◌, ap, ap₂, arith, lit<, replicate, set}
use Rattle.std.specs.Prelude.{◌↔◌, bit_and, bit_xor, slice_index}
use Rattle.std.proofs.lemmas.Bool.{cases_lt}
use Rattle.std.proofs.lemmas.Bool.Decides.{eqb_tells}
use Rattle.std.proofs.lemmas.List.{get_or-set_other, get_or-set_same}
use native.Mathlib.Nat.{mod-eq_of_lt}
use lib.Bits.{and_le_l, and_zero_l, xor_lt, xor_self, xor_zero_l}
use Rattle.field_base.specs.Basis.{sum_below}
use Rattle.field_base.specs.Field.{IsField}
use Rattle.field_base.specs.PolynomialRoots.{AreDistinctBelow}
use Rattle.field_base.specs.Powers.{power, repeated_square}
use Rattle.field_base.proofs.Codewords.{many_roots_mean_zero}
use Rattle.field_base.proofs.FieldLemmas.{no_zero_divisors}
use Rattle.field_base.proofs.PowerLemmas.{one-times, power-lt, repeated_square-lt, repeated_square-none, repeated_square_more, square_times, square_xor, times-one}
use Rattle.field_base.proofs.RingLemmas.{sum_times, times-zero, xor_nothing, zero-times}
use Rattle.field_slices.specs.Marks.{marked_below}
use Rattle.field_slices.proofs.Counts.{enumerated}
use Rattle.error_codes.specs.BinaryBch.{HasFewConjugates, IsConjugate, IsSquaring, MarkConjugates}
use Rattle.reed_solomon.specs.ByteFields.{byte_times}
use Rattle.error_codes.specs.Correcting.{code_value}
use Rattle.error_codes.specs.Filling.{is_marked}
use Rattle.reed_solomon.specs.declared.byte_field.ByteField.{ByteField}
use Rattle.error_codes.proofs.CodeValues.{value-split}
use Rattle.error_codes.proofs.Marking.{count-more, count-same, none-marked}
use Rattle.error_codes.proofs.Meanings.{marks-same}
use Rattle.error_codes.proofs.Moments.{sum-add, sum-same}
use Rattle.error_codes.proofs.Suspects.{reversed, reversed-at, reversed-count, reversed-value}

module _ (times : ℕ → ℕ → ℕ) (field : IsField 8 times) where
  -- ---- squares of coefficients

  sum-squared : (f : ℕ → ℕ) (n : ℕ) → times (sum_below f n) (sum_below f n) ≡ sum_below (λ i. times (f i) (f i)) n
  unfolding sum_below
  sum-squared f zero = times-zero 8 1 times field.ring 0
  sum-squared f (suc n) =
      square_xor 8 1 times field.ring (sum_below f n) (f n)
      ∙ ap (λ (z : ℕ). bit_xor z (times (f n) (f n))) (sum-squared f n)

  power-squared : (x k : ℕ) → power 1 times (times x x) k ≡ times (power 1 times x k) (power 1 times x k)
  unfolding power
  power-squared x zero = sym (one-times 8 1 times field.ring 1 (lit< tt))
  power-squared x (suc k) =
      ap (λ (z : ℕ). times z (times x x)) (power-squared x k) ∙ sym (square_times 8 1 times field.ring (power 1 times x k) x)

  -- the value of the squares at a square is the square of the value
  value-squared : (n : ℕ) (word : ℕ → ℕ) (x : ℕ)
      → code_value times n (λ i. times (word i) (word i)) (times x x) ≡ times (code_value times n word x) (code_value times n word x)
  value-squared n word x =
      sum-same (λ i. times (times (word i) (word i)) (power 1 times (times x x) (n - 1 - i)))
      (λ i. times (times (word i) (power 1 times x (n - 1 - i))) (times (word i) (power 1 times x (n - 1 - i)))) n
      (λ i below.
      ap (times (times (word i) (word i))) (power-squared x (n - 1 - i))
      ∙ sym (square_times 8 1 times field.ring (word i) (power 1 times x (n - 1 - i))))
      ∙ sym (sum-squared (λ i. times (word i) (power 1 times x (n - 1 - i))) n)

  value-one : (f : ℕ → ℕ) (x : ℕ) → code_value times 1 f x ≡ times (f 0) 1
  unfolding sum_below power
  value-one f x = xor_zero_l (times (f 0) (power 1 times x (1 - 1 - 0)))

  value-added : (n : ℕ) (a b : ℕ → ℕ) (x : ℕ)
      → code_value times n (λ i. bit_xor (a i) (b i)) x ≡ bit_xor (code_value times n a x) (code_value times n b x)
  value-added n a b x =
      sum-same (λ i. times (bit_xor (a i) (b i)) (power 1 times x (n - 1 - i)))
      (λ i. bit_xor (times (a i) (power 1 times x (n - 1 - i))) (times (b i) (power 1 times x (n - 1 - i)))) n
      (λ i below. sum_times 8 1 times field.ring (a i) (b i) (power 1 times x (n - 1 - i)))
      ∙ sum-add (λ i. times (a i) (power 1 times x (n - 1 - i))) (λ i. times (b i) (power 1 times x (n - 1 - i))) n

  -- ---- coefficients that are bits

  -- an element that is its square is a bit
  own-square : (a : ℕ) → a < 256 → times a a ≡ a → a < 2
  own-square a fits same =
      elim (no_zero_divisors 8 times field.ring field.inverses a (bit_xor a 1) fits (xor-fits a fits)
      (field.ring.over_sum a a 1 ∙ ap₂ bit_xor same (times-one 8 1 times field.ring a fits) ∙ xor_self a)) [
        | inl none ↦ omega (arith, none)
        | inr none ↦ let one = xor_nothing a 1 none in omega (arith, one)
      ]
    where
      xor-fits : (a : ℕ) → a < 256 → bit_xor a 1 < 256
      xor-fits a fits = xor_lt 8 a 1 fits (lit< tt)

  -- a polynomial of n coefficients that is 0 at n different points is 0
  all-zero : (n : ℕ) (word point : ℕ → ℕ) → AreDistinctBelow n 256 point → ((i : ℕ) → i < n → code_value times n word (point i) ≡ 0)
      → (i : ℕ) → i < n → word i < 256 → word i ≡ 0
  all-zero zero word point distinct zeros i below fits = absurd (omega (arith, below))
  all-zero (suc n) word point distinct zeros i below fits =
      let count = reversed-count word (suc n) in
      let nothing = many_roots_mean_zero 8 times (suc n) (reversed word (suc n)) point (lit< tt) field (omega (arith, count)) distinct
      (λ j inside. reversed-value 8 times (lit< tt) field word (suc n) (point j) ∙ zeros j inside) in
      let place : n - (n - i) ≡ i = omega (arith, below) in
      sym (mod-eq_of_lt fits) ∙ ap (λ (v : ℕ). v % 256) (sym (reversed-at word n (n - i) (omega arith) ∙ ap word place))
      ∙ nothing.each_coefficient (n - i) (omega (arith, count))

  -- each marked element is a root, and the square of a marked one
  pub monic-bits : (count : ℕ) (g : ℕ → ℕ) (marked : ℕ → Bool) → count ≡ marked_below marked 256 → g 0 ≡ 1
      → ((j : ℕ) → g j < 256)
      → ((b : ℕ) → b < 256 → marked b ≡ true → code_value times (count + 1) g b ≡ 0)
      → ((b : ℕ) → b < 256 → marked b ≡ true → (r : ℕ) × (r < 256) × (marked r ≡ true) × (b ≡ times r r))
      → (j : ℕ) → j < count + 1 → g j < 2
  monic-bits count g marked counted monic fits zeros squares j below = pick j below
    where
      h : ℕ → ℕ
      h i = bit_xor (times (g i) (g i)) (g i)

      h-fits : (i : ℕ) → h i < 256
      h-fits i = xor_lt 8 (times (g i) (g i)) (g i) (field.ring.below (g i) (g i)) (fits i)

      first : h 0 ≡ 0
      first =
          ap₂ bit_xor (ap₂ times monic monic ∙ one-times 8 1 times field.ring 1 (lit< tt)) monic ∙ xor_self 1

      whole : 1 + count ≡ count + 1
      whole = omega arith

      h-at : (b : ℕ) → b < 256 → marked b ≡ true → code_value times count (λ i. h (1 + i)) b ≡ 0
      h-at b inside is =
          let root = squares b inside is in
          let at_root = zeros root.0 root.1 root.2 in
          sym (xor_zero_l (code_value times count (λ i. h (1 + i)) b))
          ∙ ap (λ (z : ℕ). bit_xor z (code_value times count (λ i. h (1 + i)) b))
          (sym (ap (λ (z : ℕ). times z (power 1 times b count)) (value-one h b ∙ ap (λ (z : ℕ). times z 1) first ∙ zero-times 8 1 times field.ring 1)
          ∙ zero-times 8 1 times field.ring (power 1 times b count)))
          ∙ sym (value-split 8 times (lit< tt) field 1 count h b)
          ∙ ap (λ (m : ℕ). code_value times m h b) whole
          ∙ value-added (count + 1) (λ i. times (g i) (g i)) g b
          ∙ ap₂ bit_xor
          (ap (code_value times (count + 1) (λ i. times (g i) (g i))) root.3 ∙ value-squared (count + 1) g root.0
          ∙ ap₂ times at_root at_root ∙ times-zero 8 1 times field.ring 0)
          (zeros b inside is)

      numbered : (y : ℕ → ℕ) × ((i : ℕ) → i < marked_below marked 256 → (y i < 256) × (marked (y i) ≡ true))
          × ((i k : ℕ) → i < marked_below marked 256 → k < marked_below marked 256 → y i ≡ y k → i ≡ k)
      numbered = enumerated marked 256

      enough : (i : ℕ) → i < count → i < marked_below marked 256
      enough i inside = omega (arith, inside, counted)

      rest : (i : ℕ) → i < count → h (1 + i) ≡ 0
      rest i inside =
          all-zero count (λ k. h (1 + k)) numbered.0
          (record {
            below = λ k k_inside. (numbered.1 k (enough k k_inside)).0;
            differ = λ k l k_inside l_inside same. numbered.2 k l (enough k k_inside) (enough l l_inside) same;
          })
          (λ k k_inside. let at = numbered.1 k (enough k k_inside) in h-at (numbered.0 k) at.0 at.1)
          i inside (h-fits (1 + i))

      pick : (i : ℕ) → i < count + 1 → g i < 2
      pick zero inside = omega (arith, monic)
      pick (suc i) inside =
          let next : 1 + i ≡ suc i = omega arith in
          own-square (g (suc i)) (fits (suc i))
          (xor_nothing (times (g (suc i)) (g (suc i))) (g (suc i)) (ap h (sym next) ∙ rest i (omega (arith, inside))))

  -- ---- conjugates

  module _ (root checks : ℕ) where
    -- each is the square of one
    pub conjugate-squared : (b : ℕ) → IsConjugate times root checks b → (r : ℕ) × (r < 256) × IsConjugate times root checks r × (b ≡ times r r)
    conjugate-squared b of = pick of.squarings of.few of.is
      where
        p : ℕ
        p = power 1 times root (1 + of.exponent)

        p-fits : p < 256
        p-fits = power-lt 8 1 times field.ring (lit< tt) root (1 + of.exponent)

        made : (s : ℕ) → s < 8 → IsConjugate times root checks (repeated_square 1 times s p)
        made s few = record { exponent = of.exponent; within = of.within; squarings = s; few = few; is = refl }

        pick : (s : ℕ) → s < 8 → b ≡ repeated_square 1 times s p
            → (r : ℕ) × (r < 256) × IsConjugate times root checks r × (b ≡ times r r)
        pick zero few is = (
          repeated_square 1 times 7 p,
          repeated_square-lt 8 1 times field.ring 7 p,
          made 7 (lit< tt),
          is ∙ repeated_square-none 8 1 times field.ring p p-fits ∙ sym (field.squarings_return p ∙ mod-eq_of_lt p-fits)
              ∙ repeated_square_more 8 1 times field.ring 7 p,
        )
        pick (suc s) few is =
            let next : suc s ≡ s + 1 = omega arith in (
              repeated_square 1 times s p,
              repeated_square-lt 8 1 times field.ring s p,
              made s (omega (arith, few)),
              is ∙ ap (λ (k : ℕ). repeated_square 1 times k p) next ∙ repeated_square_more 8 1 times field.ring s p,
            )

    -- root^(1 + m) is one
    pub power-conjugate : (m : ℕ) → m < checks → IsConjugate times root checks (power 1 times root (1 + m))
    power-conjugate m below =
        record {
          exponent = m;
          within = below;
          squarings = 0;
          few = lit< tt;
          is = sym (repeated_square-none 8 1 times field.ring (power 1 times root (1 + m)) (power-lt 8 1 times field.ring (lit< tt) root (1 + m)));
        }

    -- two sets of marks of the conjugates are as many
    pub marks-agree : (a b : ℕ → Bool) → MarkConjugates times root checks a → MarkConjugates times root checks b
        → marked_below a 256 ≡ marked_below b 256
    marks-agree a b of_a of_b =
        marks-same a b 256
        (λ c below. both (a c) (b c) (λ is. (of_b c below).1 ((of_a c below).0 is)) (λ is. (of_a c below).1 ((of_b c below).0 is)))
      where
        both : (x y : Bool) → (x ≡ true → y ≡ true) → (y ≡ true → x ≡ true) → x ≡ y
        both true y there back = sym (there refl)
        both false true there back = back refl
        both false false there back = refl

    -- the product over the marked elements, which are listed
    module _ (marked : ℕ → Bool) (marks : MarkConjugates times root checks marked) (count : ℕ) (counted : count ≡ marked_below marked 256)
        (roots : List ℕ) (listed : (b : ℕ) → b < 256 → marked b ≡ true → (p : ℕ) × (p < count) × (slice_index roots p ≡ b))
        (g : ℕ → ℕ) (monic : g 0 ≡ 1) (fits : (j : ℕ) → g j < 256)
        (zeros : (p : ℕ) → p < count → code_value times (count + 1) g (slice_index roots p) ≡ 0) where
      zero-at-marked : (b : ℕ) → b < 256 → marked b ≡ true → code_value times (count + 1) g b ≡ 0
      zero-at-marked b below is = let at = listed b below is in ap (code_value times (count + 1) g) (sym at.2) ∙ zeros at.0 at.1

      pub generator-bits : (j : ℕ) → j < count + 1 → g j < 2
      generator-bits =
          monic-bits count g marked counted monic fits zero-at-marked
          (λ b below is.
          let from = conjugate-squared b ((marks b below).0 is) in (from.0, from.1, (marks from.0 from.1).1 from.2, from.3))

      pub generator-zeros : (m : ℕ) → m < checks → code_value times (count + 1) g (power 1 times root (1 + m)) ≡ 0
      generator-zeros m below =
          let inside = power-lt 8 1 times field.ring (lit< tt) root (1 + m) in
          zero-at-marked (power 1 times root (1 + m)) inside ((marks (power 1 times root (1 + m)) inside).1 (power-conjugate m below))

  -- ---- products of bits

  pub bit-product : (a b : ℕ) → a < 2 → b < 2 → bit_and a b ≡ times a b
  bit-product zero b a_fits b_fits = and_zero_l b ∙ sym (zero-times 8 1 times field.ring b)
  bit-product (suc zero) zero a_fits b_fits = sym (times-zero 8 1 times field.ring 1)
  bit-product (suc zero) (suc zero) a_fits b_fits = sym (one-times 8 1 times field.ring 1 (lit< tt))
  bit-product (suc zero) (suc (suc b)) a_fits b_fits = absurd (omega (arith, b_fits))
  bit-product (suc (suc a)) b a_fits b_fits = absurd (omega (arith, a_fits))

  pub bit-sum : (a b : ℕ) → a < 2 → b < 2 → bit_xor a b < 2
  bit-sum a b a_fits b_fits = xor_lt 1 a b a_fits b_fits

  -- a bit of data further the rest is of bits, and what division leaves
  pub bits-shifted : (count bit : ℕ) (generator before after : ℕ → ℕ) → bit < 2 → ((j : ℕ) → before j < 2)
      → ((j : ℕ) → j < count + 1 → generator j < 2)
      → ((j : ℕ) → j < count → after j ≡ bit_xor (before (j + 1)) (bit_and (bit_xor bit (before 0)) (generator (j + 1))))
      → ((j : ℕ) → count ≤ j → after j ≡ before j)
      → ((j : ℕ) → after j < 2)
      × ((j : ℕ) → j < count → after j ≡ bit_xor (before (j + 1)) (times (bit_xor bit (before 0)) (generator (j + 1))))
  bits-shifted count bit generator before after bit_fits before_fits generator_fits shifted others = (
    λ j. elim (cases_lt j count) [
      | inl early ↦
          subst (λ (v : ℕ). v < 2) (sym (shifted j early))
          (bit-sum (before (j + 1)) (bit_and factor (generator (j + 1))) (before_fits (j + 1)) (and-fits (generator (j + 1))))
      | inr late ↦ subst (λ (v : ℕ). v < 2) (sym (others j late)) (before_fits j)
    ],
    λ j below.
        shifted j below
        ∙ ap (bit_xor (before (j + 1))) (bit-product factor (generator (j + 1)) factor_fits (generator_fits (j + 1) (omega (arith, below)))),
  )
    where
      factor : ℕ
      factor = bit_xor bit (before 0)

      factor_fits : factor < 2
      factor_fits = bit-sum bit (before 0) bit_fits (before_fits 0)

      and-fits : (b : ℕ) → bit_and factor b < 2
      and-fits b = let less = and_le_l factor b in omega (arith, less, factor_fits)

  -- ---- marks

  -- one squaring more is marked
  pub squaring-marked : (old now : List Bool) (root next k : ℕ) → length now ≡ 256 → next < 256 → next ≡ repeated_square 1 times k root
      → ((b : ℕ) → b < 256 → (is_marked now b ≡ true) ↔ ((is_marked old b ≡ true) ⊎ IsSquaring times root k b))
      → (b : ℕ) → b < 256 → (is_marked (set now next true) b ≡ true) ↔ ((is_marked old b ≡ true) ⊎ IsSquaring times root (k + 1) b)
  squaring-marked old now root next k long fits is so_far b below =
      elim (eqb_tells next b) [
        | inl same ↦ (
          λ _. inr (k, omega arith, sym same.1 ∙ is),
          λ _. ap (is_marked (set now next true)) (sym same.1) ∙ get_or-set_same now next true false (omega (arith, long, fits)),
        )
        | inr other ↦
            let kept : is_marked (set now next true) b ≡ is_marked now b = get_or-set_other now next b true false (λ e. other.1 (sym e)) in (
              λ marked. more ((so_far b below).0 (sym kept ∙ marked)),
              λ said. kept ∙ (so_far b below).1 (fewer other.1 said),
            )
      ]
    where
      more : (is_marked old b ≡ true) ⊎ IsSquaring times root k b → (is_marked old b ≡ true) ⊎ IsSquaring times root (k + 1) b
      more (inl before) = inl before
      more (inr of) = inr (of.0, (let few = of.1 in omega (arith, few)), of.2)

      fewer : (next ≡ b → ⊥) → (is_marked old b ≡ true) ⊎ IsSquaring times root (k + 1) b
          → (is_marked old b ≡ true) ⊎ IsSquaring times root k b
      fewer other (inl before) = inl before
      fewer other (inr of) =
          elim (cases_lt of.0 k) [
            | inl early ↦ inr (of.0, early, of.2)
            | inr last ↦
                let few = of.1 in
                let same : of.0 ≡ k = omega (arith, few, last) in
                absurd (other (is ∙ ap (λ (s : ℕ). repeated_square 1 times s root) (sym same) ∙ sym of.2))
          ]

  pub squared-next : (root k next product : ℕ) → next ≡ repeated_square 1 times k root → product ≡ times next next
      → product ≡ repeated_square 1 times (k + 1) root
  squared-next root k next product is squared = squared ∙ ap₂ times is is ∙ sym (repeated_square_more 8 1 times field.ring k root)

  -- no squaring is marked yet
  pub squarings-none : (old : List Bool) (root b : ℕ) → (is_marked old b ≡ true) ↔ ((is_marked old b ≡ true) ⊎ IsSquaring times root 0 b)
  squarings-none old root b = (
    λ marked. inl marked,
    λ said. elim said [ inl marked ↦ marked | inr of ↦ (let few = of.1 in absurd (omega (arith, few))) ],
  )

  -- the conjugates of one root more
  pub conjugates-more : (root m : ℕ) (old now : List Bool) → MarkConjugates times root m (is_marked old)
      → ((b : ℕ) → b < 256 → (is_marked now b ≡ true)
      ↔ ((is_marked old b ≡ true) ⊎ IsSquaring times (power 1 times root (1 + m)) 8 b))
      → MarkConjugates times root (m + 1) (is_marked now)
  conjugates-more root m old now before next b below = (λ marked. wider ((next b below).0 marked), λ of. (next b below).1 (split of))
    where
      wider : (is_marked old b ≡ true) ⊎ IsSquaring times (power 1 times root (1 + m)) 8 b → IsConjugate times root (m + 1) b
      wider (inl marked) =
          let of = (before b below).0 marked in
          let within = of.within in
          record { exponent = of.exponent; within = omega (arith, within); squarings = of.squarings; few = of.few; is = of.is }
      wider (inr of) = record { exponent = m; within = omega arith; squarings = of.0; few = of.1; is = of.2 }

      split : IsConjugate times root (m + 1) b → (is_marked old b ≡ true) ⊎ IsSquaring times (power 1 times root (1 + m)) 8 b
      split of =
          elim (cases_lt of.exponent m) [
            | inl early ↦
                inl ((before b below).1
                (record { exponent = of.exponent; within = early; squarings = of.squarings; few = of.few; is = of.is }))
            | inr last ↦
                let within = of.within in
                let same : of.exponent ≡ m = omega (arith, within, last) in
                inr (of.squarings, of.few, of.is ∙ ap (λ (e : ℕ). repeated_square 1 times of.squarings (power 1 times root (1 + e))) same)
          ]

  pub conjugates-none : (root : ℕ) → MarkConjugates times root 0 (is_marked (replicate {A = Bool} 256 false))
  conjugates-none root b below = (
    λ marked. (let none : false ≡ true = sym (none-marked 256 b) ∙ marked in absurd (cc)),
    λ of. (let within = of.within in absurd (omega (arith, within))),
  )

-- ---- lists of marked bytes

-- a byte more that is not marked, and one that is
pub bytes-left : (marked : ℕ → Bool) (b count : ℕ) (bytes : List ℕ) → marked b ≡ false
    → count ≡ marked_below marked b
    → ((a : ℕ) → a < b → marked a ≡ true → (p : ℕ) × (p < count) × (slice_index bytes p ≡ a))
    → (count ≡ marked_below marked (b + 1))
    × ((a : ℕ) → a < b + 1 → marked a ≡ true → (p : ℕ) × (p < count) × (slice_index bytes p ≡ a))
bytes-left marked b count bytes free counted listed = (
  count-same marked b count free counted,
  λ a below is. pick a is (cases_lt a b) below,
)
  where
    pick : (a : ℕ) → marked a ≡ true → (a < b) ⊎ (b ≤ a) → a < b + 1 → (p : ℕ) × (p < count) × (slice_index bytes p ≡ a)
    pick a is (inl early) below = listed a early is
    pick a is (inr late) below =
        let same : a ≡ b = omega (arith, late, below) in
        let none : false ≡ true = sym free ∙ ap marked (sym same) ∙ is in absurd (cc)

pub bytes-added : (marked : ℕ → Bool) (b count : ℕ) (bytes : List ℕ) → marked b ≡ true → count < length bytes
    → count ≡ marked_below marked b
    → ((a : ℕ) → a < b → marked a ≡ true → (p : ℕ) × (p < count) × (slice_index bytes p ≡ a))
    → (count + 1 ≡ marked_below marked (b + 1))
    × ((a : ℕ) → a < b + 1 → marked a ≡ true → (p : ℕ) × (p < count + 1) × (slice_index (set bytes count b) p ≡ a))
bytes-added marked b count bytes own room counted listed = (
  count-more marked b count own counted,
  λ a below is. pick a is (cases_lt a b) below,
)
  where
    pick : (a : ℕ) → marked a ≡ true → (a < b) ⊎ (b ≤ a) → a < b + 1
        → (p : ℕ) × (p < count + 1) × (slice_index (set bytes count b) p ≡ a)
    pick a is (inl early) below =
        let at = listed a early is in
        let place = at.1 in (
          at.0,
          omega (arith, place),
          get_or-set_other bytes count at.0 b 0 (λ e. absurd (omega (arith, e, place))) ∙ at.2,
        )
    pick a is (inr late) below =
        let same : a ≡ b = omega (arith, late, below) in (
          count,
          omega arith,
          get_or-set_same bytes count b 0 room ∙ sym same,
        )

-- the conjugates are few whatever the names of a field, a root and numbers are
pub few-read : (f g : ByteField) (r s a b n m : ℕ) → f ≡ g → r ≡ s → a ≡ b → n ≡ m → HasFewConjugates (byte_times f) r a n
    → HasFewConjugates (byte_times g) s b m
few-read f g r s a b n m field root checks length few =
    subst (λ (x : ByteField). HasFewConjugates (byte_times x) s b m) field
    (subst (λ (x : ℕ). HasFewConjugates (byte_times f) x b m) root
    (subst (λ (x : ℕ). HasFewConjugates (byte_times f) r x m) checks
    (subst (λ (x : ℕ). HasFewConjugates (byte_times f) r a x) length few)))
