-- Relations between the powers of an element: values of polynomials at it, of which no two have one degree, and what that says of the first
-- power that is a sum of lower ones.
use Rattle.std.proofs.Common.{◌≡◌, ◌≢◌, ◌⊎◌, inl, inr, ℕ, zero, suc, ◌+◌, ◌-◌, ◌*◌, ◌^◌, ◌≤◌, ◌<◌, List, length, refl, sym, ◌∙◌, ap, ap₂, subst, arith, lit<}
use Rattle.std.specs.Prelude.{bit_xor, slice_index}
use Rattle.std.proofs.Math.ListN.{set}
use Rattle.std.proofs.lemmas.List.{get_or-set_same, get_or-set_other}
use Rattle.std.proofs.lemmas.Bool.{cases_eq}
use Rattle.std.proofs.lemmas.Nat.{pow_pos, pow-add, xor_comm, xor_lt, xor_shr}
use Rattle.std.proofs.Math.Pow.{pow_mono, pow-lt}
use native.Mathlib.Nat.{div-eq_of_lt, le_refl, lt_of_lt_of_le, pow-suc}
use lib.Bits.{xor_self, xor_zero_r}
use Rattle.std.specs.Int.Bits.{xor_assoc}
use Rattle.field_base.specs.Carryless.{carryless}
use Rattle.field_base.specs.Field.{IsField}
use Rattle.field_base.specs.Remainder.{HasDegree, rem}
use Rattle.field_base.proofs.FieldLemmas.{no_zero_divisors}
use Rattle.field_base.proofs.RemainderLaws.{rem_is_remainder, rem_lt}
use Rattle.field_base.proofs.RingLemmas.{xor_cancel, xor_nothing}
use Rattle.any_field.specs.Contexts.{IsFieldModulus, with_top}
use Rattle.any_field.specs.Irreducible.{IsIrreducible}
use Rattle.any_field.specs.Minimal.{IsMinimalPolynomial}
use Rattle.any_field.specs.Values.{binary_value}
use Rattle.any_field.proofs.Degrees.{degree-least, degree-most, degree-nonzero, degree-of}
use Rattle.any_field.proofs.EuclidSteps.{lower}
use Rattle.any_field.proofs.IrreducibleFields.{degree-fits, irreducible-by}
use Rattle.any_field.proofs.Products.{IsIn, down, images, down-in, down-of, images-distinct, images-of, length-images, rearranged}
use Rattle.any_field.proofs.RatioSteps.{with_top-xor}
use Rattle.any_field.proofs.RootValues.{at-zero, at-one, at-sum, at-double, at-lt, at-product, at-rem}
use Rattle.any_field.proofs.WordRemainders.{top-degree}

-- ---- one word without the highest bits of others

-- a map that keeps sums
abbrev pub IsSumMap : (ℕ → ℕ) → Type 0
IsSumMap f = (p q : ℕ) → f (bit_xor p q) ≡ bit_xor (f p) (f q)

pub map-zero : (f : ℕ → ℕ) → IsSumMap f → f 0 ≡ 0
map-zero f sums = ap f (sym (xor_self 0)) ∙ sums 0 0 ∙ xor_self (f 0)

-- the rest is the word and the image of the sum
pub record IsReduced (values polynomials : List ℕ) (word rest sum : ℕ) : Type 0 where
  pub is : (f : ℕ → ℕ) → IsSumMap f → ((b : ℕ) → b < 128 → f (slice_index polynomials b) ≡ slice_index values b) → rest ≡ bit_xor word (f sum)
  pub small : (n : ℕ) → ((b : ℕ) → b < 128 → slice_index polynomials b < 2 ^ n) → sum < 2 ^ n

pub reduced-start : (values polynomials : List ℕ) (word : ℕ) → IsReduced values polynomials word word 0
reduced-start values polynomials word = record {
  is = λ f sums each. sym (ap (bit_xor word) (map-zero f sums) ∙ xor_zero_r word);
  small = λ n each. pow_pos n;
}

pub reduced-step : (values polynomials : List ℕ) (word rest sum place : ℕ) → place < 128 → IsReduced values polynomials word rest sum
    → IsReduced values polynomials word (bit_xor rest (slice_index values place)) (bit_xor sum (slice_index polynomials place))
reduced-step values polynomials word rest sum place within so_far = record {
  is = λ f sums each.
      ap₂ bit_xor (so_far.is f sums each) (sym (each place within)) ∙ xor_assoc word (f sum) (f (slice_index polynomials place))
      ∙ ap (bit_xor word) (sym (sums sum (slice_index polynomials place)));
  small = λ n each. xor_lt n sum (slice_index polynomials place) (so_far.small n each) (each place within);
}

-- what is left is less where a value has its degree
pub rest-less : (rest value place : ℕ) → HasDegree place rest → HasDegree place value → bit_xor rest value < rest
rest-less rest value place left right = lt_of_lt_of_le (lower place rest value left right) (degree-least place rest left)

-- ---- values of different degrees

-- at each place there is 0 or a value of that degree, that of the polynomial at the place, and each polynomial other than 0 of lower
-- degree than n has a value of the degree of one of them
pub record IsSpan (f : ℕ → ℕ) (values polynomials : List ℕ) (n : ℕ) : Type 0 where
  pub degrees : (b : ℕ) → b < 128 → slice_index values b ≢ 0 → HasDegree b (slice_index values b)
  pub is : (b : ℕ) → b < 128 → f (slice_index polynomials b) ≡ slice_index values b
  pub small : (b : ℕ) → b < 128 → slice_index polynomials b < 2 ^ n
  pub all : (r : ℕ) → r < 2 ^ n → r ≢ 0 → (b : ℕ) × (b < 128) × HasDegree b (f r) × (slice_index values b ≢ 0)

-- the sum of two values of different degrees has the degree of one of them
sum-degree : (b c u v : ℕ) → HasDegree b u → HasDegree c v → b ≢ c → HasDegree b (bit_xor u v) ⊎ HasDegree c (bit_xor u v)
sum-degree b c u v left right other =
    elim (order b c other) [
      | inl less ↦ inr (xor_shr u v c ∙ ap₂ bit_xor (div-eq_of_lt (lt_of_lt_of_le (degree-most b u left) (pow_mono less))) right)
      | inr less ↦ inl (xor_shr u v b ∙ ap₂ bit_xor left (div-eq_of_lt (lt_of_lt_of_le (degree-most c v right) (pow_mono less))))
    ]
  where
    order : (b c : ℕ) → b ≢ c → (suc b ≤ c) ⊎ (suc c ≤ b)
    order zero zero other = absurd (other refl)
    order zero (suc c) other = inl (omega arith)
    order (suc b) zero other = inr (omega arith)
    order (suc b) (suc c) other =
        elim (order b c (λ e. other (ap suc e))) [ inl less ↦ inl (omega (arith, less)) | inr less ↦ inr (omega (arith, less)) ]

-- what the places of a list have once one is written
at-written : (xs : List ℕ) (place new b : ℕ) → length xs ≡ 128 → place < 128
    → ((b ≡ place) × (slice_index (set xs place new) b ≡ new)) ⊎ ((b ≢ place) × (slice_index (set xs place new) b ≡ slice_index xs b))
at-written xs place new b long within =
    elim (cases_eq b place) [
      | inl same ↦ inl (same, ap (slice_index (set xs place new)) same ∙ get_or-set_same xs place new 0 (omega (arith, long, within)))
      | inr other ↦ inr (other, get_or-set_other xs place b new 0 other)
    ]

-- a sum of words, whose other part is their sum with a third
regrouped : (a b c : ℕ) → bit_xor (bit_xor a b) (bit_xor (bit_xor c a) b) ≡ c
regrouped a b c =
    ap (bit_xor (bit_xor a b)) (xor_assoc c a b ∙ xor_comm c (bit_xor a b)) ∙ xor_cancel (bit_xor a b) c

pub span-start : (f : ℕ → ℕ) (values polynomials : List ℕ) → IsSumMap f → ((b : ℕ) → b < 128 → slice_index values b ≡ 0)
    → ((b : ℕ) → b < 128 → slice_index polynomials b ≡ 0) → IsSpan f values polynomials 0
span-start f values polynomials sums no_values no_polynomials = record {
  degrees = λ b within some. absurd (some (no_values b within));
  is = λ b within. ap f (no_polynomials b within) ∙ map-zero f sums ∙ sym (no_values b within);
  small = λ b within. subst (λ (z : ℕ). z < 1) (sym (no_polynomials b within)) (lit< tt);
  all = λ r below some. absurd (some (omega (arith, below)));
}

module _ (f : ℕ → ℕ) (sums : IsSumMap f) (values polynomials : List ℕ) (n : ℕ) (span : IsSpan f values polynomials n) (rest sum : ℕ)
    (rest_is : rest ≡ bit_xor (f (2 ^ n)) (f sum)) (small : sum < 2 ^ n) (free : (b : ℕ) → HasDegree b rest → slice_index values b ≡ 0) where
  -- a polynomial of degree n has the sum of the rest and of the value of a lower one as its value
  other-part : (r : ℕ) → HasDegree n r → (bit_xor (bit_xor r (2 ^ n)) sum < 2 ^ n) × (f r ≡ bit_xor rest (f (bit_xor (bit_xor r (2 ^ n)) sum)))
  other-part r degree = (
    xor_lt n (bit_xor r (2 ^ n)) sum (lower n r (2 ^ n) degree (degree-of n (2 ^ n) (le_refl (2 ^ n)) (next n))) small,
    sym (ap₂ bit_xor rest_is (sums (bit_xor r (2 ^ n)) sum ∙ ap (λ (z : ℕ). bit_xor z (f sum)) (sums r (2 ^ n)))
        ∙ regrouped (f (2 ^ n)) (f sum) (f r)),
  )
    where
      next : (n : ℕ) → 2 ^ n < 2 ^ suc n
      next n = omega (arith, pow-suc 2 n, pow_pos n)

  -- the next power gives one value more, where it is no sum of those before it
  pub span-more : (place : ℕ) → place < 128 → HasDegree place rest → length values ≡ 128 → length polynomials ≡ 128
      → IsSpan f (set values place rest) (set polynomials place (bit_xor sum (2 ^ n))) (n + 1)
  span-more place within degree values_long polynomials_long = record {
    degrees = λ b b_within some.
        elim (at-written values place rest b values_long within) [
          | inl own ↦ subst (λ (z : ℕ). HasDegree z (slice_index (set values place rest) b)) (sym own.0)
              (subst (HasDegree place) (sym own.1) degree)
          | inr other ↦ subst (HasDegree b) (sym other.1) (span.degrees b b_within (λ e. some (other.1 ∙ e)))
        ];
    is = λ b b_within.
        elim (at-written values place rest b values_long within) [
          | inl own ↦ ap f (written b own.0) ∙ sums sum (2 ^ n) ∙ xor_comm (f sum) (f (2 ^ n)) ∙ sym rest_is ∙ sym own.1
          | inr other ↦ ap f (kept b other.0) ∙ span.is b b_within ∙ sym other.1
        ];
    small = λ b b_within.
        elim (at-written polynomials place (bit_xor sum (2 ^ n)) b polynomials_long within) [
          | inl own ↦ subst (λ (z : ℕ). z < 2 ^ (n + 1)) (sym own.1) (xor_lt (n + 1) sum (2 ^ n) (wider n sum small) (next n))
          | inr other ↦ subst (λ (z : ℕ). z < 2 ^ (n + 1)) (sym other.1) (wider n (slice_index polynomials b) (span.small b b_within))
        ];
    all = λ r below some. split r some below (cases_lt r (2 ^ n));
  }
    where
      some-rest : rest ≢ 0
      some-rest = degree-nonzero place rest degree

      -- no value stands at the place
      empty : slice_index values place ≡ 0
      empty = free place degree

      written : (b : ℕ) → b ≡ place → slice_index (set polynomials place (bit_xor sum (2 ^ n))) b ≡ bit_xor sum (2 ^ n)
      written b same =
          elim (at-written polynomials place (bit_xor sum (2 ^ n)) b polynomials_long within) [ inl own ↦ own.1 | inr other ↦ absurd (other.0 same) ]

      kept : (b : ℕ) → b ≢ place → slice_index (set polynomials place (bit_xor sum (2 ^ n))) b ≡ slice_index polynomials b
      kept b apart =
          elim (at-written polynomials place (bit_xor sum (2 ^ n)) b polynomials_long within) [ inl own ↦ absurd (apart own.0) | inr other ↦ other.1 ]

      next : (n : ℕ) → 2 ^ n < 2 ^ (n + 1)
      next n = pow-lt (omega arith)

      wider : (n x : ℕ) → x < 2 ^ n → x < 2 ^ (n + 1)
      wider n x below = omega (arith, below, next n)

      cases_lt : (a b : ℕ) → (a < b) ⊎ (b ≤ a)
      cases_lt a zero = inr (omega arith)
      cases_lt zero (suc b) = inl (omega arith)
      cases_lt (suc a) (suc b) = elim (cases_lt a b) [ inl less ↦ inl (omega (arith, less)) | inr least ↦ inr (omega (arith, least)) ]

      own-place : slice_index (set values place rest) place ≢ 0
      own-place e =
          elim (at-written values place rest place values_long within) [ inl own ↦ some-rest (sym own.1 ∙ e) | inr other ↦ absurd (other.0 refl) ]

      -- an old value still stands where it did
      still : (b : ℕ) → slice_index values b ≢ 0 → slice_index (set values place rest) b ≢ 0
      still b some e =
          elim (at-written values place rest b values_long within) [
            | inl own ↦ some (ap (slice_index values) own.0 ∙ empty)
            | inr other ↦ some (sym other.1 ∙ e)
          ]

      split : (r : ℕ) → r ≢ 0 → r < 2 ^ (n + 1) → (r < 2 ^ n) ⊎ (2 ^ n ≤ r)
          → (b : ℕ) × (b < 128) × HasDegree b (f r) × (slice_index (set values place rest) b ≢ 0)
      split r some below (inl less) = let old = span.all r less some in (old.0, old.1, old.2, still old.0 old.3)
      split r some below (inr least) =
          let parts = other-part r (degree-of n r least (subst (λ (z : ℕ). r < 2 ^ z) (more n) below)) in
          let s = bit_xor (bit_xor r (2 ^ n)) sum in
          elim (cases_eq s 0) [
            | inl none ↦ (
              place,
              within,
              subst (HasDegree place) (sym (parts.1 ∙ ap (λ (z : ℕ). bit_xor rest (f z)) none ∙ ap (bit_xor rest) (map-zero f sums) ∙ xor_zero_r rest)) degree,
              own-place,
            )
            | inr other ↦
                let old = span.all s parts.0 other in
                elim (sum-degree place old.0 rest (f s) degree old.2 (λ e. old.3 (ap (slice_index values) (sym e) ∙ empty))) [
                  | inl is ↦ (place, within, subst (HasDegree place) (sym parts.1) is, own-place)
                  | inr is ↦ (old.0, old.1, subst (HasDegree old.0) (sym parts.1) is, still old.0 old.3)
                ]
          ]
        where
          more : (n : ℕ) → n + 1 ≡ suc n
          more n = omega arith

-- ---- the polynomial that is found

-- the value of a polynomial other than 0 of lower degree is not 0
span-kernel : (f : ℕ → ℕ) (values polynomials : List ℕ) (n : ℕ) → IsSpan f values polynomials n → (r : ℕ) → r < 2 ^ n → f r ≡ 0 → r ≡ 0
span-kernel f values polynomials n span r below none =
    elim (cases_eq r 0) [
      | inl e ↦ e
      | inr some ↦ let old = span.all r below some in absurd (degree-nonzero old.0 (f r) old.2 none)
    ]

module _ (width : ℕ) (times : ℕ → ℕ → ℕ) (wide : 0 < width) (field : IsField width times) (x : ℕ) where
  abbrev at : ℕ → ℕ
  at p = binary_value times x p

  abbrev order : ℕ
  order = 2 ^ width - 1

  pub sums : IsSumMap at
  sums = at-sum width times wide field.ring x

  -- each value is that of a polynomial of lower degree than the width, where no two of these have one value
  covered : (values polynomials : List ℕ) → IsSpan at values polynomials width → (y : ℕ) → y < 2 ^ width → (r : ℕ) × (r < 2 ^ width) × (at r ≡ y)
  covered values polynomials span zero fits = (0, pow_pos width, at-zero width times wide field.ring x)
  covered values polynomials span (suc y) fits =
      let found = images-of at (down order) (suc y) (all (suc y) (down-in order (suc y) (λ e. absurd (omega (arith, e))) (least (suc y) fits))) in
      (found.0, within found.0 (down-of order found.0 found.1).1, sym found.2)
    where
      within : (r : ℕ) → r ≤ order → r < 2 ^ width
      within r most = omega (arith, most, pow_pos width)

      least : (r : ℕ) → r < 2 ^ width → r ≤ order
      least r below = omega (arith, below)

      same : (r s : ℕ) → r < 2 ^ width → s < 2 ^ width → at r ≡ at s → r ≡ s
      same r s r_below s_below e =
          xor_nothing r s (span-kernel at values polynomials width span (bit_xor r s) (xor_lt width r s r_below s_below)
          (sums r s ∙ ap (λ (z : ℕ). bit_xor z (at s)) e ∙ xor_self (at s)))

      all : (z : ℕ) → IsIn z (down order) → IsIn z (images at (down order))
      all =
          (rearranged width times field.ring (images at (down order)) (down order)
          (images-distinct at order (λ r s r_some s_some r_most s_most e. same r s (within r r_most) (within s s_most) e))
          (λ z is.
          let found = images-of at (down order) z is in
          let below = down-of order found.0 found.1 in
          subst (λ (u : ℕ). IsIn u (down order)) (sym found.2)
          (down-in order (at found.0) (λ e. below.0 (span-kernel at values polynomials width span found.0 (within found.0 below.1) e))
          (least (at found.0) (at-lt width times wide field.ring x found.0))))
          (sym (length-images at (down order)))).1

  -- so that of the power to the width nothing is left
  pub nothing-left : (values polynomials : List ℕ) → IsSpan at values polynomials width → (rest sum : ℕ) → rest ≡ bit_xor (at (2 ^ width)) (at sum)
      → sum < 2 ^ width → ((b : ℕ) → HasDegree b rest → slice_index values b ≡ 0) → rest ≡ 0
  nothing-left values polynomials span rest sum rest_is small free =
      let same = covered values polynomials span (at (2 ^ width)) (at-lt width times wide field.ring x (2 ^ width)) in
      let s = bit_xor same.0 sum in
      let is : rest ≡ at s = rest_is ∙ ap (λ (z : ℕ). bit_xor z (at sum)) (sym same.2) ∙ sym (sums same.0 sum) in
      elim (cases_eq s 0) [
        | inl none ↦ is ∙ ap at none ∙ at-zero width times wide field.ring x
        | inr some ↦
            let old = span.all s (xor_lt width same.0 sum same.1 small) some in
            absurd (old.3 (free old.0 (subst (HasDegree old.0) (sym is) old.2)))
      ]

  -- what is said of the polynomial
  pub record IsFound (d tail : ℕ) : Type 0 where
    pub minimal : IsMinimalPolynomial times x d (with_top d tail)
    pub modulus : IsFieldModulus d tail
    pub divides : (p : ℕ) → at p ≡ 0 → (q : ℕ) × (carryless q (with_top d tail) ≡ p)

  pub minimal-found : (values polynomials : List ℕ) (d : ℕ) → d ≤ 128 → IsSpan at values polynomials d → (rest sum : ℕ)
      → rest ≡ bit_xor (at (2 ^ d)) (at sum) → sum < 2 ^ d → rest ≡ 0 → IsFound d sum
  minimal-found values polynomials d narrow span rest sum rest_is small none = record {
    minimal = record { degree = degree; root = root; least = kernel };
    modulus = (positive d small root, narrow, small, irreducible);
    divides = multiple;
  }
    where
      degree : HasDegree d (with_top d sum)
      degree = top-degree d sum small

      root : at (with_top d sum) ≡ 0
      root = ap at (with_top-xor d sum small) ∙ sums (2 ^ d) sum ∙ sym rest_is ∙ none

      kernel : (p : ℕ) → p < 2 ^ d → at p ≡ 0 → p ≡ 0
      kernel p below nothing = span-kernel at values polynomials d span p below nothing

      -- the value of 1 is not 0
      positive : (d : ℕ) → sum < 2 ^ d → at (with_top d sum) ≡ 0 → 0 < d
      positive zero below is =
          let one : with_top 0 sum ≡ 1 = omega (arith, below) in
          let nothing : 1 ≡ 0 = sym (at-one width times wide field.ring x) ∙ ap at (sym one) ∙ is in
          absurd (omega (arith, nothing))
      positive (suc d) below is = omega arith

      factor-zero : (m g : ℕ) → m < d → HasDegree m g → at g ≡ 0 → ⊥
      factor-zero m g less g_degree nothing = degree-nonzero m g g_degree (kernel g (degree-fits m d g g_degree less) nothing)

      irreducible : IsIrreducible (with_top d sum)
      irreducible =
          irreducible-by d (with_top d sum) degree
          (λ m n g h m_some n_some total left right product.
          elim (no_zero_divisors width times field.ring field.inverses (at g) (at h) (at-lt width times wide field.ring x g)
          (at-lt width times wide field.ring x h)
          (sym (at-product width times wide field.ring x g h) ∙ ap at product ∙ root)) [
            | inl e ↦ factor-zero m g (omega (arith, n_some, total)) left e
            | inr e ↦ factor-zero n h (omega (arith, m_some, total)) right e
          ])

      multiple : (p : ℕ) → at p ≡ 0 → (q : ℕ) × (carryless q (with_top d sum) ≡ p)
      multiple p nothing =
          let is = rem_is_remainder d (with_top d sum) p degree in
          let left : rem d (with_top d sum) p ≡ 0 =
          kernel (rem d (with_top d sum) p) (rem_lt d (with_top d sum) degree p)
          (at-rem width times wide field.ring x d (with_top d sum) degree root p ∙ nothing) in (
            is.quotient,
            sym (is.parts ∙ ap (bit_xor (carryless is.quotient (with_top d sum))) left ∙ xor_zero_r (carryless is.quotient (with_top d sum))),
          )

  -- the next power of the element is the value of the next power of x
  pub power-next : (n power next : ℕ) → power ≡ at (2 ^ n) → next ≡ times power x → next ≡ at (2 ^ (n + 1))
  power-next n power next is next_is =
      next_is ∙ ap (λ (z : ℕ). times z x) is ∙ field.ring.comm (at (2 ^ n)) x ∙ sym (at-double width times wide field.ring x (2 ^ n))
      ∙ ap at (more n)
    where
      more : (n : ℕ) → 2 ^ n * 2 ≡ 2 ^ (n + 1)
      more n = omega (arith, pow-add 2 n 1)
