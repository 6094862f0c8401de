-- Montgomery's trick over any field whose elements are numbers: from the inverse of a product of elements that are not 0 follow
-- those of its factors.
use Rattle.std.proofs.Common.{◌≡◌, ◌≢◌, ℕ, zero, suc, ◌+◌, ◌^◌, ◌<◌, ◌≤◌, inl, inr, List, length, map, set, get_or, refl, sym, ◌∙◌, ap, ap₂, subst, arith, below_more}
use Rattle.std.specs.Prelude.{slice_index}
use Rattle.std.proofs.lemmas.Bool.Decides.{eqb_tells}
use Rattle.std.proofs.lemmas.List.{length-map}
use Rattle.std.proofs.lemmas.Nat.{pow_below}
use native.Mathlib.Numerals.{add-one}
use Rattle.field_base.specs.Basis.{product_below}
use Rattle.field_base.specs.Field.{AreInverses, IsField, IsInverseOrZero}
use Rattle.field_base.proofs.FieldLemmas.{no_zero_divisors}
use Rattle.field_base.proofs.PowerLemmas.{times-one}
use Rattle.field_base.proofs.RingLemmas.{times_left_comm}
use Rattle.field_slices.specs.Inverses.{nonzero_product, one_for_zero}
use Rattle.field_base.proofs.Places.{number-at, number-set_same, number-set_other, numbers-lt}

module _ (width : ℕ) (times : ℕ → ℕ → ℕ) (field : IsField width times) (wide : 0 < width) where
  one_fits : 1 < 2 ^ width
  one_fits = pow_below 0 width wide

  -- 1 takes the place of 0, and is not 0 itself
  factor-lt : (x : ℕ) → x < 2 ^ width → one_for_zero x < 2 ^ width
  factor-lt zero fits = one_fits
  factor-lt (suc x) fits = fits

  factor-nonzero : (x : ℕ) → one_for_zero x ≢ 0
  factor-nonzero zero e = absurd (omega (arith, e))
  factor-nonzero (suc x) e = absurd (omega (arith, e))

  factor-other : (x : ℕ) → x ≢ 0 → one_for_zero x ≡ x
  factor-other zero other = absurd (other refl)
  factor-other (suc x) other = refl

  module _ (x : ℕ → ℕ) (fits : (i : ℕ) → x i < 2 ^ width) where
    pub product-lt : (n : ℕ) → nonzero_product times x n < 2 ^ width
    unfolding product_below
    product-lt zero = one_fits
    product-lt (suc n) = field.ring.below (nonzero_product times x n) (one_for_zero (x n))

    pub product-none : nonzero_product times x 0 ≡ 1
    unfolding product_below
    product-none = refl

    -- a product of elements that are not 0 is not 0
    pub product-nonzero : (n : ℕ) → nonzero_product times x n ≢ 0
    unfolding product_below
    product-nonzero zero e = absurd (omega (arith, e))
    product-nonzero (suc n) e =
        elim (no_zero_divisors width times field.ring field.inverses (nonzero_product times x n) (one_for_zero (x n)) (product-lt n)
        (factor-lt (x n) (fits n)) e) [
          | inl e ↦ product-nonzero n e
          | inr e ↦ factor-nonzero (x n) e
        ]

    -- one element more: where it is 0, nothing changes
    pub product-zero : (n : ℕ) → x n ≡ 0 → nonzero_product times x (n + 1) ≡ nonzero_product times x n
    unfolding product_below
    product-zero n is =
        ap (nonzero_product times x) (add-one n)
        ∙ ap (λ (y : ℕ). times (nonzero_product times x n) (one_for_zero y)) is
        ∙ times-one width 1 times field.ring (nonzero_product times x n) (product-lt n)

    pub product-more : (n : ℕ) → x n ≢ 0 → nonzero_product times x (n + 1) ≡ times (nonzero_product times x n) (x n)
    unfolding product_below
    product-more n other =
        ap (nonzero_product times x) (add-one n) ∙ ap (times (nonzero_product times x n)) (factor-other (x n) other)

    -- the inverse of the product up to and with an element, times the product before it, is the inverse of the element
    pub inverse-here : (n rest : ℕ) → x n ≢ 0 → times (nonzero_product times x (n + 1)) rest ≡ 1
        → times (x n) (times rest (nonzero_product times x n)) ≡ 1
    inverse-here n rest other inverts =
        times_left_comm width 1 times field.ring (x n) rest (nonzero_product times x n)
        ∙ field.ring.comm rest (times (x n) (nonzero_product times x n))
        ∙ ap (λ (y : ℕ). times y rest) (field.ring.comm (x n) (nonzero_product times x n) ∙ sym (product-more n other)) ∙ inverts

    -- and times the element it is the inverse of the product before it
    pub inverse-before : (n rest : ℕ) → x n ≢ 0 → times (nonzero_product times x (n + 1)) rest ≡ 1
        → times (nonzero_product times x n) (times rest (x n)) ≡ 1
    inverse-before n rest other inverts =
        ap (times (nonzero_product times x n)) (field.ring.comm rest (x n))
        ∙ sym (field.ring.assoc (nonzero_product times x n) (x n) rest)
        ∙ ap (λ (y : ℕ). times y rest) (sym (product-more n other)) ∙ inverts

    pub inverse-skip : (n rest : ℕ) → x n ≡ 0 → times (nonzero_product times x (n + 1)) rest ≡ 1
        → times (nonzero_product times x n) rest ≡ 1
    inverse-skip n rest is inverts = ap (λ (y : ℕ). times y rest) (sym (product-zero n is)) ∙ inverts

-- ---- over lists of elements

-- of the elements xs, what ys holds where the places from n on are done: products of the elements before it, then inverses; and
-- `rest` is the inverse of the product of the elements before n
abbrev pub InvertedFrom : {A : Type 0} → (ℕ → ℕ → ℕ) → (A → ℕ) → List A → List A → ℕ → A → Type 0
InvertedFrom times repr xs ys n rest =
    ((i : ℕ) → i < n → slice_index (map repr ys) i ≡ nonzero_product times (slice_index (map repr xs)) i)
    × ((i : ℕ) → n ≤ i → i < length xs → IsInverseOrZero times (slice_index (map repr xs) i) (slice_index (map repr ys) i))
    × (times (nonzero_product times (slice_index (map repr xs)) n) (repr rest) ≡ 1)

module _ {A : Type 0} (width : ℕ) (times : ℕ → ℕ → ℕ) (field : IsField width times) (wide : 0 < width) (repr : A → ℕ)
    (range : (a : A) → repr a < 2 ^ width) (xs : List A) where
  number_fits : (i : ℕ) → slice_index (map repr xs) i < 2 ^ width
  number_fits i = numbers-lt repr width range xs i

  pub products-nonzero : (n : ℕ) (product : A) → repr product ≡ nonzero_product times (slice_index (map repr xs)) n → repr product ≢ 0
  products-nonzero n product is e =
      product-nonzero width times field wide (slice_index (map repr xs)) number_fits n (sym is ∙ e)

  -- where the element is 0, the product stays, and else it takes the element as a factor
  pub products-zero : (n : ℕ) (product x : A) → n < length xs → x ≡ get_or xs n x → repr x ≡ 0
      → repr product ≡ nonzero_product times (slice_index (map repr xs)) n
      → repr product ≡ nonzero_product times (slice_index (map repr xs)) (n + 1)
  products-zero n product x within read nothing is =
      is ∙ sym (product-zero width times field wide (slice_index (map repr xs)) number_fits n (number-at repr xs n x within read ∙ nothing))

  pub products-more : (n : ℕ) (product next x : A) → n < length xs → x ≡ get_or xs n x → repr x ≢ 0
      → repr product ≡ nonzero_product times (slice_index (map repr xs)) n → repr next ≡ times (repr product) (repr x)
      → repr next ≡ nonzero_product times (slice_index (map repr xs)) (n + 1)
  products-more n product next x within read other is multiplied =
      let here = number-at repr xs n x within read in
      multiplied ∙ ap₂ times is (sym here)
      ∙ sym (product-more width times field wide (slice_index (map repr xs)) number_fits n (λ e. other (sym here ∙ e)))

  -- one place more holds the product before it
  pub products-step : (ys : List A) (n : ℕ) (product next : A) → n < length ys
      → ((i : ℕ) → i < n → slice_index (map repr ys) i ≡ nonzero_product times (slice_index (map repr xs)) i)
      → repr product ≡ nonzero_product times (slice_index (map repr xs)) n
      → repr next ≡ nonzero_product times (slice_index (map repr xs)) (n + 1)
      → ((i : ℕ) → i < n + 1 → slice_index (map repr (set ys n product)) i ≡ nonzero_product times (slice_index (map repr xs)) i)
      × (repr next ≡ nonzero_product times (slice_index (map repr xs)) (n + 1))
  products-step ys n product next within before is after = (
    below_more (λ i. slice_index (map repr (set ys n product)) i ≡ nonzero_product times (slice_index (map repr xs)) i) n
        (λ i below. number-set_other repr ys n i product (λ e. absurd (omega (arith, e, below))) ∙ before i below)
        (number-set_same repr ys n product within ∙ is),
    after,
  )

  pub inverted-at : (ys : List A) (n next : ℕ) (rest : A) → n ≡ next → InvertedFrom times repr xs ys n rest → InvertedFrom times repr xs ys next rest
  inverted-at ys n next rest same from = subst (λ (k : ℕ). InvertedFrom times repr xs ys k rest) same from

  -- before the first step every place holds a product, and after the last every place an inverse
  pub inverted-start : (ys : List A) (rest : A)
      → ((i : ℕ) → i < length xs → slice_index (map repr ys) i ≡ nonzero_product times (slice_index (map repr xs)) i)
      → times (nonzero_product times (slice_index (map repr xs)) (length xs)) (repr rest) ≡ 1 → InvertedFrom times repr xs ys (length xs) rest
  inverted-start ys rest before inverse = (before, (λ i reached inside. absurd (omega (arith, reached, inside))), inverse)

  pub inverted-end : (ys : List A) (n : ℕ) (rest : A) → n ≤ 0 → length ys ≡ length xs → InvertedFrom times repr xs ys n rest
      → AreInverses times (map repr xs) (map repr ys)
  inverted-end ys n rest done same from =
      record {
        count = length-map ys repr ∙ same ∙ sym (length-map xs repr);
        each = λ i inside. from.1 i (omega arith) (subst (λ (k : ℕ). i < k) (length-map xs repr) inside);
      }

  -- the step to the place below: what is written there is the inverse of the element or 0
  inverted-step : (ys : List A) (n : ℕ) (rest next written x : A) → n < length xs → n < length ys → x ≡ get_or xs n x
      → IsInverseOrZero times (repr x) (repr written)
      → times (nonzero_product times (slice_index (map repr xs)) n) (repr next) ≡ 1
      → InvertedFrom times repr xs ys (n + 1) rest → InvertedFrom times repr xs (set ys n written) n next
  inverted-step ys n rest next written x within room read inverse after from = (
    (λ i below. number-set_other repr ys n i written (λ e. absurd (omega (arith, e, below))) ∙ from.0 i (omega (arith, below))),
    (λ i reached inside.
        elim (eqb_tells i n) [
          | inl same ↦ subst (λ (k : ℕ). IsInverseOrZero times (slice_index (map repr xs) k) (slice_index (map repr (set ys n written)) k))
              (sym same.1)
              (subst (λ (z : ℕ). IsInverseOrZero times z (slice_index (map repr (set ys n written)) n)) (sym (number-at repr xs n x within read))
              (subst (λ (z : ℕ). IsInverseOrZero times (repr x) z) (sym (number-set_same repr ys n written room)) inverse))
          | inr other ↦ subst (λ (z : ℕ). IsInverseOrZero times (slice_index (map repr xs) i) z)
              (sym (number-set_other repr ys n i written other.1)) (from.1 i (above i n reached other.1) inside)
        ]),
    after,
  )
    where
      above : (i n : ℕ) → n ≤ i → (i ≡ n → ⊥) → n + 1 ≤ i
      above i n reached other = omega (arith, reached, other)

  pub inverted-zero : (ys : List A) (n : ℕ) (rest zeroed x : A) → n < length xs → n < length ys → x ≡ get_or xs n x
      → repr x ≡ 0 → repr zeroed ≡ 0 → InvertedFrom times repr xs ys (n + 1) rest → InvertedFrom times repr xs (set ys n zeroed) n rest
  inverted-zero ys n rest zeroed x within room read nothing is from =
      inverted-step ys n rest rest zeroed x within room read ((λ e. is), (λ other. absurd (other nothing)))
      (inverse-skip width times field wide (slice_index (map repr xs)) number_fits n (repr rest)
      (number-at repr xs n x within read ∙ nothing) from.2)
      from

  pub inverted-more : (ys : List A) (n : ℕ) (rest next before written x : A) → n < length xs → n < length ys
      → x ≡ get_or xs n x → before ≡ get_or ys n before → repr x ≢ 0 → repr written ≡ times (repr rest) (repr before)
      → repr next ≡ times (repr rest) (repr x) → InvertedFrom times repr xs ys (n + 1) rest → InvertedFrom times repr xs (set ys n written) n next
  inverted-more ys n rest next before written x within room read read_before other is is_next from =
      let here = number-at repr xs n x within read in
      let nonzero : slice_index (map repr xs) n ≢ 0 = λ e. other (sym here ∙ e) in
      let product = sym (number-at repr ys n before room read_before) ∙ from.0 n (omega arith) in
      inverted-step ys n rest next written x within room read (
        (λ e. absurd (other e)),
        (λ e. ap₂ times (sym here) (is ∙ ap (times (repr rest)) product)
            ∙ inverse-here width times field wide (slice_index (map repr xs)) number_fits n (repr rest) nonzero from.2),
      )
      (ap (times (nonzero_product times (slice_index (map repr xs)) n)) (is_next ∙ ap (times (repr rest)) (sym here))
      ∙ inverse-before width times field wide (slice_index (map repr xs)) number_fits n (repr rest) nonzero from.2)
      from
