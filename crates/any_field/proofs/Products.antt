-- Products of lists of elements: they do not depend on the order.
use Rattle.std.proofs.Common.{◌≡◌, ◌≢◌, ◌⊎◌, inl, inr, ℕ, zero, suc, ◌-◌, ◌%◌, ◌^◌, ◌≤◌, ◌<◌, List, [], ◌∷◌, length, refl, sym, ◌∙◌, ap, subst, arith}
use Rattle.std.specs.Prelude.{bit_xor}
use Rattle.std.proofs.lemmas.Nat.{xor_lt, pow_pos, pow_below}
use native.Mathlib.Nat.{eq-or-lt_of_le, le_refl, mod-lt}
use lib.Bits.{xor_self}
use Rattle.field_base.specs.Ring.{IsRing}
use Rattle.field_base.specs.Field.{HasInverses, IsField}
use Rattle.field_base.specs.Powers.{power, repeated_square}
use Rattle.field_base.proofs.RingLemmas.{xor_nothing, times_left_comm, times-zero}
use Rattle.field_base.proofs.PowerLemmas.{one-times, times-one, power-lt, repeated_square-power, repeated_square-mod}
use Rattle.field_base.proofs.FieldLemmas.{no_zero_divisors, divisor-zero}

-- squarings of 0 give 0
pub repeated_square-zero : (width unit : ℕ) (times : ℕ → ℕ → ℕ) → IsRing width unit times → (n : ℕ) → repeated_square unit times n 0 ≡ 0
unfolding repeated_square
repeated_square-zero width unit times ring zero = times-zero width unit times ring unit
repeated_square-zero width unit times ring (suc n) =
    ap (λ (x : ℕ). times x x) (repeated_square-zero width unit times ring n) ∙ times-zero width unit times ring 0

-- ---- lists of numbers

-- x stands in the list
pub IsIn : ℕ → List ℕ → Type 0
IsIn x [] = ⊥
IsIn x (y ∷ ys) = (x ≡ y) ⊎ IsIn x ys

-- no number stands in the list twice
pub AreDistinct : List ℕ → Type 0
AreDistinct [] = Unit {0}
AreDistinct (x ∷ xs) = (IsIn x xs → ⊥) × AreDistinct xs

pub product : (ℕ → ℕ → ℕ) → List ℕ → ℕ
product times [] = 1
product times (x ∷ xs) = times x (product times xs)

-- n, n - 1, .., 1
pub down : ℕ → List ℕ
down zero = []
down (suc n) = suc n ∷ down n

pub images : (ℕ → ℕ) → List ℕ → List ℕ
images f [] = []
images f (x ∷ xs) = f x ∷ images f xs

-- zs is ys without one x
pub record IsWithout (times : ℕ → ℕ → ℕ) (x : ℕ) (ys zs : List ℕ) : Type 0 where
  pub count : length ys ≡ suc (length zs)
  pub factor : product times ys ≡ times x (product times zs)
  pub other : (y : ℕ) → IsIn y ys → (y ≡ x) ⊎ IsIn y zs

module _ (width : ℕ) (times : ℕ → ℕ → ℕ) (ring : IsRing width 1 times) where
  without : (x : ℕ) (ys : List ℕ) → IsIn x ys → (zs : List ℕ) × IsWithout times x ys zs
  unfolding IsIn product
  without x [] is = absurd is
  without x (y ∷ ys) (inl same) =
      (ys, record { count = refl; factor = ap (λ (z : ℕ). times z (product times ys)) (sym same); other = λ z is. elim is [ inl e ↦ inl (e ∙ sym same) | inr e ↦ inr e ] })
  without x (y ∷ ys) (inr is) =
      let inner = without x ys is in (
        y ∷ inner.0,
        record {
          count = ap suc inner.1.count;
          factor = ap (times y) inner.1.factor ∙ times_left_comm width 1 times ring y x (product times inner.0);
          other = λ z there. elim there [ inl e ↦ inr (inl e) | inr e ↦ elim (inner.1.other z e) [ inl f ↦ inl f | inr f ↦ inr (inr f) ] ];
        },
      )

  -- a list of distinct numbers that all stand in a list as long has the same product, and each number of the other list
  pub rearranged : (xs ys : List ℕ) → AreDistinct xs → ((x : ℕ) → IsIn x xs → IsIn x ys) → length ys ≡ length xs
      → (product times xs ≡ product times ys) × ((y : ℕ) → IsIn y ys → IsIn y xs)
  unfolding IsIn product AreDistinct
  rearranged [] [] distinct inside count = (refl, λ y is. is)
  rearranged [] (y ∷ ys) distinct inside count = absurd (omega (arith, count))
  rearranged (x ∷ xs) ys distinct inside count =
      let less = without x ys (inside x (inl refl)) in
      let inner = rearranged xs less.0 distinct.1
      (λ z is. elim (less.1.other z (inside z (inr is))) [ inl e ↦ absurd (distinct.0 (subst (λ (w : ℕ). IsIn w xs) e is)) | inr e ↦ e ])
      (shorter (length ys) (length less.0) (length xs) less.1.count count) in (
        ap (times x) inner.0 ∙ sym less.1.factor,
        λ y is. elim (less.1.other y is) [ inl e ↦ inl e | inr e ↦ inr (inner.1 y e) ],
      )
    where
      shorter : (a b c : ℕ) → a ≡ suc b → a ≡ suc c → b ≡ c
      shorter a b c e f = omega arith

-- ---- the numbers from 1 to n

pub down-in : (n x : ℕ) → x ≢ 0 → x ≤ n → IsIn x (down n)
unfolding IsIn down
down-in zero x nonzero least = absurd (nonzero (omega arith))
down-in (suc n) x nonzero least = elim (eq-or-lt_of_le least) [ inl e ↦ inl e | inr e ↦ inr (down-in n x nonzero (omega arith)) ]

pub down-of : (n x : ℕ) → IsIn x (down n) → (x ≢ 0) × (x ≤ n)
unfolding IsIn down
down-of zero x is = absurd is
down-of (suc n) x (inl e) = ((λ none. absurd (omega (arith, e, none))), omega (arith, e))
down-of (suc n) x (inr is) = let inner = down-of n x is in (inner.0, omega (arith, inner.1))

pub length-images : (f : ℕ → ℕ) (xs : List ℕ) → length (images f xs) ≡ length xs
unfolding images
length-images f [] = refl
length-images f (x ∷ xs) = ap suc (length-images f xs)

-- what stands among the images is one
pub images-of : (f : ℕ → ℕ) (xs : List ℕ) (y : ℕ) → IsIn y (images f xs) → (x : ℕ) × IsIn x xs × (y ≡ f x)
unfolding IsIn images
images-of f [] y is = absurd is
images-of f (x ∷ xs) y (inl e) = (x, inl refl, e)
images-of f (x ∷ xs) y (inr is) = let inner = images-of f xs y is in (inner.0, inr inner.1, inner.2)

-- different numbers have different images
pub images-distinct : (f : ℕ → ℕ) (n : ℕ)
    → ((x y : ℕ) → x ≢ 0 → y ≢ 0 → x ≤ n → y ≤ n → f x ≡ f y → x ≡ y) → AreDistinct (images f (down n))
unfolding AreDistinct images down
images-distinct f zero injective = tt
images-distinct f (suc n) injective = (
  (λ is.
      let found = images-of f (down n) (f (suc n)) is in
      let below = down-of n found.0 found.1 in
      let same : suc n ≡ found.0 = injective (suc n) found.0 (λ e. absurd (omega (arith, e))) below.0 (omega arith) (omega (arith, below.1)) found.2 in
      absurd (omega (arith, same, below.1))),
  images-distinct f n (λ x y x_some y_some x_least y_least. injective x y x_some y_some (omega (arith, x_least)) (omega (arith, y_least))),
)

-- ---- Fermat

module _ (width : ℕ) (times : ℕ → ℕ → ℕ) (wide : 0 < width) (ring : IsRing width 1 times) (inverses : HasInverses width times) where
  one_fits : 1 < 2 ^ width
  one_fits = pow_below 0 width wide

  -- the number of the nonzero elements
  abbrev order : ℕ
  order = 2 ^ width - 1

  within : (x : ℕ) → x ≤ order → x < 2 ^ width
  within x least = omega (arith, pow_pos width)

  of_element : (x : ℕ) → x < 2 ^ width → x ≤ order
  of_element x fits = omega arith

  -- the product of multiples is a power times the product
  product-images : (a n : ℕ) → n ≤ order → product times (images (times a) (down n)) ≡ times (power 1 times a n) (product times (down n))
  unfolding product images down power
  product-images a zero least = sym (one-times width 1 times ring 1 one_fits)
  product-images a (suc n) least =
      ap (times (times a (suc n))) (product-images a n (omega arith)) ∙ regroup a (suc n) (power 1 times a n) (product times (down n))
    where
      regroup : (a b c d : ℕ) → times (times a b) (times c d) ≡ times (times c a) (times b d)
      regroup a b c d = simp (ring.assoc, times_left_comm width 1 times ring)

  product-lt : (xs : List ℕ) → product times xs < 2 ^ width
  unfolding product
  product-lt [] = one_fits
  product-lt (x ∷ xs) = ring.below x (product times xs)

  -- the product of nonzero elements is not 0
  product-nonzero : (n : ℕ) → n ≤ order → product times (down n) ≢ 0
  unfolding product down
  product-nonzero zero least e = absurd (omega (arith, e))
  product-nonzero (suc n) least e =
      elim (no_zero_divisors width times ring inverses (suc n) (product times (down n)) (within (suc n) least) (product-lt (down n)) e) [
        | inl f ↦ absurd (omega (arith, f))
        | inr f ↦ product-nonzero n (omega arith) f
      ]

  module _ (a : ℕ) (fits : a < 2 ^ width) (nonzero : a ≢ 0) where
    times-injective : (x y : ℕ) → x < 2 ^ width → y < 2 ^ width → times a x ≡ times a y → x ≡ y
    times-injective x y x_fits y_fits same =
        let inverse = inverses a fits nonzero in
        xor_nothing x y (divisor-zero width times ring a inverse.0 (bit_xor x y) inverse.2 (xor_lt width x y x_fits y_fits)
        (ring.over_sum a x y ∙ ap (λ (z : ℕ). bit_xor z (times a y)) same ∙ xor_self (times a y)))

    times-nonzero : (x : ℕ) → x < 2 ^ width → x ≢ 0 → times a x ≢ 0
    times-nonzero x x_fits some e =
        elim (no_zero_divisors width times ring inverses a x fits x_fits e) [ inl f ↦ nonzero f | inr f ↦ some f ]

    -- the multiples of a are the nonzero elements
    multiples : product times (images (times a) (down order)) ≡ product times (down order)
    multiples =
        (rearranged width times ring (images (times a) (down order)) (down order)
        (images-distinct (times a) order (λ x y x_some y_some x_least y_least same. times-injective x y (within x x_least) (within y y_least) same))
        (λ y is.
        let found = images-of (times a) (down order) y is in
        let below = down-of order found.0 found.1 in
        subst (λ (z : ℕ). IsIn z (down order)) (sym found.2)
        (down-in order (times a found.0) (times-nonzero found.0 (within found.0 below.1) below.0) (of_element (times a found.0) (ring.below a found.0))))
        (sym (length-images (times a) (down order)))).0

    pub power-order : power 1 times a order ≡ 1
    power-order =
        let all = product times (down order) in
        let all_fits : all < 2 ^ width = product-lt (down order) in
        let inverse = inverses all all_fits (product-nonzero order (le_refl order)) in
        let same : times (power 1 times a order) all ≡ all = sym (product-images a order (le_refl order)) ∙ multiples in
        sym (times-one width 1 times ring (power 1 times a order) (power-lt width 1 times ring one_fits a order))
        ∙ ap (times (power 1 times a order)) (sym inverse.2) ∙ sym (ring.assoc (power 1 times a order) all inverse.0)
        ∙ ap (λ (z : ℕ). times z inverse.0) same ∙ inverse.2

  -- as many squarings as an element has bits return it
  pub returned : (a : ℕ) → a < 2 ^ width → repeated_square 1 times width a ≡ a
  unfolding power
  returned zero fits = repeated_square-zero width 1 times ring width
  returned (suc a) fits =
      let whole : 2 ^ width ≡ suc order = omega (arith, pow_pos width) in
      repeated_square-power width 1 times ring one_fits width (suc a)
      ∙ ap (power 1 times (suc a)) whole ∙ ap (λ (z : ℕ). times z (suc a)) (power-order (suc a) fits (λ e. absurd (omega (arith, e))))
      ∙ one-times width 1 times ring (suc a) fits

  -- so that a ring in which nonzero elements have inverses is a field
  pub field-of : IsField width times
  field-of = record {
    ring = ring;
    inverses = inverses;
    squarings_return = λ a. sym (repeated_square-mod width 1 times ring width a) ∙ returned (a % 2 ^ width) (mod-lt a (pow_pos width));
  }
