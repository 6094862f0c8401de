-- Products of polynomials, and the polynomial whose roots are the points at marked places.
use Rattle.std.proofs.Common.{◌≡◌, ◌≢◌, ◌⊎◌, ℕ, zero, suc, ◌+◌, ◌^◌, ◌<◌, ◌≤◌, inl, inr, Bool, true, false, cond, refl}
use Rattle.std.proofs.Common.{sym, ◌∙◌, ap, ap₂, subst, arith}
use Rattle.std.specs.Prelude.{bit_xor, nat_eq}
use Rattle.std.proofs.lemmas.Bool.Decides.{eqb_tells}
use Rattle.std.proofs.lemmas.Nat.{xor_lt, pow_below}
use lib.Bits.{xor_self, xor_zero_r}
use Rattle.field_base.specs.Basis.{product_below}
use Rattle.field_base.specs.Field.{IsField}
use Rattle.field_base.specs.Ring.{IsRing}
use Rattle.field_base.specs.PolynomialRoots.{AreDistinctBelow}
use Rattle.field_base.proofs.RingLemmas.{sum_times, times-zero, zero-times, xor_nothing}
use Rattle.field_base.proofs.PowerLemmas.{times-one, one-times}
use Rattle.field_base.proofs.FieldLemmas.{no_zero_divisors}
use Rattle.field_base.proofs.Polynomials.{IsPolynomial, polynomial-same, polynomial-zero, polynomial-sum}
use Rattle.field_base.proofs.Polynomials.{polynomial-scale, polynomial-shift, polynomial-more, polynomial-root}
use Rattle.field_slices.specs.Marks.{marked_below, total}

module _ (width : ℕ) (times : ℕ → ℕ → ℕ) (ring : IsRing width 1 times) where
  pub polynomial-as : (k m : ℕ) (f : ℕ → ℕ) → k ≡ m → IsPolynomial times k f → IsPolynomial times m f
  polynomial-as k m f same p = subst (λ (n : ℕ). IsPolynomial times n f) same p

  pub polynomial-add : (d k m : ℕ) (f : ℕ → ℕ) → d + k ≡ m → IsPolynomial times k f → IsPolynomial times m f
  polynomial-add zero k m f sum p = polynomial-as k m f (omega (arith, sum)) p
  polynomial-add (suc d) k m f sum p =
      polynomial-as (suc (d + k)) m f (omega (arith, sum)) (polynomial-more width times ring (d + k) f
      (polynomial-add d k (d + k) f refl p))

  -- more coefficients
  pub polynomial-most : (k m : ℕ) (f : ℕ → ℕ) → k ≤ m → IsPolynomial times k f → IsPolynomial times m f
  polynomial-most k m f most p = let split = difference k m most in polynomial-add split.0 k m f split.1 p
    where
      difference : (k m : ℕ) → k ≤ m → (d : ℕ) × (d + k ≡ m)
      difference zero m most = (m, omega arith)
      difference (suc k) zero most = absurd (omega (arith, most))
      difference (suc k) (suc m) most = let before = difference k m (omega (arith, most)) in
          (before.0, omega (arith, before.1))

  -- a product has k + m of k and m + 1
  pub polynomial-product : (k m : ℕ) (f g : ℕ → ℕ) → IsPolynomial times k f → IsPolynomial times (suc m) g
      → IsPolynomial times (k + m) (λ x. times (f x) (g x))
  unfolding IsPolynomial
  polynomial-product zero m f g p q =
      polynomial-same width times ring (zero + m) (λ x. 0) (λ x. times (f x) (g x))
      (λ x. sym (ap (λ (z : ℕ). times z (g x)) (p x)
      ∙ zero-times width 1 times ring (g x))) (polynomial-zero width times ring (zero + m))
  polynomial-product (suc k) m f g p q =
      polynomial-as (suc (k + m)) (suc k + m) (λ x. times (f x) (g x)) (omega arith)
      (polynomial-same width times ring (suc (k + m)) (λ x. bit_xor (times (times 1 p.0) (g x))
      (times x (times (p.1 x) (g x))))
      (λ x. times (f x) (g x))
      (λ x. sym (ap (λ (z : ℕ). times z (g x)) (p.3 x)
      ∙ sum_times width 1 times ring (times 1 p.0) (times x (p.1 x)) (g x)
      ∙ ap (bit_xor (times (times 1 p.0) (g x))) (ring.assoc x (p.1 x) (g x))))
      (polynomial-sum width times ring (suc (k + m)) (λ x. times (times 1 p.0) (g x))
      (λ x. times x (times (p.1 x) (g x)))
      (polynomial-most (suc m) (suc (k + m)) (λ x. times (times 1 p.0) (g x)) (omega arith)
      (polynomial-scale width times ring (suc m) (times 1 p.0) g q))
      (polynomial-shift width times ring (k + m) (λ x. times (p.1 x) (g x)) (polynomial-product k m p.1 g p.2 q))))

module _ (width : ℕ) (times : ℕ → ℕ → ℕ) (wide : 0 < width) (field : IsField width times) (point : ℕ → ℕ)
    (marked : ℕ → Bool) where
  one_fits : 1 < 2 ^ width
  one_fits = pow_below 0 width wide

  -- the product of x - point i over the marked places i below n
  abbrev pub locator : ℕ → ℕ → ℕ
  locator n x = product_below times (λ i. cond (marked i) (bit_xor x (point i)) 1) n

  pub locator-lt : (n x : ℕ) → locator n x < 2 ^ width
  unfolding product_below
  locator-lt zero x = one_fits
  locator-lt (suc n) x = field.ring.below (locator n x) (cond (marked n) (bit_xor x (point n)) 1)

  pub with-mark : (n : ℕ) → marked n ≡ true → (x : ℕ) → locator (suc n) x ≡ times (locator n x) (bit_xor x (point n))
  unfolding product_below
  with-mark n is x = ap (λ (b : Bool). times (locator n x) (cond b (bit_xor x (point n)) 1)) is

  pub without-mark : (n : ℕ) → marked n ≡ false → (x : ℕ) → locator (suc n) x ≡ locator n x
  unfolding product_below
  without-mark n is x =
      ap (λ (b : Bool). times (locator n x) (cond b (bit_xor x (point n)) 1)) is
      ∙ times-one width 1 times field.ring (locator n x) (locator-lt n x)

  pub locator-polynomial : (n : ℕ) → IsPolynomial times (suc (marked_below marked n)) (locator n)
  unfolding IsPolynomial product_below total
  locator-polynomial zero = (
    1,
    (λ x. 0),
    (λ x. refl),
    λ x. sym (ap₂ bit_xor (one-times width 1 times field.ring 1 one_fits) (times-zero width 1 times field.ring x)
        ∙ xor_zero_r 1),
  )
  locator-polynomial (suc n) = pick (marked n) refl (locator-polynomial n)
    where
      one : ℕ
      one = 1

      none : ℕ
      none = 0

      pick : (b : Bool) → marked n ≡ b → IsPolynomial times (suc (marked_below marked n)) (locator n)
          → IsPolynomial times (suc (marked_below marked n + cond (marked n) 1 0)) (locator (suc n))
      pick false is before =
          polynomial-as width times field.ring (suc (marked_below marked n))
          (suc (marked_below marked n + cond (marked n) 1 0)) (locator (suc n))
          (let last : cond (marked n) one none ≡ none = ap (λ (b : Bool). cond b one none) is in omega (arith, last))
          (polynomial-same width times field.ring (suc (marked_below marked n)) (locator n) (locator (suc n))
          (λ x. sym (without-mark n is x)) before)
      pick true is before =
          polynomial-as width times field.ring (suc (suc (marked_below marked n)))
          (suc (marked_below marked n + cond (marked n) 1 0)) (locator (suc n))
          (let last : cond (marked n) one none ≡ one = ap (λ (b : Bool). cond b one none) is in omega (arith, last))
          (polynomial-same width times field.ring (suc (suc (marked_below marked n)))
          (λ x. times (bit_xor x (point n)) (locator n x)) (locator (suc n))
          (λ x. field.ring.comm (bit_xor x (point n)) (locator n x) ∙ sym (with-mark n is x))
          (polynomial-root width times field.ring (suc (marked_below marked n)) (point n) (locator n) before))

  -- it is 0 at the marked places
  pub locator-zero : (n i : ℕ) → i < n → marked i ≡ true → locator n (point i) ≡ 0
  locator-zero zero i below is = absurd (omega (arith, below))
  locator-zero (suc n) i below is = pick (marked n) refl (eqb_tells i n) (λ within. locator-zero n i within is)
    where
      earlier : (i n : ℕ) → i < suc n → (i ≡ n → ⊥) → i < n
      earlier i n below other = omega (arith, below, other)

      pick : (b : Bool) → marked n ≡ b → ((nat_eq i n ≡ true) × (i ≡ n)) ⊎ ((nat_eq i n ≡ false) × (i ≡ n → ⊥))
          → (i < n → locator n (point i) ≡ 0) → locator (suc n) (point i) ≡ 0
      pick false n_is (inl same) before = let one : marked n ≡ true = ap marked (sym same.1) ∙ is in absurd (cc)
      pick true n_is (inl same) before =
          with-mark n n_is (point i)
          ∙ ap (times (locator n (point i))) (ap (bit_xor (point i)) (ap point (sym same.1)) ∙ xor_self (point i))
          ∙ times-zero width 1 times field.ring (locator n (point i))
      pick false n_is (inr other) before = without-mark n n_is (point i) ∙ before (earlier i n below other.1)
      pick true n_is (inr other) before =
          with-mark n n_is (point i)
          ∙ ap (λ (z : ℕ). times z (bit_xor (point i) (point n))) (before (earlier i n below other.1))
          ∙ zero-times width 1 times field.ring (bit_xor (point i) (point n))

  -- and at no point but theirs
  pub locator-nonzero : (n x : ℕ) → x < 2 ^ width → ((i : ℕ) → i < n → point i < 2 ^ width)
      → ((i : ℕ) → i < n → marked i ≡ true → x ≢ point i) → locator n x ≢ 0
  unfolding product_below
  locator-nonzero zero x fits points others is = absurd (omega (arith, is))
  locator-nonzero (suc n) x fits points others is =
      pick (marked n) refl (locator-nonzero n x fits (λ i below. points i (omega (arith, below)))
      (λ i below. others i (omega (arith, below))))
    where
      pick : (b : Bool) → marked n ≡ b → locator n x ≢ 0 → ⊥
      pick false n_is before = before (sym (without-mark n n_is x) ∙ is)
      pick true n_is before =
          elim (no_zero_divisors width times field.ring field.inverses (locator n x) (bit_xor x (point n))
          (locator-lt n x)
          (xor_lt width x (point n) fits (points n (omega arith))) (sym (with-mark n n_is x) ∙ is)) [
            | inl none ↦ before none
            | inr none ↦ others n (omega arith) n_is (xor_nothing x (point n) none)
          ]

  -- at a place that is not marked it is not 0, where the points differ
  pub locator-elsewhere : (n i : ℕ) → AreDistinctBelow n (2 ^ width) point → i < n → marked i ≡ false
      → locator n (point i) ≢ 0
  locator-elsewhere n i points below free =
      locator-nonzero n (point i) (points.below i below) points.below
      (λ j j_below is same.
      let one : i ≡ j = points.differ i j below j_below same in
      let yes : marked i ≡ true = ap marked one ∙ is in absurd (cc))
