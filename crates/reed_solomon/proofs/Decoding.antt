-- What a derivative gives of a word that has lost symbols: the product of its polynomial f and the locator has as many coefficients as there are
-- points, and is known at each of them; it is f times the locator of the others, times the difference from a lost point.
use Rattle.std.proofs.Common.{◌≡◌, ◌≢◌, inl, inr, ℕ, suc, ◌+◌, ◌-◌, ◌^◌, ◌<◌, ◌≤◌, Bool, true, false, lit<, refl, sym, ◌∙◌, ap, subst, arith}
use Rattle.std.specs.Prelude.{bit_xor}
use Rattle.std.proofs.lemmas.Bool.{cases_Bool, true≢false}
use Rattle.std.proofs.lemmas.Nat.{pow_pos}
use Rattle.std.proofs.Math.Nat.{pow-le-pow_right}
use native.Mathlib.Nat.{mod-eq_of_lt}
use Rattle.field_base.specs.Field.{IsField}
use Rattle.field_base.specs.Tower.{tower_mul}
use Rattle.field_base.proofs.TowerLaws.{tower_field}
use Rattle.field_base.proofs.RingLemmas.{times-zero}
use Rattle.field_base.proofs.Polynomials.{IsPolynomial, polynomial-unique}
use Rattle.ghash_slices.specs.Cantor.{point, polynomial_value}
use Rattle.ghash_slices.proofs.CantorValues.{points_are_distinct}
use Rattle.additive_transforms.specs.lemmas.LevelVector.{level_vectors}
use Rattle.word_tables.specs.Cantor.{cantor_vector}
use Rattle.word_tables.proofs.LevelLaws.{level_cantor}
use Rattle.reed_solomon.specs.Derivatives.{derived}
use Rattle.reed_solomon.specs.Located.{LostSymbolsAreLocated, level_point}
use Rattle.reed_solomon.specs.Locators.{locator, lost_count, others_lost}
use Rattle.additive_transforms.proofs.BlockPoints.{point-lt}
use Rattle.field_base.proofs.PolynomialProducts.{polynomial-product, polynomial-widen}
use Rattle.additive_transforms.proofs.BasisPolynomials.{value-polynomial}
use Rattle.reed_solomon.proofs.DerivedValues.{constant, derived_at_root, one-lt}
use Rattle.reed_solomon.proofs.LocatorFacts.{count-without, locator-lt, locator-nonzero, locator-polynomial, locator-root, locator-without, others-own}

module _ (level n r : ℕ) (low : level ≤ 7) (room : r ≤ 2 ^ level) (lost : ℕ → Bool) (enough : lost_count lost (2 ^ r) + 2 ^ n ≤ 2 ^ r) where
  abbrev at : ℕ → ℕ
  at p = point (2 ^ level) cantor_vector 0 p

  abbrev e : ℕ → ℕ
  e = locator (tower_mul level) at lost (2 ^ r)

  -- of the lost ones but p
  abbrev other : ℕ → ℕ → ℕ
  other p = locator (tower_mul level) at (others_lost lost p) (2 ^ r)

  field : IsField (2 ^ level) (tower_mul level)
  field = tower_field level

  wide : 0 < 2 ^ level
  wide = pow_pos level

  points : 2 ^ r ≤ 2 ^ 2 ^ level
  points = pow-le-pow_right (lit< tt) room

  pub at-lt : (p : ℕ) → at p < 2 ^ 2 ^ level
  at-lt p = point-lt (2 ^ level) cantor_vector (level_cantor level low).below p

  pub at-apart : (p q : ℕ) → p < 2 ^ r → q < 2 ^ r → at p ≡ at q → p ≡ q
  at-apart p q p_below q_below same =
      points_are_distinct (2 ^ level) (tower_mul level) cantor_vector wide field.ring (level_vectors level low) 0 p q
      (omega (arith, p_below, points)) (omega (arith, q_below, points)) same

  widened : (c d : ℕ) → c ≤ d → (g : ℕ → ℕ) → IsPolynomial (tower_mul level) c g → IsPolynomial (tower_mul level) d g
  widened c d few g polynomial =
      let all : (d - c) + c ≡ d = omega (arith, few) in
      subst (λ (k : ℕ). IsPolynomial (tower_mul level) k g) all
      (polynomial-widen (2 ^ level) (tower_mul level) wide field.ring (d - c) c g polynomial)

  -- the locator of the others is not 0 at a lost point
  pub other-nonzero : (p : ℕ) → p < 2 ^ r → other p (at p) ≢ 0
  other-nonzero p below =
      locator-nonzero (2 ^ level) (tower_mul level) wide field at (others_lost lost p) (2 ^ r) (at p) (at-lt p) (λ q q_below is. at-lt q)
      (λ q q_below is same.
      let equal : p ≡ q = at-apart p q below q_below same in
      true≢false (sym is ∙ ap (others_lost lost p) (sym equal) ∙ others-own lost p))

  -- ---- the product with a polynomial of 2 ^ n coefficients

  module _ (f : ℕ → ℕ) (f_is : IsPolynomial (tower_mul level) (2 ^ n) f) where
    -- an inverse transform of known values gives its coefficients
    pub product_is : (c word : ℕ → ℕ)
        → ((p : ℕ) → p < 2 ^ r → polynomial_value (tower_mul level) r c (at p) ≡ tower_mul level (word p) (e (at p)))
        → ((p : ℕ) → p < 2 ^ r → lost p ≡ false → word p ≡ f (at p))
        → (x : ℕ) → polynomial_value (tower_mul level) r c x ≡ tower_mul level (e x) (f x)
    product_is c word values known =
        polynomial-unique (2 ^ level) (tower_mul level) field.ring field.inverses (2 ^ r) (polynomial_value (tower_mul level) r c)
        (λ x. tower_mul level (e x) (f x))
        (value-polynomial (2 ^ level) (tower_mul level) wide field.ring r c)
        (widened (lost_count lost (2 ^ r) + 2 ^ n) (2 ^ r) enough (λ x. tower_mul level (e x) (f x))
        (polynomial-product (2 ^ level) (tower_mul level) wide field.ring (lost_count lost (2 ^ r)) (2 ^ n) e f
        (locator-polynomial (2 ^ level) (tower_mul level) wide field at lost (2 ^ r)) f_is))
        at (λ p below. at-lt p) at-apart same
      where
        same : (p : ℕ) → p < 2 ^ r → polynomial_value (tower_mul level) r c (at p) ≡ tower_mul level (e (at p)) (f (at p))
        same p below =
            values p below ∙ field.ring.comm (word p) (e (at p))
            ∙ elim (cases_Bool (lost p)) [
              | inl is ↦
                  let root : e (at p) ≡ 0 = locator-root (2 ^ level) (tower_mul level) wide field at lost (2 ^ r) p below is in
                  ap (λ (a : ℕ). tower_mul level a (word p)) root
                  ∙ field.ring.comm 0 (word p) ∙ times-zero (2 ^ level) 1 (tower_mul level) field.ring (word p)
                  ∙ sym (ap (λ (a : ℕ). tower_mul level a (f (at p))) root
                  ∙ field.ring.comm 0 (f (at p)) ∙ times-zero (2 ^ level) 1 (tower_mul level) field.ring (f (at p)))
              | inr not ↦ ap (tower_mul level (e (at p))) (known p below not)
            ]

    -- the product of a value and the locator of the others is one of a coefficient fewer than there are points
    pub others_polynomial : (p : ℕ) → p < 2 ^ r → lost p ≡ true → IsPolynomial (tower_mul level) (2 ^ r - 1) (λ x. tower_mul level (other p x) (f x))
    others_polynomial p below is =
        widened (lost_count (others_lost lost p) (2 ^ r) + 2 ^ n) (2 ^ r - 1) (omega (arith, enough, count-without lost p is (2 ^ r) below))
        (λ x. tower_mul level (other p x) (f x))
        (polynomial-product (2 ^ level) (tower_mul level) wide field.ring (lost_count (others_lost lost p) (2 ^ r)) (2 ^ n) (other p) f
        (locator-polynomial (2 ^ level) (tower_mul level) wide field at (others_lost lost p) (2 ^ r)) f_is)

    -- times the difference from the lost point it is the product with the locator
    pub others_divide : (p : ℕ) → p < 2 ^ r → lost p ≡ true → (x : ℕ)
        → tower_mul level (e x) (f x) ≡ tower_mul level (bit_xor x (at p)) (tower_mul level (other p x) (f x))
    others_divide p below is x =
        ap (λ (v : ℕ). tower_mul level v (f x)) (locator-without (2 ^ level) (tower_mul level) field.ring at lost p x is (2 ^ r) below)
        ∙ field.ring.assoc (bit_xor x (at p)) (other p x) (f x)

    -- and their derivative its value, times the locator of the others
    decoded_is : (c word : ℕ → ℕ)
        → ((p : ℕ) → p < 2 ^ r → polynomial_value (tower_mul level) r c (at p) ≡ tower_mul level (word p) (e (at p)))
        → ((p : ℕ) → p < 2 ^ r → lost p ≡ false → word p ≡ f (at p))
        → (p : ℕ) → p < 2 ^ r → lost p ≡ true
        → polynomial_value (tower_mul level) r (derived r c) (at p) ≡ tower_mul level (other p (at p)) (f (at p))
    decoded_is c word values known p below is =
        derived_at_root (2 ^ level) (tower_mul level) wide field.ring field (at p) r (at-lt p) room c (λ x. tower_mul level (other p x) (f x))
        (others_polynomial p below is) (λ x. product_is c word values known x ∙ others_divide p below is x)

-- a value comes back from its product by the inverse of a factor
pub quotient_is : (level value factor inverse : ℕ) → value < 2 ^ 2 ^ level → tower_mul level factor inverse ≡ 1
    → tower_mul level (tower_mul level factor value) inverse ≡ value
quotient_is level value factor inverse fits is =
    let ring = (tower_field level).ring in
    ap (λ (a : ℕ). tower_mul level a inverse) (ring.comm factor value)
    ∙ ring.assoc value factor inverse
    ∙ ap (tower_mul level value) is
    ∙ ring.comm value 1 ∙ ring.one value ∙ mod-eq_of_lt fits

-- lost symbols come back
pub lost_symbols_are_located : LostSymbolsAreLocated
lost_symbols_are_located level n r lost low room enough =
    let field = tower_field level in
    let wide : 0 < 2 ^ level = pow_pos level in
    let some = pow_pos n in
    let all : suc (2 ^ n - 1) ≡ 2 ^ n = omega (arith, some) in
    let one_fits = one-lt (2 ^ level) (tower_mul level) wide field.ring in
    let one : IsPolynomial (tower_mul level) (2 ^ n) (λ x. 1) =
    subst (λ (k : ℕ). IsPolynomial (tower_mul level) k (λ x. 1)) all (constant (2 ^ level) (tower_mul level) wide field.ring (2 ^ n - 1) 1 one_fits) in
    record {
      invertible = λ p below is. other-nonzero level n r low room lost enough p below;
      slopes = λ coefficients values p below is.
          decoded_is level n r low room lost enough (λ x. 1) one coefficients (λ q. 1)
          (λ q q_below.
          let fits = locator-lt (2 ^ level) (tower_mul level) wide field (level_point level) lost (2 ^ r) (level_point level q) in
          values q q_below
          ∙ sym (field.ring.one (locator (tower_mul level) (level_point level) lost (2 ^ r) (level_point level q)) ∙ mod-eq_of_lt fits))
          (λ q q_below known. refl) p below is
          ∙ unit level (locator (tower_mul level) (level_point level) (others_lost lost p) (2 ^ r) (level_point level p))
          (locator-lt (2 ^ level) (tower_mul level) wide field (level_point level) (others_lost lost p) (2 ^ r) (level_point level p));
      decoded = λ coefficients product word known values.
          decoded_is level n r low room lost enough (polynomial_value (tower_mul level) n coefficients)
          (value-polynomial (2 ^ level) (tower_mul level) wide field.ring n coefficients) product word values known;
    }
  where
    unit : (level a : ℕ) → a < 2 ^ 2 ^ level → tower_mul level a 1 ≡ a
    unit level a fits = let ring = (tower_field level).ring in ring.comm a 1 ∙ ring.one a ∙ mod-eq_of_lt fits
