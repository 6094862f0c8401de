-- The polynomials modulo an irreducible one are a field, and modulo no other.
use Rattle.std.proofs.Common.{refl, ◌≡◌, ◌≢◌, ◌⊎◌, inl, inr, ℕ, zero, suc, ◌+◌, ◌^◌, ◌<◌, sym, ◌∙◌, ap, subst, arith}
use Rattle.std.specs.Prelude.{bit_xor}
use Rattle.std.proofs.lemmas.Nat.{pow_pos, pow_below}
use Rattle.std.proofs.Math.Pow.{pow_mono}
use native.Mathlib.Nat.{lt_of_lt_of_le}
use lib.Bits.{xor_zero_r}
use Rattle.field_base.specs.Carryless.{carryless}
use Rattle.field_base.specs.Field.{HasInverses}
use Rattle.field_base.specs.Remainder.{HasDegree, rem, mul_mod}
use Rattle.field_base.proofs.CarrylessProduct.{carryless_assoc, one_carryless, carryless_comm, zero_carryless, carryless_zero}
use Rattle.field_base.proofs.FieldLemmas.{no_zero_divisors}
use Rattle.field_base.proofs.RemainderLaws.{rem_small, rem_multiple, rem_lt, rem_sum, rem_carryless}
use Rattle.field_base.proofs.RemainderRing.{mul_mod-rem, mul_mod_ring}
use Rattle.any_field.specs.Irreducible.{IsIrreducible, IrreducibleGivesField, FieldNeedsIrreducible, IrreducibleByDegrees}
use Rattle.any_field.proofs.Degrees.{IsCommon, common, degree-most, degree-nonzero, degree-some, degree-zero, degree-product, degree-unique}
use Rattle.any_field.proofs.Products.{field-of}

module _ (width modulus : ℕ) (degree : HasDegree width modulus) where
  -- a multiple of the modulus leaves 0
  pub rem-multiple : (q : ℕ) → rem width modulus (carryless q modulus) ≡ 0
  rem-multiple q =
      ap (rem width modulus) (sym (xor_zero_r (carryless q modulus))) ∙ rem_multiple width modulus degree q 0
      ∙ rem_small width modulus degree 0 (pow_pos width)

  -- one of lower degree is 0
  pub small-multiple : (q a : ℕ) → carryless q modulus ≡ a → a < 2 ^ width → a ≡ 0
  small-multiple q a is fits = sym (rem_small width modulus degree a fits) ∙ ap (rem width modulus) (sym is) ∙ rem-multiple q

  -- an element other than 0 and an irreducible modulus have the common divisor 1
  pub common-one : IsIrreducible modulus → (a g : ℕ) → a < 2 ^ width → a ≢ 0 → IsCommon a modulus g → g ≡ 1
  common-one irreducible a g fits nonzero is =
      elim (irreducible is.of_right g is.right) [
        | inl e ↦
            absurd (nonzero (small-multiple is.of_left a
            (ap (carryless is.of_left) (sym is.right ∙ ap (λ (z : ℕ). carryless z g) e ∙ one_carryless g) ∙ is.left) fits))
        | inr e ↦ e
      ]

  -- where multiples of a and of the modulus add up to 1, a has an inverse
  inverse-of : 0 < width → (a u v : ℕ) → a < 2 ^ width → bit_xor (carryless u a) (carryless v modulus) ≡ 1
      → mul_mod width modulus a (rem width modulus u) ≡ 1
  inverse-of wide a u v fits sum =
      mul_mod-rem width modulus degree a (rem width modulus u) fits (rem_lt width modulus degree u)
      ∙ rem_carryless width modulus degree a u ∙ ap (rem width modulus) (carryless_comm a u)
      ∙ sym (ap (λ (z : ℕ). bit_xor (rem width modulus (carryless u a)) z) (rem-multiple v) ∙ xor_zero_r (rem width modulus (carryless u a)))
      ∙ sym (rem_sum width modulus degree (carryless u a) (carryless v modulus)) ∙ ap (rem width modulus) sum
      ∙ rem_small width modulus degree 1 (pow_below 0 width wide)

  pub inverses-of : 0 < width → IsIrreducible modulus → HasInverses width (mul_mod width modulus)
  inverses-of wide irreducible a fits nonzero =
      let both = common a modulus in
      let is = both.1 in
      let one : both.0 ≡ 1 = common-one irreducible a both.0 fits nonzero is in
      (rem width modulus is.u, rem_lt width modulus degree is.u, inverse-of wide a is.u is.v fits (is.sum ∙ one))

-- ---- both ways

pub irreducible_gives_field : IrreducibleGivesField
irreducible_gives_field width modulus wide degree irreducible =
    field-of width (mul_mod width modulus) wide (mul_mod_ring width modulus wide degree) (inverses-of width modulus degree wide irreducible)

-- the degrees of two factors
pub factors : (width modulus g h : ℕ) → HasDegree width modulus → carryless g h ≡ modulus
    → (m : ℕ) × (n : ℕ) × HasDegree m g × HasDegree n h × (m + n ≡ width)
factors width modulus g h degree is =
    let left = degree-some g left_nonzero in
    let right = degree-some h right_nonzero in (
      left.0,
      right.0,
      left.1,
      right.1,
      degree-unique (left.0 + right.0) width modulus
          (subst (λ (z : ℕ). HasDegree (left.0 + right.0) z) is (degree-product left.0 right.0 g h left.1 right.1)) degree,
    )
  where
    left_nonzero : g ≢ 0
    left_nonzero none = degree-nonzero width modulus degree (sym is ∙ ap (λ (z : ℕ). carryless z h) none ∙ zero_carryless h)

    right_nonzero : h ≢ 0
    right_nonzero none = degree-nonzero width modulus degree (sym is ∙ ap (carryless g) none ∙ carryless_zero g)

-- a polynomial is irreducible where it is no product of two of degree 1 or more, whose degrees add up to its own
pub irreducible-by : (width modulus : ℕ) → HasDegree width modulus
    → ((m n g h : ℕ) → 0 < m → 0 < n → m + n ≡ width → HasDegree m g → HasDegree n h → carryless g h ≡ modulus → ⊥) → IsIrreducible modulus
irreducible-by width modulus degree none g h is =
    let parts = factors width modulus g h degree is in
    cases parts.0 parts.1 parts.2 parts.3 parts.4
  where
    cases : (m n : ℕ) → HasDegree m g → HasDegree n h → m + n ≡ width → (g ≡ 1) ⊎ (h ≡ 1)
    cases zero n left right sum = inl (degree-zero g left)
    cases (suc m) zero left right sum = inr (degree-zero h right)
    cases (suc m) (suc n) left right sum = absurd (none (suc m) (suc n) g h (omega arith) (omega arith) sum left right is)

-- and so is a factor of which no factor of lower degree, but of 1 or more, divides the whole
pub factor-irreducible : (d g h modulus : ℕ) → HasDegree d g → carryless h g ≡ modulus
    → ((e q r : ℕ) → 0 < e → e < d → HasDegree e q → carryless r q ≡ modulus → ⊥) → IsIrreducible g
factor-irreducible d g h modulus degree is none =
    irreducible-by d g degree
    (λ m n p q m_some n_some sum left right product.
    none n q (carryless h p) n_some (omega (arith, m_some, sum)) right (carryless_assoc h p q ∙ ap (carryless h) product ∙ is))

-- a polynomial of degree less than the width is an element
pub degree-fits : (m width g : ℕ) → HasDegree m g → m < width → g < 2 ^ width
degree-fits m width g degree less = lt_of_lt_of_le (degree-most m g degree) (pow_mono less)

pub field_needs_irreducible : FieldNeedsIrreducible
field_needs_irreducible width modulus wide degree field =
    irreducible-by width modulus degree
    (λ m n g h m_some n_some sum left right is.
    let g_fits : g < 2 ^ width = degree-fits m width g left (omega (arith, n_some, sum)) in
    let h_fits : h < 2 ^ width = degree-fits n width h right (omega (arith, m_some, sum)) in
    elim (no_zero_divisors width (mul_mod width modulus) field.ring field.inverses g h g_fits h_fits
    (mul_mod-rem width modulus degree g h g_fits h_fits ∙ ap (rem width modulus) (is ∙ sym (one_carryless modulus))
    ∙ rem-multiple width modulus degree 1)) [
      | inl e ↦ absurd (degree-nonzero m g left e)
      | inr e ↦ absurd (degree-nonzero n h right e)
    ])

pub irreducible_by_degrees : IrreducibleByDegrees
irreducible_by_degrees width modulus degree = (
  (λ irreducible m n g h m_some n_some left right is. elim (irreducible g h is) [
    | inl e ↦ one m g m_some left e
    | inr e ↦ one n h n_some right e
  ]),
  (λ none. irreducible-by width modulus degree (λ m n g h m_some n_some sum left right is. none m n g h m_some n_some left right is)),
)
  where
    one : (m g : ℕ) → 0 < m → HasDegree m g → g ≡ 1 → ⊥
    one m g some left e =
        let zero_degree : HasDegree 0 g = subst (HasDegree 0) (sym e) refl in
        let none : m ≡ 0 = degree-unique m 0 g left zero_degree in
        absurd (omega (arith, none))
