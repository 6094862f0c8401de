-- Each field of 2^w elements has a root of each irreducible polynomial f whose degree divides w: f divides x^(2^w) + x, which is 0 at each
-- element, and the other factor is not 0 at all of them, since it has at most 2^w coefficients.
use Rattle.std.proofs.Common.{◌≡◌, ◌≢◌, ◌⊎◌, inl, inr, ℕ, zero, suc, ◌+◌, ◌*◌, ◌/◌, ◌%◌, ◌^◌, ◌≤◌, ◌<◌, sym, ◌∙◌, ap, ap₂, subst, arith}
use Rattle.std.specs.Prelude.{bit_xor}
use Rattle.std.proofs.lemmas.Nat.{pow_pos, pow_below, xor_comm, xor_shr, pow-add}
use Rattle.std.proofs.lemmas.Bool.{cases_eq}
use Rattle.std.proofs.Math.Pow.{pow_mono, pow-lt}
use native.Mathlib.Nat.{le_refl, mod-eq_of_lt, pow-suc, one-mul, lt_of_lt_of_le, div-eq_of_lt, div-mul_cancel, eq-or-lt_of_le}
use Rattle.std.proofs.Math.Nat.{eq-zero_of_zero-dvd}
use Rattle.std.specs.Int.{◌∣◌}
use Rattle.std.proofs.lemmas.Nat.Gcd.{dvd_of_mod-eq-zero}
use lib.Bits.{xor_self, xor_zero_r}
use Rattle.field_base.specs.Carryless.{carryless}
use Rattle.field_base.specs.Field.{IsField}
use Rattle.field_base.specs.Powers.{repeated_square}
use Rattle.field_base.specs.Remainder.{HasDegree, rem, mul_mod}
use Rattle.field_base.proofs.CarrylessProduct.{carryless_one, carryless_shl, zero_carryless, bit_cases}
use Rattle.field_base.proofs.FieldLemmas.{no_zero_divisors}
use Rattle.field_base.proofs.PowerLemmas.{one-times, times-one}
use Rattle.field_base.proofs.RemainderLaws.{rem_is_remainder, rem_lt, rem_sum, rem_carryless, rem_carryless_left}
use Rattle.field_base.proofs.RemainderRing.{mul_mod-rem, mul_mod_ring}
use Rattle.field_base.proofs.RingLemmas.{zero-times}
use Rattle.field_base.proofs.Polynomials.{IsPolynomial, polynomial-vanishes}
use Rattle.any_field.specs.Irreducible.{IsIrreducible}
use Rattle.any_field.specs.Values.{binary_value}
use Rattle.any_field.specs.Isomorphic.{FieldsHaveRoots, FieldsOfOneSizeAreIsomorphic}
use Rattle.any_field.proofs.Degrees.{degree-some, degree-product, degree-unique, degree-of, degree-most, degree-nonzero}
use Rattle.any_field.proofs.IrreducibleFields.{irreducible_gives_field}
use Rattle.any_field.proofs.Rabin.{divides-returns}
use Rattle.any_field.proofs.RootValues.{at-zero, at-step, at-lt, at-one, at-sum, at-double, at-product, roots_give_isomorphisms}

-- the square of the polynomial x^k
square-power : (k : ℕ) → carryless (2 ^ k) (2 ^ k) ≡ 2 ^ (k + k)
square-power k =
    ap (carryless (2 ^ k)) (sym (one-mul (2 ^ k))) ∙ carryless_shl k (2 ^ k) 1 ∙ ap (λ (z : ℕ). z * 2 ^ k) (carryless_one (2 ^ k)) ∙ sym (pow-add 2 k k)

twice : (n : ℕ) → 2 ^ n + 2 ^ n ≡ 2 ^ suc n
twice n = omega (arith, pow-suc 2 n)

-- x^(2^n) by squarings, modulo a polynomial
module _ (width modulus : ℕ) (wide : 0 < width) (degree : HasDegree width modulus) where
  power-rem : (n : ℕ) → rem width modulus (2 ^ 2 ^ n) ≡ repeated_square 1 (mul_mod width modulus) n (rem width modulus 2)
  unfolding repeated_square
  power-rem zero =
      sym (one-times width 1 (mul_mod width modulus) (mul_mod_ring width modulus wide degree) (rem width modulus 2) (rem_lt width modulus degree 2))
  power-rem (suc n) =
      let p = 2 ^ 2 ^ n in
      ap (rem width modulus) (ap (λ (k : ℕ). 2 ^ k) (sym (twice n)) ∙ sym (square-power (2 ^ n)))
      ∙ sym (rem_carryless width modulus degree p p) ∙ sym (rem_carryless_left width modulus degree p (rem width modulus p))
      ∙ sym (mul_mod-rem width modulus degree (rem width modulus p) (rem width modulus p) (rem_lt width modulus degree p) (rem_lt width modulus degree p))
      ∙ ap (λ (z : ℕ). mul_mod width modulus z z) (power-rem n)

  -- an irreducible polynomial divides x^(2^n) + x for each multiple n of its degree
  divides : IsIrreducible modulus → (k : ℕ) → (h : ℕ) × (carryless h modulus ≡ bit_xor (2 ^ 2 ^ (k * width)) 2)
  divides irreducible k =
      let p = bit_xor (2 ^ 2 ^ (k * width)) 2 in
      let is = rem_is_remainder width modulus p degree in
      (is.quotient, sym (is.parts ∙ ap (bit_xor (carryless is.quotient modulus)) nothing ∙ xor_zero_r (carryless is.quotient modulus)))
    where
      nothing : rem width modulus (bit_xor (2 ^ 2 ^ (k * width)) 2) ≡ 0
      nothing =
          rem_sum width modulus degree (2 ^ 2 ^ (k * width)) 2
          ∙ ap (λ (z : ℕ). bit_xor z (rem width modulus 2))
          (power-rem (k * width)
          ∙ divides-returns width modulus (irreducible_gives_field width modulus wide degree irreducible) k (rem width modulus 2)
          (rem_lt width modulus degree 2))
          ∙ xor_self (rem width modulus 2)

module _ (width : ℕ) (times : ℕ → ℕ → ℕ) (wide : 0 < width) (field : IsField width times) where
  -- ---- values at elements

  value-x : (a : ℕ) → a < 2 ^ width → binary_value times a 2 ≡ a
  value-x a fits =
      at-double width times wide field.ring a 1 ∙ ap (times a) (at-one width times wide field.ring a) ∙ times-one width 1 times field.ring a fits

  value-power : (n a : ℕ) → a < 2 ^ width → binary_value times a (2 ^ 2 ^ n) ≡ repeated_square 1 times n a
  unfolding repeated_square
  value-power zero a fits = value-x a fits ∙ sym (one-times width 1 times field.ring a fits)
  value-power (suc n) a fits =
      ap (binary_value times a) (ap (λ (k : ℕ). 2 ^ k) (sym (twice n)) ∙ sym (square-power (2 ^ n)))
      ∙ at-product width times wide field.ring a (2 ^ 2 ^ n) (2 ^ 2 ^ n) ∙ ap (λ (z : ℕ). times z z) (value-power n a fits)

  -- x^(2^width) + x is 0 at each
  value-nothing : (a : ℕ) → a < 2 ^ width → binary_value times a (bit_xor (2 ^ 2 ^ width) 2) ≡ 0
  value-nothing a fits =
      at-sum width times wide field.ring a (2 ^ 2 ^ width) 2
      ∙ ap₂ bit_xor (value-power width a fits ∙ field.squarings_return a ∙ mod-eq_of_lt fits) (value-x a fits) ∙ xor_self a

  -- ---- a polynomial that is 0 at all elements

  bit-one : (h : ℕ) → times 1 (h % 2) ≡ h % 2
  bit-one h =
      one-times width 1 times field.ring (h % 2) (bit_cases (λ z. z < 2 ^ width) (pow_pos width) (pow_below 0 width wide) h)

  value-polynomial : (n h : ℕ) → h < 2 ^ n → IsPolynomial times n (λ a. binary_value times a h)
  unfolding IsPolynomial
  value-polynomial zero h fits =
      let none : h ≡ 0 = omega (arith, fits) in
      λ a. ap (binary_value times a) none ∙ at-zero width times wide field.ring a
  value-polynomial (suc n) h fits = (
    h % 2,
    (λ a. binary_value times a (h / 2)),
    value-polynomial n (h / 2) (omega (arith, pow-suc 2 n)),
    λ a. at-step width times wide field.ring a h ∙ ap (λ (z : ℕ). bit_xor z (times a (binary_value times a (h / 2)))) (sym (bit-one h)),
  )

  all-zero : (n h : ℕ) → h < 2 ^ n → n ≤ 2 ^ width → ((a : ℕ) → a < 2 ^ width → binary_value times a h ≡ 0) → h ≡ 0
  all-zero zero h fits few nothing = omega (arith, fits)
  all-zero (suc n) h fits few nothing =
      let low : h % 2 ≡ 0 =
      sym (ap (bit_xor (h % 2)) (zero-times width 1 times field.ring (binary_value times 0 (h / 2))) ∙ xor_zero_r (h % 2))
      ∙ sym (at-step width times wide field.ring 0 h) ∙ nothing 0 (pow_pos width) in
      let half_fits : h / 2 < 2 ^ n = omega (arith, pow-suc 2 n) in
      let at_nonzero : (a : ℕ) → a < 2 ^ width → a ≢ 0 → binary_value times a (h / 2) ≡ 0 =
      λ a a_fits some.
      cancel a (binary_value times a (h / 2)) a_fits (at-lt width times wide field.ring a (h / 2)) some
      (sym (xor_comm (h % 2) (times a (binary_value times a (h / 2))) ∙ ap (bit_xor (times a (binary_value times a (h / 2)))) low ∙ xor_zero_r (times a (binary_value times a (h / 2))))
      ∙ sym (at-step width times wide field.ring a h) ∙ nothing a a_fits) in
      let half : h / 2 ≡ 0 =
      all-zero n (h / 2) half_fits (omega (arith, few))
      (λ a a_fits.
      polynomial-vanishes width times field.ring field.inverses n (λ b. binary_value times b (h / 2)) (value-polynomial n (h / 2) half_fits) (λ i. suc i)
      (λ i below. omega (arith, below, few)) (λ i j i_below j_below e. omega (arith, e))
      (λ i below. at_nonzero (suc i) (omega (arith, below, few)) (λ e. absurd (omega (arith, e)))) a) in
      omega (arith, low, half)
    where
      cancel : (a b : ℕ) → a < 2 ^ width → b < 2 ^ width → a ≢ 0 → times a b ≡ 0 → b ≡ 0
      cancel a b a_fits b_fits some e =
          elim (no_zero_divisors width times field.ring field.inverses a b a_fits b_fits e) [ inl f ↦ absurd (some f) | inr f ↦ f ]

  -- ---- the root

  search-root : (modulus n : ℕ) → ((a : ℕ) × (a < n) × (binary_value times a modulus ≡ 0)) ⊎ ((a : ℕ) → a < n → binary_value times a modulus ≢ 0)
  search-root modulus zero = inr (λ a below. absurd (omega (arith, below)))
  search-root modulus (suc n) =
      elim (search-root modulus n) [
        | inl found ↦ inl (found.0, omega (arith, found.1), found.2)
        | inr none ↦ elim (cases_eq (binary_value times n modulus) 0) [
          | inl e ↦ inl (n, omega arith, e)
          | inr other ↦ inr (λ a below. elim (eq-or-lt_of_le (last a n below)) [
            | inl e ↦ subst (λ (z : ℕ). binary_value times z modulus ≢ 0) (sym e) other
            | inr less ↦ none a less
          ])
        ]
      ]
    where
      last : (a n : ℕ) → a < suc n → a ≤ n
      last a n below = omega arith

  module _ (d k modulus : ℕ) (d_wide : 0 < d) (parts : k * d ≡ width) (degree : HasDegree d modulus) (irreducible : IsIrreducible modulus) where
    some-root : ((a : ℕ) → a < 2 ^ width → binary_value times a modulus ≢ 0) → ⊥
    some-root none =
        let factor = divides d modulus d_wide degree irreducible k in
        let h = factor.0 in
        let product : carryless h modulus ≡ bit_xor (2 ^ 2 ^ width) 2 = factor.1 ∙ ap (λ (n : ℕ). bit_xor (2 ^ 2 ^ n) 2) parts in
        let zeros : (a : ℕ) → a < 2 ^ width → binary_value times a h ≡ 0 =
        λ a fits.
        elim (no_zero_divisors width times field.ring field.inverses (binary_value times a h) (binary_value times a modulus)
        (at-lt width times wide field.ring a h) (at-lt width times wide field.ring a modulus)
        (sym (at-product width times wide field.ring a h modulus) ∙ ap (binary_value times a) product ∙ value-nothing a fits)) [
          | inl e ↦ e
          | inr e ↦ absurd (none a fits e)
        ] in
        let some : h ≢ 0 = λ e. nonzero (sym product ∙ ap (λ (z : ℕ). carryless z modulus) e ∙ zero_carryless modulus) in
        some (all-zero (2 ^ width) h (small h some product) (le_refl (2 ^ width)) zeros)
      where
        large : 2 < 2 ^ 2 ^ width
        large = pow-lt (pow_below 0 width wide)

        top : HasDegree (2 ^ width) (bit_xor (2 ^ 2 ^ width) 2)
        top =
            xor_shr (2 ^ 2 ^ width) 2 (2 ^ width)
            ∙ ap₂ bit_xor (degree-of (2 ^ width) (2 ^ 2 ^ width) (le_refl (2 ^ 2 ^ width)) (pow-lt (next (2 ^ width)))) (div-eq_of_lt large)
          where
            next : (n : ℕ) → n < suc n
            next n = omega arith

        nonzero : bit_xor (2 ^ 2 ^ width) 2 ≢ 0
        nonzero e = degree-nonzero (2 ^ width) (bit_xor (2 ^ 2 ^ width) 2) top e

        small : (h : ℕ) → h ≢ 0 → carryless h modulus ≡ bit_xor (2 ^ 2 ^ width) 2 → h < 2 ^ 2 ^ width
        small h some is =
            let own = degree-some h some in
            let sum : own.0 + d ≡ 2 ^ width =
            degree-unique (own.0 + d) (2 ^ width) (bit_xor (2 ^ 2 ^ width) 2)
            (subst (HasDegree (own.0 + d)) is (degree-product own.0 d h modulus own.1 degree)) top in
            lt_of_lt_of_le (degree-most own.0 h own.1) (pow_mono (least own.0 (2 ^ width) sum))
          where
            least : (m n : ℕ) → m + d ≡ n → suc m ≤ n
            least m n sum = omega (arith, d_wide)

    root-found : (root : ℕ) × (root < 2 ^ width) × (binary_value times root modulus ≡ 0)
    root-found = elim (search-root modulus (2 ^ width)) [ inl found ↦ found | inr none ↦ absurd (some-root none) ]

pub fields_have_roots : FieldsHaveRoots
fields_have_roots width d modulus times wide by degree irreducible field =
    root-found width times wide field d (width / d) modulus (positive d (dvd_of_mod-eq-zero d by) wide) (div-mul_cancel d (dvd_of_mod-eq-zero d by))
    degree irreducible
  where
    positive : (d : ℕ) → d ∣ width → 0 < width → 0 < d
    positive zero divides some = absurd (omega (arith, some, eq-zero_of_zero-dvd divides))
    positive (suc d) divides some = omega arith

pub finite_fields_are_isomorphic : FieldsOfOneSizeAreIsomorphic
finite_fields_are_isomorphic width modulus times wide degree irreducible field =
    let found = root-found width times wide field width 1 modulus wide (one-mul width) degree irreducible in
    record {
      root = found.0;
      below = found.1;
      is_root = found.2;
      isomorphism = roots_give_isomorphisms width modulus times found.0 wide degree irreducible field.ring found.2;
    }
