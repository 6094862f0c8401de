-- What follows where elements have inverses: an inverse is the only one, a product is 0 only where a factor is, and an
-- element is the square of at most one.
use Rattle.std.proofs.Common.{◌≡◌, ◌≢◌, ℕ, zero, suc, ◌+◌, ◌-◌, ◌%◌, ◌^◌, ◌<◌, ◌⊎◌, inl, inr, refl, sym, ◌∙◌, ap, arith}
use Rattle.std.proofs.Math.Pow.{pow_mono}
use Rattle.std.specs.Prelude.{bit_xor}
use Rattle.std.proofs.lemmas.Nat.{xor_lt, pow_below}
use native.Mathlib.Nat.{mod-eq_of_lt}
use lib.Bits.{xor_self}
use Rattle.field_base.specs.Ring.{IsRing}
use Rattle.field_base.specs.Field.{HasInverses, IsField, FieldsHaveLaws}
use Rattle.field_base.specs.Powers.{power, repeated_square}
use Rattle.field_base.proofs.RingLemmas.{xor_nothing, times_left_comm, times-zero}
use Rattle.field_base.proofs.PowerLemmas.{one-times, times-one, square_xor, square_times, repeated_square_more, repeated_square_square, repeated_square-mod_round, power-lt, power-two, power-add, repeated_square-power}

module _ (width : ℕ) (times : ℕ → ℕ → ℕ) (ring : IsRing width 1 times) where
  -- an element has at most one inverse
  pub inverse-unique : (a x y : ℕ) → x < 2 ^ width → y < 2 ^ width → times a x ≡ 1 → times a y ≡ 1 → x ≡ y
  inverse-unique a x y x_fits y_fits x_inverts y_inverts =
      sym (times-one width 1 times ring x x_fits) ∙ ap (times x) (sym y_inverts)
      ∙ times_left_comm width 1 times ring x a y ∙ sym (ring.assoc a x y)
      ∙ ap (λ (z : ℕ). times z y) x_inverts ∙ one-times width 1 times ring y y_fits

  -- an element with an inverse is no divisor of 0
  pub divisor-zero : (a inverse b : ℕ) → times a inverse ≡ 1 → b < 2 ^ width → times a b ≡ 0 → b ≡ 0
  divisor-zero a inverse b inverts fits nothing =
      sym (one-times width 1 times ring b fits) ∙ ap (λ (z : ℕ). times z b) (sym inverts ∙ ring.comm a inverse)
      ∙ ring.assoc inverse a b ∙ ap (times inverse) nothing ∙ times-zero width 1 times ring inverse

  module _ (inverses : HasInverses width times) where
    -- a product is 0 only where a factor is
    pub no_zero_divisors : (a b : ℕ) → a < 2 ^ width → b < 2 ^ width → times a b ≡ 0 → (a ≡ 0) ⊎ (b ≡ 0)
    no_zero_divisors zero b a_fits b_fits nothing = inl refl
    no_zero_divisors (suc a) b a_fits b_fits nothing =
        let inverse = inverses (suc a) a_fits (λ e. absurd (omega arith)) in
        inr (divisor-zero (suc a) inverse.0 b inverse.2 b_fits nothing)

    pub square-zero : (a : ℕ) → a < 2 ^ width → times a a ≡ 0 → a ≡ 0
    square-zero a fits nothing = elim (no_zero_divisors a a fits fits nothing) [ inl e ↦ e | inr e ↦ e ]

    -- two elements with the same square are one
    pub square-injective : (a b : ℕ) → a < 2 ^ width → b < 2 ^ width → times a a ≡ times b b → a ≡ b
    square-injective a b a_fits b_fits same =
        xor_nothing a b (square-zero (bit_xor a b) (xor_lt width a b a_fits b_fits)
        (square_xor width 1 times ring a b ∙ ap (λ (x : ℕ). bit_xor x (times b b)) same ∙ xor_self (times b b)))

-- ---- fields

-- x ^ (q - 2) times the square of x is x
power-back : (width : ℕ) (times : ℕ → ℕ → ℕ) → IsField width times → 0 < width → (x : ℕ) → x < 2 ^ width
    → times (power 1 times x (2 ^ width - 2)) (times x x) ≡ x
power-back width times field wide x fits =
    let ring = field.ring in
    let one_fits : 1 < 2 ^ width = pow_below 0 width wide in
    let order : 2 ^ width - 2 + 2 ≡ 2 ^ width = omega (arith, pow_mono {i = 1} {j = width} wide) in
    ap (times (power 1 times x (2 ^ width - 2))) (sym (power-two width 1 times ring one_fits x))
    ∙ sym (power-add width 1 times ring one_fits x (2 ^ width - 2) 2) ∙ ap (power 1 times x) order
    ∙ sym (repeated_square-power width 1 times ring one_fits width x) ∙ field.squarings_return x ∙ mod-eq_of_lt fits

-- so that it is the inverse, where x has one
pub inverse-power : (width : ℕ) (times : ℕ → ℕ → ℕ) → IsField width times → 0 < width → (x y : ℕ) → x < 2 ^ width
    → y < 2 ^ width → times x y ≡ 1 → y ≡ power 1 times x (2 ^ width - 2)
inverse-power width times field wide x y fits y_fits inverts =
    let ring = field.ring in
    let one_fits : 1 < 2 ^ width = pow_below 0 width wide in
    let inverse = power 1 times x (2 ^ width - 2) in
    let ones : times (times x x) (times y y) ≡ 1 =
    sym (square_times width 1 times ring x y) ∙ ap (λ (z : ℕ). times z z) inverts ∙ one-times width 1 times ring 1 one_fits in
    sym (one-times width 1 times ring y y_fits) ∙ ap (λ (z : ℕ). times z y) (sym inverts) ∙ ring.assoc x y y
    ∙ ap (λ (z : ℕ). times z (times y y)) (sym (power-back width times field wide x fits)) ∙ ring.assoc inverse (times x x) (times y y)
    ∙ ap (times inverse) ones ∙ times-one width 1 times ring inverse (power-lt width 1 times ring one_fits x (2 ^ width - 2))

-- in a field of 2^width elements the power 2^width - 2 of a nonzero element is its inverse
pub power-inverts : (width : ℕ) (times : ℕ → ℕ → ℕ) → IsField width times → 0 < width → (x : ℕ) → x < 2 ^ width → x ≢ 0
    → times x (power 1 times x (2 ^ width - 2)) ≡ 1
power-inverts width times field wide x fits nonzero =
    let inverse = field.inverses x fits nonzero in
    ap (times x) (sym (inverse-power width times field wide x inverse.0 fits inverse.1 inverse.2)) ∙ inverse.2

-- the element squared once fewer than it has bits is its root
pub squarings-square : (width : ℕ) (times : ℕ → ℕ → ℕ) → IsField width times → 0 < width → (x : ℕ) → x < 2 ^ width
    → times (repeated_square 1 times (width - 1) x) (repeated_square 1 times (width - 1) x) ≡ x
squarings-square width times field wide x fits =
    let count : width - 1 + 1 ≡ width = omega arith in
    sym (repeated_square_more width 1 times field.ring (width - 1) x) ∙ ap (λ (n : ℕ). repeated_square 1 times n x) count
    ∙ field.squarings_return x ∙ mod-eq_of_lt fits

-- as many squarings as an element has bits return it
pub field_frobenius : (width : ℕ) (times : ℕ → ℕ → ℕ) → IsField width times → (a : ℕ) → a < 2 ^ width
    → repeated_square 1 times width a ≡ a
field_frobenius width times field a fits = field.squarings_return a ∙ mod-eq_of_lt fits

-- so that n squarings are as many as n leaves modulo the bits
pub field_repeated_square-mod_bits : (width : ℕ) (times : ℕ → ℕ → ℕ) → IsField width times → (n a : ℕ)
    → repeated_square 1 times (n % width) a ≡ repeated_square 1 times n a
field_repeated_square-mod_bits width times field n a = repeated_square-mod_round width 1 times field.ring width field.squarings_return n a

-- the root of an element is its only one
pub root_is_squarings : (width : ℕ) (times : ℕ → ℕ → ℕ) → IsField width times → 0 < width → (x r : ℕ) → r < 2 ^ width
    → times r r ≡ x → r ≡ repeated_square 1 times (width - 1) x
root_is_squarings width times field wide x r fits squares =
    let count : width ≡ suc (width - 1) = omega arith in
    sym (field_frobenius width times field r fits) ∙ ap (λ (n : ℕ). repeated_square 1 times n r) count
    ∙ sym (repeated_square_square width 1 times field.ring (width - 1) r) ∙ ap (repeated_square 1 times (width - 1)) squares

-- every field has these laws
pub fields_have_laws : FieldsHaveLaws
fields_have_laws width times wide field =
    record {
      no_zero_divisors = no_zero_divisors width times field.ring field.inverses;
      inverse_unique = inverse-unique width times field.ring;
      inverse_is_power = power-inverts width times field wide;
      root_is_repeated_square = squarings-square width times field wide;
      root_unique = square-injective width times field.ring field.inverses;
    }
