-- The test of Ben-Or. A factor of degree d that no factor divides gives a field of 2^d elements, in which d squarings return x, so it
-- divides x^(2^d) + x. And where i squarings return x modulo an irreducible polynomial of degree above i, they return each of its
-- elements, which are more than a polynomial of degree 2^i - 1 has roots.
use Rattle.std.proofs.Common.{◌≡◌, ◌≢◌, inl, inr, ℕ, zero, suc, ◌*◌, ◌-◌, ◌/◌, ◌%◌, ◌^◌, ◌≤◌, ◌<◌, refl, sym, ◌∙◌, ap, ap₂, arith}
use Rattle.std.specs.Prelude.{bit_xor}
use Rattle.std.proofs.lemmas.Nat.{pow_pos, pow_below, xor_lt}
use Rattle.std.proofs.Math.Pow.{pow_mono, pow-lt}
use native.Mathlib.Nat.{mod-eq_of_lt}
use Rattle.std.proofs.lemmas.Bool.{cases_lt}
use lib.Arith.{bin_ind}
use lib.Bits.{xor_self}
use Rattle.field_base.specs.Carryless.{carryless}
use Rattle.field_base.specs.Field.{HasInverses}
use Rattle.field_base.specs.Powers.{power, repeated_square}
use Rattle.field_base.specs.Remainder.{HasDegree, rem, mul_mod}
use Rattle.field_base.specs.Ring.{IsRing}
use Rattle.field_base.proofs.CarrylessProduct.{carryless_one, carryless_comm, carryless_assoc, carryless_zero, carryless_double, xor_split, bit_cases}
use Rattle.field_base.proofs.PowerLemmas.{one-times, times-one, power-lt, repeated_square-lt, repeated_square-power, repeated_square_xor, repeated_square_times}
use Rattle.field_base.proofs.RemainderLaws.{rem_is_remainder, rem_small, rem_multiple, rem_lt, rem_sum, rem_carryless, rem_carryless_left}
use Rattle.field_base.proofs.RemainderRing.{mul_mod-rem, mul_mod_ring}
use Rattle.field_base.proofs.RingLemmas.{xor_nothing, times-zero}
use Rattle.field_base.proofs.Polynomials.{IsPolynomial, polynomial-same, polynomial-sum, polynomial-shift, polynomial-more, polynomial-vanishes}
use Rattle.any_field.specs.Irreducible.{IsIrreducible, AreCoprime, PassesBenOr, BenOrIsExact}
use Rattle.any_field.proofs.Degrees.{common}
use Rattle.any_field.proofs.Products.{repeated_square-zero}
use Rattle.any_field.proofs.IrreducibleFields.{irreducible_gives_field, rem-multiple, common-one, factor-irreducible, irreducible-by}

-- ---- a polynomial that passes is irreducible

-- modulo a factor of the modulus
module _ (width modulus d g h : ℕ) (wide : 0 < width) (degree : HasDegree width modulus) (small : 0 < d)
    (factor_degree : HasDegree d g) (is : carryless h g ≡ modulus) where
  -- a remainder modulo the modulus leaves the same as the polynomial
  rem-rem : (p : ℕ) → rem d g (rem width modulus p) ≡ rem d g p
  rem-rem p = along (rem width modulus p) (rem_is_remainder width modulus p degree).quotient (rem_is_remainder width modulus p degree).parts
    where
      along : (r q : ℕ) → p ≡ bit_xor (carryless q modulus) r → rem d g r ≡ rem d g p
      along r q parts =
          sym (ap (rem d g) (parts ∙ ap (λ (z : ℕ). bit_xor z r) (ap (carryless q) (sym is) ∙ sym (carryless_assoc q h g)))
          ∙ rem_multiple d g factor_degree (carryless q h) r)

  -- and a product of elements the product of what they leave
  rem-product : (a b : ℕ) → a < 2 ^ width → b < 2 ^ width
      → rem d g (mul_mod width modulus a b) ≡ mul_mod d g (rem d g a) (rem d g b)
  rem-product a b a_fits b_fits =
      ap (rem d g) (mul_mod-rem width modulus degree a b a_fits b_fits) ∙ rem-rem (carryless a b)
      ∙ sym (mul_mod-rem d g factor_degree (rem d g a) (rem d g b) (rem_lt d g factor_degree a) (rem_lt d g factor_degree b)
      ∙ rem_carryless d g factor_degree (rem d g a) b ∙ rem_carryless_left d g factor_degree a b)

  pub rem-squarings : (n a : ℕ) → a < 2 ^ width
      → rem d g (repeated_square 1 (mul_mod width modulus) n a) ≡ repeated_square 1 (mul_mod d g) n (rem d g a)
  unfolding repeated_square
  rem-squarings zero a fits =
      rem-product 1 a (pow_below 0 width wide) fits
      ∙ ap (λ (z : ℕ). mul_mod d g z (rem d g a)) (rem_small d g factor_degree 1 (pow_below 0 d small))
  rem-squarings (suc n) a fits =
      let inner = repeated_square 1 (mul_mod width modulus) n a in
      let inner_fits : inner < 2 ^ width = repeated_square-lt width 1 (mul_mod width modulus) (mul_mod_ring width modulus wide degree) n a in
      rem-product inner inner inner_fits inner_fits ∙ ap (λ (z : ℕ). mul_mod d g z z) (rem-squarings n a fits)

  -- what the factor divides has it in common with the modulus
  pub divisor-fails : (a : ℕ) → rem d g a ≡ 0 → AreCoprime a modulus → ⊥
  divisor-fails a nothing coprime =
      let left : rem d g (carryless coprime.left a) ≡ 0 =
      sym (rem_carryless d g factor_degree coprime.left a) ∙ ap (λ (z : ℕ). rem d g (carryless coprime.left z)) nothing
      ∙ ap (rem d g) (carryless_zero coprime.left) ∙ rem_small d g factor_degree 0 (pow_pos d) in
      let right : rem d g (carryless coprime.right modulus) ≡ 0 =
      ap (rem d g) (ap (carryless coprime.right) (sym is) ∙ sym (carryless_assoc coprime.right h g))
      ∙ rem-multiple d g factor_degree (carryless coprime.right h) in
      let one : 1 ≡ 0 =
      sym (rem_small d g factor_degree 1 (pow_below 0 d small)) ∙ ap (rem d g) (sym coprime.sum)
      ∙ rem_sum d g factor_degree (carryless coprime.left a) (carryless coprime.right modulus) ∙ ap₂ bit_xor left right in
      absurd (omega (arith, one))

  -- an irreducible factor of degree d divides x^(2^d) + x, so that the test at d fails
  irreducible-fails : 1 < width → IsIrreducible g → AreCoprime (bit_xor (repeated_square 1 (mul_mod width modulus) d 2) 2) modulus → ⊥
  irreducible-fails two irreducible =
      let field = irreducible_gives_field d g small factor_degree irreducible in
      let x_fits : 2 < 2 ^ width = pow-lt two in
      let back : rem d g (repeated_square 1 (mul_mod width modulus) d 2) ≡ rem d g 2 =
      rem-squarings d 2 x_fits ∙ field.squarings_return (rem d g 2) ∙ mod-eq_of_lt (rem_lt d g factor_degree 2) in
      divisor-fails (bit_xor (repeated_square 1 (mul_mod width modulus) d 2) 2)
      (rem_sum d g factor_degree (repeated_square 1 (mul_mod width modulus) d 2) 2 ∙ ap (λ (z : ℕ). bit_xor z (rem d g 2)) back
      ∙ xor_self (rem d g 2))

module _ (width modulus : ℕ) (wide : 0 < width) (degree : HasDegree width modulus) (passes : PassesBenOr width modulus) where
  -- so that no factor has a degree of at most half
  no-factor : (fuel d g h : ℕ) → d ≤ fuel → 0 < d → 2 * d ≤ width → HasDegree d g → carryless h g ≡ modulus → ⊥
  no-factor zero d g h few small half factor_degree is = absurd (omega arith)
  no-factor (suc fuel) d g h few small half factor_degree is =
      irreducible-fails width modulus d g h wide degree small factor_degree is (omega arith)
      (factor-irreducible d g h modulus factor_degree is
      (λ e q r some lower. no-factor fuel e q r (omega (arith, few, lower)) some (omega (arith, lower, half))))
      (passes d small half)

  passes-irreducible : IsIrreducible modulus
  passes-irreducible =
      irreducible-by width modulus degree
      (λ m n g h m_some n_some sum left right is.
      elim (cases_lt m n) [
        | inl less ↦ no-factor m m g h (omega arith) m_some (omega (arith, less, sum)) left (carryless_comm h g ∙ is)
        | inr least ↦ no-factor n n h g (omega arith) n_some (omega (arith, least, sum)) right is
      ])

-- ---- an irreducible polynomial passes

-- the powers of an element are polynomials
module _ (width : ℕ) (times : ℕ → ℕ → ℕ) (wide : 0 < width) (ring : IsRing width 1 times) where
  one_fits : 1 < 2 ^ width
  one_fits = pow_below 0 width wide

  polynomial-one : (k : ℕ) → IsPolynomial times (suc k) (λ x. 1)
  unfolding IsPolynomial
  polynomial-one zero = (
    1,
    (λ x. 0),
    (λ x. refl),
    λ x. sym (ap₂ bit_xor (one-times width 1 times ring 1 one_fits) (times-zero width 1 times ring x)),
  )
  polynomial-one (suc k) = polynomial-more width times ring (suc k) (λ x. 1) (polynomial-one k)

  polynomial-power : (n : ℕ) → IsPolynomial times (suc n) (λ x. power 1 times x n)
  unfolding power
  polynomial-power zero = polynomial-one 0
  polynomial-power (suc n) =
      polynomial-same width times ring (suc (suc n)) (λ x. times x (power 1 times x n)) (λ x. times (power 1 times x n) x)
      (λ x. ring.comm x (power 1 times x n)) (polynomial-shift width times ring (suc n) (λ x. power 1 times x n) (polynomial-power n))

  power-of_zero : (n : ℕ) → power 1 times 0 (suc n) ≡ 0
  unfolding power
  power-of_zero n = times-zero width 1 times ring (power 1 times 0 n)

  module _ (inverses : HasInverses width times) where
    -- where i squarings return x, and it is not 0, its power of 2^i - 1 is 1
    power-less : (n x : ℕ) → x < 2 ^ width → x ≢ 0 → power 1 times x (suc n) ≡ x → power 1 times x n ≡ 1
    unfolding power
    power-less n x fits nonzero same =
        let inverse = inverses x fits nonzero in
        sym (times-one width 1 times ring (power 1 times x n) (power-lt width 1 times ring one_fits x n))
        ∙ ap (times (power 1 times x n)) (sym inverse.2) ∙ sym (ring.assoc (power 1 times x n) x inverse.0)
        ∙ ap (λ (z : ℕ). times z inverse.0) same ∙ inverse.2

    -- fewer squarings than an element has bits do not return all of them
    pub some-moves : (i : ℕ) → 0 < i → i < width → ((x : ℕ) → x < 2 ^ width → repeated_square 1 times i x ≡ x) → ⊥
    some-moves i some less returns =
        let fewer : 2 ^ i < 2 ^ width = pow-lt less in
        let two : 2 ^ 1 ≤ 2 ^ i = pow_mono some in
        at (2 ^ i - 2) (omega (arith, two)) fewer (λ x fits. sym (repeated_square-power width 1 times ring one_fits i x) ∙ returns x fits)
      where
        at : (n : ℕ) → 2 ^ i ≡ suc (suc n) → 2 ^ i < 2 ^ width → ((x : ℕ) → x < 2 ^ width → power 1 times x (2 ^ i) ≡ x) → ⊥
        at n size fewer same =
            let f = λ (x : ℕ). bit_xor (power 1 times x (suc n)) 1 in
            let zeros : (k : ℕ) → k < suc (suc n) → f (suc k) ≡ 0 =
            λ k below.
            ap (λ (z : ℕ). bit_xor z 1)
            (power-less (suc n) (suc k) (omega (arith, below, fewer, size)) (λ e. absurd (omega (arith, e)))
            (ap (power 1 times (suc k)) (sym size) ∙ same (suc k) (omega (arith, below, fewer, size)))) in
            let all : f 0 ≡ 0 =
            polynomial-vanishes width times ring inverses (suc (suc n)) f
            (polynomial-sum width times ring (suc (suc n)) (λ x. power 1 times x (suc n)) (λ x. 1) (polynomial-power (suc n)) (polynomial-one (suc n)))
            (λ k. suc k) (λ k below. omega (arith, below, fewer, size)) (λ j k j_below k_below e. omega (arith, e)) zeros 0 in
            let one : 1 ≡ 0 = sym (ap (λ (z : ℕ). bit_xor z 1) (power-of_zero n)) ∙ all in
            absurd (omega (arith, one))

-- where squarings return x, they return each polynomial
module _ (width modulus : ℕ) (wide : 1 < width) (degree : HasDegree width modulus) (i : ℕ)
    (returns : repeated_square 1 (mul_mod width modulus) i 2 ≡ 2) where
  ring : IsRing width 1 (mul_mod width modulus)
  ring = mul_mod_ring width modulus (omega arith) degree

  abbrev squared : ℕ → ℕ
  squared a = repeated_square 1 (mul_mod width modulus) i a

  ones : (n : ℕ) → repeated_square 1 (mul_mod width modulus) n 1 ≡ 1
  unfolding repeated_square
  ones zero = one-times width 1 (mul_mod width modulus) ring 1 (pow_below 0 width (omega arith))
  ones (suc n) =
      ap (λ (z : ℕ). mul_mod width modulus z z) (ones n)
      ∙ one-times width 1 (mul_mod width modulus) ring 1 (pow_below 0 width (omega arith))

  squared-bit : (a : ℕ) → squared (a % 2) ≡ a % 2
  squared-bit a =
      bit_cases (λ z. repeated_square 1 (mul_mod width modulus) i z ≡ z) (repeated_square-zero width 1 (mul_mod width modulus) ring i) (ones i) a

  -- x times a polynomial is its double where that fits
  x-times : (b : ℕ) → b * 2 < 2 ^ width → mul_mod width modulus b 2 ≡ b * 2
  x-times b fits =
      let x_fits : 2 < 2 ^ width = pow-lt wide in
      mul_mod-rem width modulus degree b 2 (omega arith) x_fits ∙ ap (rem width modulus) (carryless_double b 1 ∙ ap (λ (z : ℕ). z * 2) (carryless_one b))
      ∙ rem_small width modulus degree (b * 2) fits

  pub all-return : (a : ℕ) → a < 2 ^ width → squared a ≡ a
  all-return =
      bin_ind (λ (n : ℕ). n < 2 ^ width → repeated_square 1 (mul_mod width modulus) i n ≡ n)
      (λ fits. repeated_square-zero width 1 (mul_mod width modulus) ring i)
      (λ n ih fits.
      let half_fits : n / 2 < 2 ^ width = omega arith in
      let double : mul_mod width modulus (n / 2) 2 ≡ n / 2 * 2 = x-times (n / 2) (omega arith) in
      ap (repeated_square 1 (mul_mod width modulus) i) (sym (xor_split n))
      ∙ repeated_square_xor width 1 (mul_mod width modulus) ring i (n % 2) (n / 2 * 2)
      ∙ ap₂ bit_xor (squared-bit n)
      (ap (repeated_square 1 (mul_mod width modulus) i) (sym double)
      ∙ repeated_square_times width 1 (mul_mod width modulus) ring i (n / 2) 2
      ∙ ap₂ (mul_mod width modulus) (ih half_fits) returns ∙ double)
      ∙ xor_split n)

-- so that fewer squarings than the degree leave an element other than 0
pub irreducible-coprime : (width modulus : ℕ) → 0 < width → HasDegree width modulus → IsIrreducible modulus → (i : ℕ) → 0 < i → i < width
    → AreCoprime (bit_xor (repeated_square 1 (mul_mod width modulus) i 2) 2) modulus
irreducible-coprime width modulus wide degree irreducible i some less =
    let times = mul_mod width modulus in
    let field = irreducible_gives_field width modulus wide degree irreducible in
    let a = bit_xor (repeated_square 1 times i 2) 2 in
    let two : 1 < width = omega arith in
    let x_fits : 2 < 2 ^ width = pow-lt two in
    let a_fits : a < 2 ^ width = xor_lt width (repeated_square 1 times i 2) 2 (repeated_square-lt width 1 times field.ring i 2) x_fits in
    let both = common a modulus in
    let nonzero : a ≢ 0 =
    λ e. some-moves width times wide field.ring field.inverses i some less
    (λ x fits. all-return width modulus two degree i (xor_nothing (repeated_square 1 times i 2) 2 e) x fits) in
    record {
      left = both.1.u;
      right = both.1.v;
      sum = both.1.sum ∙ common-one width modulus degree irreducible a both.0 a_fits nonzero both.1;
    }

irreducible-passes : (width modulus : ℕ) → 0 < width → HasDegree width modulus → IsIrreducible modulus → PassesBenOr width modulus
irreducible-passes width modulus wide degree irreducible i some half =
    irreducible-coprime width modulus wide degree irreducible i some (omega arith)

pub ben_or_is_exact : BenOrIsExact
ben_or_is_exact width modulus wide degree = (passes-irreducible width modulus wide degree, irreducible-passes width modulus wide degree)
