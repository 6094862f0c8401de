-- Inverses by Euclid's steps: a and b are multiples of x modulo the modulus, by u and by v, whose degrees grow as those of a and b fall.
use Rattle.std.proofs.Common.{◌≡◌, ◌≢◌, ℕ, zero, suc, ◌+◌, ◌-◌, ◌*◌, ◌%◌, ◌^◌, ◌≤◌, ◌<◌, sym, ◌∙◌, ap, ap₂, subst, arith}
use Rattle.std.specs.Prelude.{bit_xor}
use Rattle.std.specs.Int.Count.{count_leading_zeros}
use Rattle.std.proofs.lemmas.Nat.{pow-add, pow_pos, pow_below, xor_lt}
use Rattle.std.proofs.Math.Pow.{pow_mono, pow-lt}
use native.Mathlib.Nat.{mod-eq_of_lt, mul_assoc, mod-lt, pow-suc, lt_of_lt_of_le, lt_of_le_of_lt, mul-le-mul_left, mul-div_cancel, div-lt_iff_lt-mul}
use Rattle.field_base.specs.Carryless.{carryless}
use Rattle.field_base.specs.Field.{IsInverseOrZero}
use Rattle.field_base.specs.Remainder.{HasDegree, rem, mul_mod}
use Rattle.field_base.specs.Ring.{IsRing}
use Rattle.field_base.proofs.CarrylessProduct.{xor_shl, shl_carryless, one_carryless}
use Rattle.field_base.proofs.PowerLemmas.{one-times}
use Rattle.field_base.proofs.RemainderLaws.{rem_small, rem_multiple, rem_carryless}
use Rattle.field_base.proofs.RemainderRing.{mul_mod-rem, mul_mod_ring}
use Rattle.field_base.proofs.RingLemmas.{sum_times}
use Rattle.any_field.specs.Irreducible.{AreCoprime}
use Rattle.any_field.proofs.Degrees.{common, degree-least, degree-most, degree-unique}
use Rattle.any_field.proofs.IrreducibleFields.{common-one}
use Rattle.any_field.proofs.Rabin.{coprime_by_steps}
use Rattle.any_field.specs.Contexts.{IsContext, HasNoFactors, with_top}
use Rattle.any_field.proofs.WordRemainders.{top-degree}
use Rattle.any_field.proofs.EuclidSteps.{shifted, shifted-degree, lead, IsStep, step-is, step-fits, positive}
use Rattle.any_field.proofs.ContextFields.{irreducible-of}
use Rattle.any_field.proofs.RabinSteps.{first-step, first-parts, shift-sum}

pub record IsEuclid (w t x a u b v : ℕ) : Type 0 where
  pub a_some : a ≢ 0
  pub b_some : b ≢ 0
  pub a_fits : a < 2 ^ w
  pub b_fits : b < 2 ^ w
  pub u_fits : u < 2 ^ w
  pub v_fits : v < 2 ^ w
  pub coprime : AreCoprime a b
  pub a_is : mul_mod w (with_top w t) u x ≡ a
  pub b_is : mul_mod w (with_top w t) v x ≡ b
  pub u_small : (j : ℕ) → HasDegree j b → u * 2 ^ j < 2 ^ suc w
  pub v_small : (j : ℕ) → HasDegree j a → v * 2 ^ j < 2 ^ suc w

pub turned-round : (w t x a u b v : ℕ) → IsEuclid w t x a u b v → IsEuclid w t x b v a u
turned-round w t x a u b v is = record {
  a_some = is.b_some;
  b_some = is.a_some;
  a_fits = is.b_fits;
  b_fits = is.a_fits;
  u_fits = is.v_fits;
  v_fits = is.u_fits;
  coprime = coprime_by_steps.swap a b is.coprime;
  a_is = is.b_is;
  b_is = is.a_is;
  u_small = is.v_small;
  v_small = is.u_small;
}

-- a product by 2^k that stays below 2^n
cancel-power : (y k n : ℕ) → y * 2 ^ k < 2 ^ (n + k) → y < 2 ^ n
cancel-power y k n less =
    subst (λ (z : ℕ). z < 2 ^ n) (mul-div_cancel y (pow_pos k))
    ((div-lt_iff_lt-mul (pow_pos k)).1 (subst (λ (z : ℕ). y * 2 ^ k < z) (pow-add 2 n k) less))

module _ (w t : ℕ) (wide : 0 < w) (narrow : w ≤ 128) (fits : t < 2 ^ w) where
  ring : IsRing w 1 (mul_mod w (with_top w t))
  ring = mul_mod_ring w (with_top w t) wide (top-degree w t fits)

  -- x^k v times x is b x^k, where these are elements
  times-shifted : (x b v k : ℕ) → x < 2 ^ w → v < 2 ^ w → v * 2 ^ k < 2 ^ w → b * 2 ^ k < 2 ^ w
      → mul_mod w (with_top w t) v x ≡ b → mul_mod w (with_top w t) (v * 2 ^ k) x ≡ b * 2 ^ k
  times-shifted x b v k x_fits v_fits product_fits multiple_fits is =
      let f = with_top w t in
      let degree = top-degree w t fits in
      mul_mod-rem w f degree (v * 2 ^ k) x product_fits x_fits
      ∙ ap (rem w f) (shl_carryless k v x ∙ sym (shifted k (carryless v x)))
      ∙ sym (rem_carryless w f degree (2 ^ k) (carryless v x))
      ∙ ap (λ (z : ℕ). rem w f (carryless (2 ^ k) z)) (sym (mul_mod-rem w f degree v x v_fits x_fits) ∙ is)
      ∙ ap (rem w f) (shifted k b) ∙ rem_small w f degree (b * 2 ^ k) multiple_fits

  -- one step
  pub euclid-step : (x a u b v : ℕ) → x < 2 ^ w → b ≤ a → b ≢ 1 → IsEuclid w t x a u b v
      → IsEuclid w t x (bit_xor a (b * 2 ^ (count_leading_zeros 128 b - count_leading_zeros 128 a) % 2 ^ 128))
      (bit_xor u (v * 2 ^ (count_leading_zeros 128 b - count_leading_zeros 128 a) % 2 ^ 128)) b v
  euclid-step x a u b v x_fits least other is =
      let b_pos : 0 < b = positive b is.b_some in
      let k = count_leading_zeros 128 b - count_leading_zeros 128 a in
      let a_word : a < 2 ^ 128 = lt_of_lt_of_le is.a_fits (pow_mono narrow) in
      let b_word : b < 2 ^ 128 = lt_of_le_of_lt least a_word in
      let first = lead a (positive a is.a_some) a_word in
      let second = lead b b_pos b_word in
      let fewer = (step-fits a b b_pos least a_word).0 in
      let same : second.0 + k ≡ first.0 = omega (arith, first.1, second.1, fewer) in
      let same_order : k + second.0 ≡ first.0 = omega (arith, same) in
      let above : 1 ≤ second.0 = large second.0 (degree-most second.0 b second.2) in
      let whole : v * 2 ^ k * 2 ^ second.0 ≡ v * 2 ^ first.0 =
      mul_assoc v (2 ^ k) (2 ^ second.0) ∙ ap (λ (z : ℕ). v * z) (sym (pow-add 2 k second.0) ∙ ap (λ (z : ℕ). 2 ^ z) same_order) in
      let small : v * 2 ^ k * 2 ^ second.0 < 2 ^ suc w = subst (λ (z : ℕ). z < 2 ^ suc w) (sym whole) (is.v_small first.0 first.2) in
      let next : suc w ≤ w + second.0 = omega (arith, above) in
      let v_fits : v * 2 ^ k < 2 ^ w = cancel-power (v * 2 ^ k) second.0 w (lt_of_lt_of_le small (pow_mono next)) in
      let b_degree : HasDegree first.0 (b * 2 ^ k) = subst (λ (z : ℕ). HasDegree z (b * 2 ^ k)) same (shifted-degree second.0 k b second.2) in
      let in_width : suc first.0 ≤ w = below first.0 (degree-least first.0 a first.2) is.a_fits in
      let b_fits : b * 2 ^ k < 2 ^ w = lt_of_lt_of_le (degree-most first.0 (b * 2 ^ k) b_degree) (pow_mono in_width) in
      let b_same : b * 2 ^ k % 2 ^ 128 ≡ b * 2 ^ k = mod-eq_of_lt (lt_of_lt_of_le b_fits (pow_mono narrow)) in
      let v_same : v * 2 ^ k % 2 ^ 128 ≡ v * 2 ^ k = mod-eq_of_lt (lt_of_lt_of_le v_fits (pow_mono narrow)) in
      let step : IsStep a b (bit_xor a (b * 2 ^ k)) = subst (λ (z : ℕ). IsStep a b (bit_xor a z)) b_same (step-is a b b_pos least a_word) in
      subst (λ (z : ℕ). IsEuclid w t x (bit_xor a (b * 2 ^ k % 2 ^ 128)) (bit_xor u z) b v) (sym v_same)
      (subst (λ (z : ℕ). IsEuclid w t x (bit_xor a z) (bit_xor u (v * 2 ^ k)) b v) (sym b_same)
      record {
        a_some = λ none. other ((coprime_by_steps.none b).0 (coprime_by_steps.swap 0 b
            (subst (λ (z : ℕ). AreCoprime z b) none (step.coprime.1 is.coprime))));
        b_some = is.b_some;
        a_fits = xor_lt w a (b * 2 ^ k) is.a_fits b_fits;
        b_fits = is.b_fits;
        u_fits = xor_lt w u (v * 2 ^ k) is.u_fits v_fits;
        v_fits = is.v_fits;
        coprime = step.coprime.1 is.coprime;
        a_is =
            sum_times w 1 (mul_mod w (with_top w t)) ring u (v * 2 ^ k) x
            ∙ ap₂ bit_xor is.a_is (times-shifted x b v k x_fits is.v_fits v_fits b_fits is.b_is);
        b_is = is.b_is;
        u_small = λ j degree.
            let unique : second.0 ≡ j = degree-unique second.0 j b second.2 degree in
            subst (λ (z : ℕ). z < 2 ^ suc w) (xor_shl j u (v * 2 ^ k))
            (xor_lt (suc w) (u * 2 ^ j) (v * 2 ^ k * 2 ^ j) (is.u_small j degree)
            (subst (λ (z : ℕ). v * 2 ^ k * 2 ^ z < 2 ^ suc w) unique small));
        v_small = λ j degree.
            let order : j ≤ first.0 = grown j first.0 (lt_of_le_of_lt (degree-least j (bit_xor a (b * 2 ^ k)) degree) step.less) (degree-most first.0 a first.2) in
            lt_of_le_of_lt (mul-le-mul_left v (pow_mono order)) (is.v_small first.0 first.2);
      })
    where
      large : (l : ℕ) → b < 2 ^ suc l → 1 ≤ l
      large zero most = absurd (other (bit b is.b_some most))
        where
          bit : (b : ℕ) → b ≢ 0 → b < 2 ^ 1 → b ≡ 1
          bit b some most = omega arith
      large (suc l) most = omega arith

      below : (j : ℕ) → 2 ^ j ≤ a → a < 2 ^ w → suc j ≤ w
      below j low high = grind (arith, pow_mono {i = w} {j = j})

      grown : (j l : ℕ) → 2 ^ j < a → a < 2 ^ suc l → j ≤ l
      grown j l low high = grind (arith, pow_mono {i = suc l} {j = j})

  -- the start: the highest term leaves the modulus
  pub euclid-start : (x : ℕ) → HasNoFactors (with_top w t) → x < 2 ^ w → x ≢ 0 → x ≢ 1
      → IsEuclid w t x x 1 (bit_xor t (x * 2 ^ 1 % 2 ^ 128 * 2 ^ (w + count_leading_zeros 128 x - 128) % 2 ^ 128 % 2 ^ w))
      (1 * 2 ^ 1 % 2 ^ 128 * 2 ^ (w + count_leading_zeros 128 x - 128) % 2 ^ 128)
  euclid-start x none x_fits some other =
      let f = with_top w t in
      let x_pos : 0 < x = positive x some in
      let degree = top-degree w t fits in
      let k = w + count_leading_zeros 128 x - 128 in
      let top = lead x x_pos (lt_of_lt_of_le x_fits (pow_mono narrow)) in
      let above : 1 ≤ top.0 = large top.0 (degree-most top.0 x top.2) in
      let sum : top.0 + suc k ≡ w = shift-sum w t x wide narrow fits x_pos x_fits top.0 top.2 in
      let less : suc k < w = omega (arith, sum, above) in
      let v_is : 1 * 2 ^ 1 % 2 ^ 128 * 2 ^ k % 2 ^ 128 ≡ 2 ^ suc k =
      ap (λ (z : ℕ). z % 2 ^ 128) (power k) ∙ mod-eq_of_lt (pow-lt (lt_of_lt_of_le less narrow)) in
      let v_fits : 2 ^ suc k < 2 ^ w = pow-lt less in
      let b = bit_xor t (x * 2 ^ 1 % 2 ^ 128 * 2 ^ k % 2 ^ 128 % 2 ^ w) in
      let b_fits : b < 2 ^ w =
      xor_lt w t (x * 2 ^ 1 % 2 ^ 128 * 2 ^ k % 2 ^ 128 % 2 ^ w) fits (mod-lt (x * 2 ^ 1 % 2 ^ 128 * 2 ^ k % 2 ^ 128) (pow_pos w)) in
      let divisor = common x f in
      let one : divisor.0 ≡ 1 = common-one w f degree (irreducible-of f none) x divisor.0 x_fits some divisor.1 in
      let whole : AreCoprime x f = record { left = divisor.1.u; right = divisor.1.v; sum = divisor.1.sum ∙ one } in
      let coprime : AreCoprime x b = (first-step w t x wide narrow fits x_pos x_fits).1 whole in
      subst (IsEuclid w t x x 1 b) (sym v_is)
      record {
        a_some = some;
        b_some = λ e. other ((coprime_by_steps.none x).0 (subst (AreCoprime x) e coprime));
        a_fits = x_fits;
        b_fits = b_fits;
        u_fits = pow_below 0 w wide;
        v_fits = v_fits;
        coprime = coprime;
        a_is = one-times w 1 (mul_mod w f) ring x x_fits;
        b_is =
            mul_mod-rem w f degree (2 ^ suc k) x v_fits x_fits ∙ sym (rem_multiple w f degree 1 (carryless (2 ^ suc k) x))
            ∙ ap (rem w f) (ap (λ (z : ℕ). bit_xor z (carryless (2 ^ suc k) x)) (one_carryless f) ∙ first-parts w t x wide narrow fits x_pos x_fits)
            ∙ rem_small w f degree b b_fits;
        u_small = λ j b_degree. narrower j (lt_of_le_of_lt (degree-least j b b_degree) b_fits);
        v_small = λ j x_degree.
            let both_sum : j + suc k ≡ w = shift-sum w t x wide narrow fits x_pos x_fits j x_degree in
            let turned : suc k + j ≡ w = omega (arith, both_sum) in
            subst (λ (z : ℕ). z < 2 ^ suc w) (sym (sym (pow-add 2 (suc k) j) ∙ ap (λ (z : ℕ). 2 ^ z) turned)) (pow-lt (next w));
      }
    where
      next : (n : ℕ) → n < suc n
      next n = omega arith

      power : (k : ℕ) → 2 * 2 ^ k ≡ 2 ^ suc k
      power k = omega (arith, pow-suc 2 k)

      narrower : (j : ℕ) → 2 ^ j < 2 ^ w → 1 * 2 ^ j < 2 ^ suc w
      narrower j less = omega (arith, pow-suc 2 w)

      large : (l : ℕ) → x < 2 ^ suc l → 1 ≤ l
      large zero most = absurd (other (bit x some most))
        where
          bit : (b : ℕ) → b ≢ 0 → b < 2 ^ 1 → b ≡ 1
          bit b some most = omega arith
      large (suc l) most = omega arith

pub inverse-found : (w t r x u : ℕ) → IsContext w t r → x ≢ 0 → mul_mod w (with_top w t) u x ≡ 1 → IsInverseOrZero (mul_mod w (with_top w t)) x u
inverse-found w t r x u context some is =
    ((λ e. absurd (some e)), (λ nonzero. (ring w t context.wide context.narrow context.tail_below).comm x u ∙ is))

pub one-inverts : (w t r x : ℕ) → IsContext w t r → x ≡ 1 → IsInverseOrZero (mul_mod w (with_top w t)) x 1
one-inverts w t r x context one = (
  (λ e. absurd (omega (arith, one, e))),
  (λ nonzero. ap (λ (z : ℕ). mul_mod w (with_top w t) z 1) one
      ∙ one-times w 1 (mul_mod w (with_top w t)) (ring w t context.wide context.narrow context.tail_below) 1 (pow_below 0 w context.wide)),
)
