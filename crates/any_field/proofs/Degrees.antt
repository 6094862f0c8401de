-- Degrees of polynomials, and common divisors as sums of multiples.
use Rattle.std.proofs.Common.{◌≡◌, ◌≢◌, ◌⊎◌, inl, inr, ℕ, zero, suc, ◌+◌, ◌*◌, ◌/◌, ◌%◌, ◌^◌, ◌≤◌, ◌<◌, refl, sym, ◌∙◌, ap, ap₂, subst, arith, lit<}
use Rattle.std.specs.Prelude.{bit_xor}
use Rattle.std.proofs.lemmas.Nat.{xor_shr, pow_pos, xor_comm}
use Rattle.std.proofs.Math.Pow.{pow_mono}
use native.Mathlib.Nat.{zero-mul, one-mul, div-eq_of_lt, pow-suc, le_refl, pow-le-pow_right, lt_of_lt_of_le, div-lt_iff_lt-mul, le-div_iff_mul-le, eq-zero-or-pos}
use lib.Arith.{bin_ind}
use lib.Bits.{xor_self, xor_zero_r}
use Rattle.field_base.specs.Carryless.{carryless}
use Rattle.field_base.specs.Remainder.{HasDegree, rem}
use Rattle.field_base.proofs.CarrylessProduct.{bit_cases, carryless_step, zero_carryless, one_carryless, carryless_sum, sum_carryless, carryless_assoc}
use Rattle.field_base.proofs.RemainderLaws.{rem_is_remainder}
use Rattle.field_base.proofs.RingLemmas.{xor_exchange}

-- ---- degrees

-- what has the quotient 1 by d is d or more, and less than twice as much
pub between : (d n : ℕ) → 0 < d → n / d ≡ 1 → (d ≤ n) × (n < 2 * d)
between d n some one = (
  subst (λ (z : ℕ). z ≤ n) (one-mul d) ((le-div_iff_mul-le some).0 (omega (arith, one))),
  (div-lt_iff_lt-mul some).0 (omega (arith, one)),
)

-- and the other way round
pub quotient_one : (d n : ℕ) → 0 < d → d ≤ n → n < 2 * d → n / d ≡ 1
quotient_one d n some least most =
    let low : 1 ≤ n / d = (le-div_iff_mul-le some).1 (subst (λ (z : ℕ). z ≤ n) (sym (one-mul d)) least) in
    let high : n / d < 2 = (div-lt_iff_lt-mul some).1 most in
    omega arith

-- a polynomial of degree w is 2^w or more, and below 2^(w + 1)
pub degree-least : (w n : ℕ) → HasDegree w n → 2 ^ w ≤ n
degree-least w n degree = (between (2 ^ w) n (pow_pos w) degree).0

pub degree-most : (w n : ℕ) → HasDegree w n → n < 2 ^ suc w
degree-most w n degree = let most : n < 2 * 2 ^ w = (between (2 ^ w) n (pow_pos w) degree).1 in omega (arith, pow-suc 2 w)

pub degree-nonzero : (w n : ℕ) → HasDegree w n → n ≢ 0
degree-nonzero w n degree none = absurd (omega (arith, degree-least w n degree, pow_pos w))

pub degree-of : (w n : ℕ) → 2 ^ w ≤ n → n < 2 ^ suc w → HasDegree w n
degree-of w n least most = quotient_one (2 ^ w) n (pow_pos w) least (omega (arith, pow-suc 2 w))

-- half of a polynomial has a degree less by one
pub degree-half : (w n : ℕ) → HasDegree (suc w) n → HasDegree w (n / 2)
degree-half w n degree =
    let least : 2 ^ suc w ≤ n = degree-least (suc w) n degree in
    let most : n < 2 ^ suc (suc w) = degree-most (suc w) n degree in
    degree-of w (n / 2) (omega (arith, pow-suc 2 w)) (omega (arith, pow-suc 2 (suc w)))

pub degree-double : (w n : ℕ) → HasDegree w (n / 2) → HasDegree (suc w) n
degree-double w n degree =
    let least : 2 ^ w ≤ n / 2 = degree-least w (n / 2) degree in
    let most : n / 2 < 2 ^ suc w = degree-most w (n / 2) degree in
    degree-of (suc w) n (omega (arith, pow-suc 2 w)) (omega (arith, pow-suc 2 (suc w)))

-- the polynomial of degree 0 is 1
pub degree-zero : (n : ℕ) → HasDegree 0 n → n ≡ 1
degree-zero n degree =
    let least : 1 ≤ n = degree-least 0 n degree in
    let most : n < 2 = degree-most 0 n degree in
    omega arith

-- a polynomial other than 0 has a degree
pub degree-some : (n : ℕ) → n ≢ 0 → (w : ℕ) × HasDegree w n
degree-some =
    bin_ind (λ (n : ℕ). n ≢ 0 → (w : ℕ) × HasDegree w n) (λ nonzero. absurd (nonzero refl))
    (λ n ih nonzero. cases n ih nonzero (eq-zero-or-pos (n / 2)))
  where
    cases : (n : ℕ) → (n / 2 ≢ 0 → (w : ℕ) × HasDegree w (n / 2)) → n ≢ 0 → (n / 2 ≡ 0) ⊎ (0 < n / 2) → (w : ℕ) × HasDegree w n
    cases n ih nonzero (inl none) =
        let one : n ≡ 1 = omega (arith, nonzero) in (0, ap (λ (z : ℕ). z / 2 ^ 0) one)
    cases n ih nonzero (inr some) =
        let half = ih (λ e. absurd (omega (arith, e))) in (suc half.0, degree-double half.0 n half.1)

-- degrees add
pub degree-product : (m n q f : ℕ) → HasDegree m q → HasDegree n f → HasDegree (m + n) (carryless q f)
degree-product zero n q f left right =
    let none : 0 + n ≡ n = omega arith in
    subst (λ (z : ℕ). HasDegree z (carryless q f)) (sym none)
    (subst (λ (z : ℕ). HasDegree n (carryless z f)) (sym (degree-zero q left))
    (subst (λ (z : ℕ). HasDegree n z) (sym (one_carryless f)) right))
degree-product (suc m) n q f left right =
    let next : suc m + n ≡ suc (m + n) = omega arith in
    let inner : HasDegree (m + n) (carryless (q / 2) f) = degree-product m n (q / 2) f (degree-half m q left) right in
    let low : f < 2 ^ suc (m + n) = lt_of_lt_of_le (degree-most n f right) (pow-le-pow_right (lit< tt) (omega arith)) in
    subst (λ (z : ℕ). HasDegree z (carryless q f)) (sym next)
    (ap (λ (z : ℕ). z / 2 ^ suc (m + n)) (carryless_step q f)
    ∙ xor_shr (q % 2 * f) (carryless (q / 2) f * 2) (suc (m + n))
    ∙ ap₂ bit_xor (div-eq_of_lt (bit_times q f (suc (m + n)) low)) (doubled (m + n) (carryless (q / 2) f) inner))
  where
    bit_times : (d b k : ℕ) → b < 2 ^ k → d % 2 * b < 2 ^ k
    bit_times d b k fits = bit_cases (λ x. x * b < 2 ^ k) (rw zero-mul (pow_pos k)) (rw one-mul fits) d

    doubled : (k x : ℕ) → HasDegree k x → HasDegree (suc k) (x * 2)
    doubled k x degree =
        let half : x * 2 / 2 ≡ x = omega arith in
        degree-double k (x * 2) (subst (λ (z : ℕ). HasDegree k z) (sym half) degree)

-- there is but one degree
pub degree-unique : (v w n : ℕ) → HasDegree v n → HasDegree w n → v ≡ w
degree-unique v w n first second = apart v w (degree-least v n first) (degree-most w n second) (degree-least w n second) (degree-most v n first)
  where
    below : (v w : ℕ) → 2 ^ v ≤ n → n < 2 ^ suc w → v ≤ w
    below v w least most = grind (arith, pow_mono {i = suc w} {j = v})

    apart : (v w : ℕ) → 2 ^ v ≤ n → n < 2 ^ suc w → 2 ^ w ≤ n → n < 2 ^ suc v → v ≡ w
    apart v w a b c d = omega (arith, below v w a b, below w v c d)

-- ---- common divisors

-- g divides a and b, and is a sum of multiples of them
pub record IsCommon (a b g : ℕ) : Type 0 where
  pub of_left : ℕ
  pub left : carryless of_left g ≡ a
  pub of_right : ℕ
  pub right : carryless of_right g ≡ b
  pub u : ℕ
  pub v : ℕ
  pub sum : bit_xor (carryless u a) (carryless v b) ≡ g

-- every two polynomials have such a divisor, by divisions with remainder
base : (a b : ℕ) → b ≡ 0 → (g : ℕ) × IsCommon a b g
base a b none = (
  a,
  record {
    of_left = 1;
    left = one_carryless a;
    of_right = 0;
    right = zero_carryless a ∙ sym none;
    u = 1;
    v = 0;
    sum = ap₂ bit_xor (one_carryless a) (zero_carryless b) ∙ xor_zero_r a;
  },
)

-- a = q b + r
step : (a b g q r : ℕ) → a ≡ bit_xor (carryless q b) r → IsCommon b r g → IsCommon a b g
step a b g q r parts common = record {
  of_left = bit_xor (carryless q common.of_left) common.of_right;
  left =
      sum_carryless (carryless q common.of_left) common.of_right g
      ∙ ap₂ bit_xor (carryless_assoc q common.of_left g ∙ ap (carryless q) common.left) common.right ∙ sym parts;
  of_right = common.of_left;
  right = common.left;
  u = common.v;
  v = bit_xor common.u (carryless common.v q);
  sum =
      ap₂ bit_xor (ap (carryless common.v) parts ∙ carryless_sum common.v (carryless q b) r)
      (sum_carryless common.u (carryless common.v q) b ∙ ap (bit_xor (carryless common.u b)) (carryless_assoc common.v q b))
      ∙ rest (carryless common.v (carryless q b)) (carryless common.v r) (carryless common.u b) ∙ common.sum;
}
  where
    rest : (x y z : ℕ) → bit_xor (bit_xor x y) (bit_xor z x) ≡ bit_xor z y
    rest x y z =
        ap (λ (w : ℕ). bit_xor w (bit_xor z x)) (xor_comm x y) ∙ xor_exchange y x z x ∙ ap (bit_xor (bit_xor y z)) (xor_self x)
        ∙ xor_zero_r (bit_xor y z) ∙ xor_comm y z

common_in : (fuel a b : ℕ) → b ≤ fuel → (g : ℕ) × IsCommon a b g
common_in zero a b fits = base a b (omega arith)
common_in (suc fuel) a b fits =
    elim (eq-zero-or-pos b) [
      | inl none ↦ base a b none
      | inr some ↦
          let degree = degree-some b (λ e. absurd (omega (arith, e))) in
          let is = rem_is_remainder degree.0 b a degree.1 in
          let inner = common_in fuel b (rem degree.0 b a) (less degree.0 b (rem degree.0 b a) fuel (degree-least degree.0 b degree.1) is.below fits) in
          (inner.0, step a b inner.0 is.quotient (rem degree.0 b a) is.parts inner.1)
    ]
  where
    less : (w b r fuel : ℕ) → 2 ^ w ≤ b → r < 2 ^ w → b ≤ suc fuel → r ≤ fuel
    less w b r fuel least below fits = omega arith

pub common : (a b : ℕ) → (g : ℕ) × IsCommon a b g
common a b = common_in b a b (le_refl b)
