-- The remainder of a binary polynomial modulo another: that it is one, that there is but one, and what it keeps: sums,
-- multiples of the modulus, and products.
use Rattle.std.proofs.Common.{◌≡◌, ◌⊎◌, inl, inr, ℕ, zero, suc, ◌+◌, ◌*◌, ◌/◌, ◌%◌, ◌^◌, ◌≤◌, ◌<◌, refl, sym, ◌∙◌, ap, ap₂, subst, arith, lit<}
use Rattle.std.specs.Prelude.{bit_xor}
use Rattle.std.proofs.lemmas.Nat.{xor_comm, xor_lt, xor_shr, pow_pos}
use native.Mathlib.Nat.{mod-lt, zero-mul, one-mul, zero-div, mod-eq_of_lt, div-eq_of_lt, le_refl, le_trans, le_of_eq, not-suc-le-zero, eq-zero-or-pos, le-div_iff_mul-le, div-lt_iff_lt-mul, not-le_of_lt, div-add-mod', pow-le-pow_right, le-suc}
use native.Mathlib.Decide.{le_ind}
use lib.Arith.{bin_ind, half_le}
use lib.Bits.{xor_assoc, xor_self, xor_zero_r, xor_shifted}
use Rattle.field_base.specs.Carryless.{carryless}
use Rattle.field_base.specs.Remainder.{HasDegree, reduce_top, rem_in, rem, IsRemainder, RemIsRemainder, RemainderIsUnique}
use Rattle.field_base.proofs.RingLemmas.{xor_left_comm, xor_cancel, xor_nothing, xor_exchange}
use Rattle.field_base.proofs.CarrylessProduct.{xor_double, bit_cases, carryless_step, zero_carryless, one_carryless, bit_carryless, carryless_sum, sum_carryless, double_carryless, carryless_assoc, carryless_comm, bit_times_lt}

-- ---- the step

-- fuel that suffices may grow by one
more : (fuel width modulus p : ℕ) → p ≤ fuel → rem_in (suc fuel) width modulus p ≡ rem_in fuel width modulus p
unfolding rem_in
more zero width modulus zero fits = refl
more zero width modulus (suc p) fits = absurd (not-suc-le-zero fits)
more (suc fuel) width modulus zero fits = refl
more (suc fuel) width modulus (suc p) fits =
    ap (λ (x : ℕ). reduce_top width modulus (x * 2 + suc p % 2)) (more fuel width modulus (suc p / 2) (half_le fits))

-- the remainder with enough fuel is the remainder
enough : (fuel width modulus p : ℕ) → p ≤ fuel → rem_in fuel width modulus p ≡ rem width modulus p
unfolding rem
enough fuel width modulus p fits =
    le_ind (λ (m : ℕ). rem_in m width modulus p ≡ rem_in p width modulus p) refl
    (λ m k e. more m width modulus p k ∙ e) fuel fits

-- the remainder of 0 is 0
rem_zero : (width modulus : ℕ) → rem width modulus 0 ≡ 0
unfolding rem rem_in
rem_zero width modulus = refl

-- the lowest bit enters last
rem_suc : (width modulus p : ℕ) → rem width modulus (suc p)
    ≡ reduce_top width modulus (rem width modulus (suc p / 2) * 2 + suc p % 2)
unfolding rem rem_in
rem_suc width modulus p =
    ap (λ (x : ℕ). reduce_top width modulus (x * 2 + suc p % 2))
    (enough p width modulus (suc p / 2) (half_le (le_refl (suc p))))

-- ---- the remainder is one

-- a number whose bits from k on are 0 has k bits
shr_zero : (x k : ℕ) → x / 2 ^ k ≡ 0 → x < 2 ^ k
shr_zero x k none =
    subst (λ (y : ℕ). x < y) (one-mul (2 ^ k)) ((div-lt_iff_lt-mul (pow_pos k)).0 (le_of_eq (ap suc none)))

-- 2 r + a bit has one bit more than r
double_bit_lt : (r d k : ℕ) → r < 2 ^ k → r * 2 + d % 2 < 2 ^ suc k
double_bit_lt r d k fits = omega arith

-- bit k of a number of k + 1 bits is 0 or 1
top_lt : (p k : ℕ) → p < 2 ^ suc k → p / 2 ^ k < 2
top_lt p k fits = (div-lt_iff_lt-mul (pow_pos k)).1 (subst (λ (x : ℕ). p < x) (pow k) fits)
  where
    pow : (n : ℕ) → 2 ^ suc n ≡ 2 * 2 ^ n
    pow n = omega arith

-- a bit times the modulus has the bit in the place of the degree
bit_times_top : (width modulus d : ℕ) → HasDegree width modulus → d % 2 * modulus / 2 ^ width ≡ d % 2
bit_times_top width modulus d degree =
    bit_cases (λ x. x * modulus / 2 ^ width ≡ x)
    (ap (λ (x : ℕ). x / 2 ^ width) (zero-mul modulus) ∙ zero-div (2 ^ width))
    (ap (λ (x : ℕ). x / 2 ^ width) (one-mul modulus) ∙ degree) d

-- without its top bit a number of width + 1 bits is below 2^width
reduce_top-lt : (width modulus p : ℕ) → HasDegree width modulus → p < 2 ^ suc width
    → reduce_top width modulus p < 2 ^ width
reduce_top-lt width modulus p degree fits =
    shr_zero (reduce_top width modulus p) width
    (xor_shr p (p / 2 ^ width % 2 * modulus) width
    ∙ ap₂ bit_xor (sym (mod-eq_of_lt (top_lt p width fits))) (bit_times_top width modulus (p / 2 ^ width) degree)
    ∙ xor_self (p / 2 ^ width % 2))

-- twice a number and a bit, as a sum
double_bit : (p d : ℕ) → p * 2 + d % 2 ≡ bit_xor (p * 2) (d % 2)
double_bit p d = sym (xor_shifted p 1 (d % 2) (mod-lt d (lit< tt)))

-- a multiple of the modulus and a polynomial, doubled, with a bit more
enter_bit : (modulus q r d : ℕ)
    → bit_xor (carryless q modulus) r * 2 + d % 2 ≡ bit_xor (carryless (q * 2) modulus) (r * 2 + d % 2)
enter_bit modulus q r d =
    double_bit (bit_xor (carryless q modulus) r) d
    ∙ ap (λ (x : ℕ). bit_xor x (d % 2)) (sym (xor_double (carryless q modulus) r))
    ∙ xor_assoc (carryless q modulus * 2) (r * 2) (d % 2)
    ∙ ap₂ bit_xor (sym (double_carryless q modulus)) (sym (double_bit r d))

-- the modulus leaves the polynomial, and enters the multiple
move_top : (width modulus q p : ℕ) → bit_xor (carryless q modulus) p
    ≡ bit_xor (carryless (bit_xor q (p / 2 ^ width % 2)) modulus) (reduce_top width modulus p)
move_top width modulus q p =
    sym (ap (λ (x : ℕ). bit_xor x (reduce_top width modulus p))
    (sum_carryless q (p / 2 ^ width % 2) modulus
    ∙ ap (bit_xor (carryless q modulus)) (bit_carryless (p / 2 ^ width) modulus))
    ∙ moved (carryless q modulus) (p / 2 ^ width % 2 * modulus) p)
  where
    moved : (a b c : ℕ) → bit_xor (bit_xor a b) (bit_xor c b) ≡ bit_xor a c
    moved a b c = xor_exchange a b c b ∙ ap (bit_xor (bit_xor a c)) (xor_self b) ∙ xor_zero_r (bit_xor a c)

-- a remainder of p / 2 gives one of p, by its next bit and one subtraction
rem_is-step : (width modulus p : ℕ) → HasDegree width modulus
    → IsRemainder width modulus (p / 2) (rem width modulus (p / 2)) → IsRemainder width modulus p
    (reduce_top width modulus (rem width modulus (p / 2) * 2 + p % 2))
rem_is-step width modulus p degree half = record {
  below = reduce_top-lt width modulus _ degree (double_bit_lt (rem width modulus (p / 2)) p width half.below);
  quotient = bit_xor (half.quotient * 2) ((rem width modulus (p / 2) * 2 + p % 2) / 2 ^ width % 2);
  parts =
      sym (div-add-mod' p 2) ∙ ap (λ (x : ℕ). x * 2 + p % 2) half.parts
      ∙ enter_bit modulus half.quotient (rem width modulus (p / 2)) p
      ∙ move_top width modulus (half.quotient * 2) (rem width modulus (p / 2) * 2 + p % 2);
}

-- 0 is the remainder of 0
zero_is : (width modulus : ℕ) → IsRemainder width modulus 0 0
zero_is width modulus = record {
  below = pow_pos width;
  quotient = 0;
  parts = sym (ap (λ (x : ℕ). bit_xor x 0) (zero_carryless modulus));
}

-- the step from (p + 1) / 2 to p + 1
rem_is-suc : (width modulus p : ℕ) → HasDegree width modulus
    → IsRemainder width modulus (suc p / 2) (rem width modulus (suc p / 2))
    → IsRemainder width modulus (suc p) (rem width modulus (suc p))
rem_is-suc width modulus p degree half =
    subst (λ (x : ℕ). IsRemainder width modulus (suc p) x) (sym (rem_suc width modulus p))
    (rem_is-step width modulus (suc p) degree half)

-- the remainder of 0 is one
rem_is-zero : (width modulus : ℕ) → IsRemainder width modulus 0 (rem width modulus 0)
rem_is-zero width modulus =
    subst (λ (x : ℕ). IsRemainder width modulus 0 x) (sym (rem_zero width modulus)) (zero_is width modulus)

-- the step from p / 2 to p, for every p
rem_is-cases : (width modulus p : ℕ) → HasDegree width modulus
    → IsRemainder width modulus (p / 2) (rem width modulus (p / 2))
    → IsRemainder width modulus p (rem width modulus p)
rem_is-cases width modulus zero degree half = rem_is-zero width modulus
rem_is-cases width modulus (suc p) degree half = rem_is-suc width modulus p degree half

-- `rem` is a remainder: below 2^width, and congruent
pub rem_is_remainder : RemIsRemainder
rem_is_remainder width modulus p degree =
    bin_ind (λ (n : ℕ). IsRemainder width modulus n (rem width modulus n)) (rem_is-zero width modulus)
    (λ n ih. rem_is-cases width modulus n degree ih) p

-- ---- there is but one

-- a sum with a polynomial of higher degree has its degree
xor_le : (k x y : ℕ) → x < 2 ^ k → 2 ^ k ≤ y → 2 ^ k ≤ bit_xor x y
xor_le k x y below above =
    subst (λ (z : ℕ). z ≤ bit_xor x y) (one-mul (2 ^ k))
    ((le-div_iff_mul-le (pow_pos k)).0
    (subst (λ (z : ℕ). 1 ≤ z)
    (sym (xor_shr x y k ∙ ap (λ (z : ℕ). bit_xor z (y / 2 ^ k)) (div-eq_of_lt below)))
    ((le-div_iff_mul-le (pow_pos k)).1 (subst (λ (z : ℕ). z ≤ y) (sym (one-mul (2 ^ k))) above))))

-- the modulus has the bit of its degree
modulus_le : (width modulus : ℕ) → HasDegree width modulus → 2 ^ width ≤ modulus
modulus_le width modulus degree =
    subst (λ (z : ℕ). z ≤ modulus) (one-mul (2 ^ width))
    ((le-div_iff_mul-le (pow_pos width)).0 (le_of_eq (sym degree)))

-- and no bit above it
modulus_lt : (width modulus : ℕ) → HasDegree width modulus → modulus < 2 ^ suc width
modulus_lt width modulus degree =
    subst (λ (z : ℕ). modulus < z) (pow width) ((div-lt_iff_lt-mul (pow_pos width)).0 (le_of_eq (ap suc degree)))
  where
    pow : (n : ℕ) → 2 * 2 ^ n ≡ 2 ^ suc n
    pow n = omega arith

-- a multiple of the modulus other than zero has at least its degree
multiple_le : (width modulus : ℕ) → HasDegree width modulus → (q : ℕ) → 0 < q → 2 ^ width ≤ carryless q modulus
multiple_le width modulus degree =
    bin_ind (λ (n : ℕ). 0 < n → 2 ^ width ≤ carryless n modulus) (λ some. absurd (not-suc-le-zero some))
    (λ n ih some. cases n ih some (eq-zero-or-pos (n / 2)))
  where
    doubled : (x k : ℕ) → 2 ^ k ≤ x → 2 ^ suc k ≤ x * 2
    doubled x k le = omega arith

    single : (n : ℕ) → 0 < n → n / 2 ≡ 0 → 1 ≡ n
    single n some none = omega arith

    cases : (n : ℕ) → (0 < n / 2 → 2 ^ width ≤ carryless (n / 2) modulus) → 0 < n → (n / 2 ≡ 0) ⊎ (0 < n / 2)
        → 2 ^ width ≤ carryless n modulus
    cases n ih some (inl none) =
        subst (λ (x : ℕ). 2 ^ width ≤ carryless x modulus) (single n some none)
        (subst (λ (x : ℕ). 2 ^ width ≤ x) (sym (one_carryless modulus)) (modulus_le width modulus degree))
    cases n ih some (inr other) =
        subst (λ (x : ℕ). 2 ^ width ≤ x) (sym (carryless_step n modulus))
        (le_trans (pow-le-pow_right (lit< tt) (le-suc width))
        (xor_le (suc width) (n % 2 * modulus) (carryless (n / 2) modulus * 2)
        (bit_times_lt n modulus (suc width) (modulus_lt width modulus degree))
        (doubled (carryless (n / 2) modulus) width (ih other))))

-- a multiple of the modulus of lower degree is zero
small_multiple : (width modulus q : ℕ) → HasDegree width modulus → carryless q modulus < 2 ^ width
    → (q ≡ 0) ⊎ (0 < q) → carryless q modulus ≡ 0
small_multiple width modulus q degree below (inl none) = ap (λ (x : ℕ). carryless x modulus) none ∙ zero_carryless modulus
small_multiple width modulus q degree below (inr some) =
    absurd (not-le_of_lt below (multiple_le width modulus degree q some))

-- two ways to write one polynomial differ by a multiple
pub difference : (a b c d : ℕ) → bit_xor a b ≡ bit_xor c d → bit_xor a c ≡ bit_xor b d
difference a b c d e =
    ap (bit_xor a) (sym (xor_cancel d c) ∙ ap (bit_xor d) (xor_comm d c ∙ sym e))
    ∙ ap (bit_xor a) (xor_left_comm d a b) ∙ xor_cancel a (bit_xor d b) ∙ xor_comm d b

-- a polynomial has at most one remainder
pub remainder_unique : RemainderIsUnique
remainder_unique width modulus p r s degree first second =
    xor_nothing r s (sym apart
    ∙ small_multiple width modulus (bit_xor first.quotient second.quotient) degree
    (subst (λ (x : ℕ). x < 2 ^ width) (sym apart) (xor_lt width r s first.below second.below))
    (eq-zero-or-pos (bit_xor first.quotient second.quotient)))
  where
    apart : carryless (bit_xor first.quotient second.quotient) modulus ≡ bit_xor r s
    apart =
        sum_carryless first.quotient second.quotient modulus
        ∙ difference (carryless first.quotient modulus) r (carryless second.quotient modulus) s (sym first.parts ∙ second.parts)

-- ---- what the remainder keeps

module _ (width modulus : ℕ) (degree : HasDegree width modulus) where
  -- a remainder is below 2^width
  pub rem_lt : (p : ℕ) → rem width modulus p < 2 ^ width
  rem_lt p = (rem_is_remainder width modulus p degree).below

  -- what is a remainder of p is `rem` of p
  pub rem_of : (p r : ℕ) → IsRemainder width modulus p r → rem width modulus p ≡ r
  rem_of p r is = remainder_unique width modulus p (rem width modulus p) r degree (rem_is_remainder width modulus p degree) is

  -- a polynomial of lower degree is its own remainder
  pub rem_small : (p : ℕ) → p < 2 ^ width → rem width modulus p ≡ p
  rem_small p fits =
      rem_of p p record {
        below = fits;
        quotient = 0;
        parts = sym (ap (λ (x : ℕ). bit_xor x p) (zero_carryless modulus));
      }

  -- the remainder of a sum is the sum of the remainders
  pub rem_sum : (a b : ℕ) → rem width modulus (bit_xor a b) ≡ bit_xor (rem width modulus a) (rem width modulus b)
  rem_sum a b =
      sum_of (rem width modulus a) (rem width modulus b) (rem_is_remainder width modulus a degree)
      (rem_is_remainder width modulus b degree)
    where
      sum_of : (r s : ℕ) → IsRemainder width modulus a r → IsRemainder width modulus b s
          → rem width modulus (bit_xor a b) ≡ bit_xor r s
      sum_of r s of_a of_b =
          rem_of (bit_xor a b) (bit_xor r s) record {
            below = xor_lt width r s of_a.below of_b.below;
            quotient = bit_xor of_a.quotient of_b.quotient;
            parts =
                ap₂ bit_xor of_a.parts of_b.parts
                ∙ xor_exchange (carryless of_a.quotient modulus) r (carryless of_b.quotient modulus) s
                ∙ ap (λ (x : ℕ). bit_xor x (bit_xor r s)) (sym (sum_carryless of_a.quotient of_b.quotient modulus));
          }

  -- a multiple of the modulus counts for nothing
  pub rem_multiple : (q p : ℕ) → rem width modulus (bit_xor (carryless q modulus) p) ≡ rem width modulus p
  rem_multiple q p =
      rem_sum (carryless q modulus) p
      ∙ ap (λ (x : ℕ). bit_xor x (rem width modulus p))
      (rem_of (carryless q modulus) 0 record {
        below = pow_pos width;
        quotient = q;
        parts = sym (xor_zero_r (carryless q modulus));
      })

  -- a factor may be replaced by its remainder
  pub rem_carryless : (a b : ℕ) → rem width modulus (carryless a (rem width modulus b)) ≡ rem width modulus (carryless a b)
  rem_carryless a b = factor (rem width modulus b) (rem_is_remainder width modulus b degree)
    where
      factor : (r : ℕ) → IsRemainder width modulus b r
          → rem width modulus (carryless a r) ≡ rem width modulus (carryless a b)
      factor r is =
          sym (ap (λ (x : ℕ). rem width modulus (carryless a x)) is.parts
          ∙ ap (rem width modulus) (carryless_sum a (carryless is.quotient modulus) r
          ∙ ap (λ (x : ℕ). bit_xor x (carryless a r)) (sym (carryless_assoc a is.quotient modulus)))
          ∙ rem_multiple (carryless a is.quotient) (carryless a r))

  -- a factor may be replaced by its remainder
  pub rem_carryless_left : (a b : ℕ) → rem width modulus (carryless (rem width modulus a) b) ≡ rem width modulus (carryless a b)
  rem_carryless_left a b =
      ap (rem width modulus) (carryless_comm (rem width modulus a) b) ∙ rem_carryless b a ∙ ap (rem width modulus) (carryless_comm b a)
