-- The carryless product of binary polynomials: its step over a bit of the left operand, and that it is the product of a
-- commutative ring.
use Rattle.std.proofs.Common.{◌≡◌, ℕ, zero, suc, ◌+◌, ◌*◌, ◌/◌, ◌%◌, ◌^◌, ◌≤◌, ◌<◌, refl, sym, ◌∙◌, ap, ap₂, subst, arith, lit<}
use Rattle.std.specs.Prelude.{bit_xor}
use Rattle.std.proofs.lemmas.Nat.{xor_comm, xor_lt, xor_shr, xor_mod, xor_block, pow_pos}
use native.Mathlib.Nat.{mod-lt, zero-mul, one-mul, mul-one, add-zero, mul_assoc, mul-mod_left, mul-div_cancel, div-add-mod', pow-suc, le_refl, not-suc-le-zero, suc-add, lt_of_lt_of_le, pow-le-pow_right, le-add_left}
use lib.Arith.{bin_ind, half_le, lt-one}
use lib.Bits.{xor_self, xor_zero_r, xor_shifted}
use native.Mathlib.Decide.{le_ind}
use Rattle.field_base.specs.Carryless.{carryless_in, carryless, CarrylessIsProduct}
use Rattle.field_base.proofs.RingLemmas.{xor_exchange}
use Rattle.field_base.specs.lemmas.BitRing.{two_cases}

-- ---- sums

-- a shift by k places keeps sums
pub xor_shl : (k a b : ℕ) → bit_xor (a * 2 ^ k) (b * 2 ^ k) ≡ bit_xor a b * 2 ^ k
xor_shl k a b =
    ap₂ bit_xor (sym (add-zero (a * 2 ^ k))) (sym (add-zero (b * 2 ^ k)))
    ∙ xor_block k a b 0 0 (pow_pos k) (pow_pos k) ∙ add-zero (bit_xor a b * 2 ^ k)

-- a shift by one place keeps sums
pub xor_double : (a b : ℕ) → bit_xor (a * 2) (b * 2) ≡ bit_xor a b * 2
xor_double = xor_shl 1

-- a shift down by one place keeps sums
pub xor_half : (a b : ℕ) → bit_xor a b / 2 ≡ bit_xor (a / 2) (b / 2)
xor_half a b = xor_shr a b 1

-- the lowest bit of a sum is the sum of the lowest bits
pub xor_odd : (a b : ℕ) → bit_xor a b % 2 ≡ bit_xor (a % 2) (b % 2)
xor_odd a b = xor_mod a b 1

-- a number is its lowest bit and the others
pub xor_split : (a : ℕ) → bit_xor (a % 2) (a / 2 * 2) ≡ a
xor_split a = xor_comm (a % 2) (a / 2 * 2) ∙ xor_shifted (a / 2) 1 (a % 2) (bit_lt a) ∙ div-add-mod' a 2
  where
    bit_lt : (n : ℕ) → n % 2 < 2
    bit_lt n = mod-lt n (lit< tt)

-- a fact of a product by a bit holds if it does of the product by 0 and by 1
pub bit_cases : (P : ℕ → Type 0) → P 0 → P 1 → (a : ℕ) → P (a % 2)
bit_cases P none one a = two_cases P none one (a % 2) (mod-lt a (lit< tt))

-- ---- the step

-- fuel that suffices may grow by one
more : (fuel a b : ℕ) → a ≤ fuel → carryless_in (suc fuel) a b ≡ carryless_in fuel a b
unfolding carryless_in
more zero zero b fits = refl
more zero (suc a) b fits = absurd (not-suc-le-zero fits)
more (suc fuel) zero b fits = refl
more (suc fuel) (suc a) b fits =
    ap (λ (x : ℕ). bit_xor (suc a % 2 * b) (x * 2)) (more fuel (suc a / 2) b (half_le fits))

-- the product with enough fuel is the product
enough : (fuel a b : ℕ) → a ≤ fuel → carryless_in fuel a b ≡ carryless a b
unfolding carryless
enough fuel a b fits =
    le_ind (λ (m : ℕ). carryless_in m a b ≡ carryless_in a a b) refl (λ m k e. more m a b k ∙ e) fuel fits

-- 0 b = 0
pub zero_carryless : (b : ℕ) → carryless 0 b ≡ 0
unfolding carryless carryless_in
zero_carryless b = refl

-- the lowest bit of the left operand, and the others
pub carryless_step : (a b : ℕ) → carryless a b ≡ bit_xor (a % 2 * b) (carryless (a / 2) b * 2)
unfolding carryless carryless_in
carryless_step zero b = sym (ap (λ (x : ℕ). bit_xor x 0) (zero-mul b))
carryless_step (suc a) b =
    ap (λ (x : ℕ). bit_xor (suc a % 2 * b) (x * 2)) (enough a (suc a / 2) b (half_le (le_refl (suc a))))

-- ---- products of sums

-- a bit times a sum is the sum of its products
bit_times_sum : (d b c : ℕ) → d % 2 * bit_xor b c ≡ bit_xor (d % 2 * b) (d % 2 * c)
bit_times_sum d b c =
    bit_cases (λ x. x * bit_xor b c ≡ bit_xor (x * b) (x * c)) (simp zero-mul) (simp one-mul) d

-- the sum of two bits times c is the sum of the products
sum_times_bit : (d e c : ℕ) → bit_xor (d % 2) (e % 2) * c ≡ bit_xor (d % 2 * c) (e % 2 * c)
sum_times_bit d e c =
    bit_cases (λ x. bit_xor x (e % 2) * c ≡ bit_xor (x * c) (e % 2 * c)) (simp zero-mul)
    (bit_cases (λ y. bit_xor 1 y * c ≡ bit_xor (1 * c) (y * c)) (simp (zero-mul, one-mul, xor_zero_r))
    (simp (zero-mul, one-mul, xor_self)) e) d

-- a (b + c) = a b + a c
pub carryless_sum : (a b c : ℕ) → carryless a (bit_xor b c) ≡ bit_xor (carryless a b) (carryless a c)
carryless_sum a b c =
    bin_ind (λ (n : ℕ). carryless n (bit_xor b c) ≡ bit_xor (carryless n b) (carryless n c)) (simp zero_carryless)
    (λ n ih. carryless_step n (bit_xor b c)
    ∙ ap₂ (λ (x y : ℕ). bit_xor x (y * 2)) (bit_times_sum n b c) ih
    ∙ ap (bit_xor (bit_xor (n % 2 * b) (n % 2 * c))) (sym (xor_double (carryless (n / 2) b) (carryless (n / 2) c)))
    ∙ xor_exchange (n % 2 * b) (n % 2 * c) (carryless (n / 2) b * 2) (carryless (n / 2) c * 2)
    ∙ sym (ap₂ bit_xor (carryless_step n b) (carryless_step n c))) a

-- (a + b) c = a c + b c
pub sum_carryless : (a b c : ℕ) → carryless (bit_xor a b) c ≡ bit_xor (carryless a c) (carryless b c)
sum_carryless a b c =
    bin_ind (λ (n : ℕ). (m : ℕ) → carryless (bit_xor n m) c ≡ bit_xor (carryless n c) (carryless m c)) (λ m. simp zero_carryless)
    (λ n ih m. carryless_step (bit_xor n m) c
    ∙ ap₂ (λ (x y : ℕ). bit_xor x (y * 2))
    (ap (λ (x : ℕ). x * c) (xor_odd n m) ∙ sum_times_bit n m c)
    (ap (λ (x : ℕ). carryless x c) (xor_half n m) ∙ ih (m / 2))
    ∙ ap (bit_xor (bit_xor (n % 2 * c) (m % 2 * c))) (sym (xor_double (carryless (n / 2) c) (carryless (m / 2) c)))
    ∙ xor_exchange (n % 2 * c) (m % 2 * c) (carryless (n / 2) c * 2) (carryless (m / 2) c * 2)
    ∙ sym (ap₂ bit_xor (carryless_step n c) (carryless_step m c))) a b

-- ---- zero and one

-- a 0 = 0
pub carryless_zero : (a : ℕ) → carryless a 0 ≡ 0
carryless_zero a = carryless_sum a 0 0 ∙ xor_self (carryless a 0)

-- 1 b = b
pub one_carryless : (b : ℕ) → carryless 1 b ≡ b
one_carryless b = carryless_step 1 b ∙ ap₂ (λ (x y : ℕ). bit_xor x (y * 2)) (one-mul b) (zero_carryless b) ∙ xor_zero_r b

-- a 1 = a
pub carryless_one : (a : ℕ) → carryless a 1 ≡ a
carryless_one =
    bin_ind (λ (n : ℕ). carryless n 1 ≡ n) (zero_carryless 1)
    (λ n ih. carryless_step n 1 ∙ ap₂ (λ (x y : ℕ). bit_xor x (y * 2)) (mul-one (n % 2)) ih ∙ xor_split n)

-- the product by a bit
pub bit_carryless : (a b : ℕ) → carryless (a % 2) b ≡ a % 2 * b
bit_carryless a b =
    bit_cases (λ x. carryless x b ≡ x * b) (zero_carryless b ∙ sym (zero-mul b)) (one_carryless b ∙ sym (one-mul b)) a

-- the product by a bit
pub carryless_bit : (a b : ℕ) → carryless a (b % 2) ≡ b % 2 * a
carryless_bit a b =
    bit_cases (λ x. carryless a x ≡ x * a) (carryless_zero a ∙ sym (zero-mul a)) (carryless_one a ∙ sym (one-mul a)) b

-- ---- shifts

-- a (b x) = (a b) x
pub carryless_double : (a b : ℕ) → carryless a (b * 2) ≡ carryless a b * 2
carryless_double a b =
    bin_ind (λ (n : ℕ). carryless n (b * 2) ≡ carryless n b * 2) (zero_carryless (b * 2) ∙ sym (ap (λ (x : ℕ). x * 2) (zero_carryless b)))
    (λ n ih. carryless_step n (b * 2)
    ∙ ap₂ (λ (x y : ℕ). bit_xor x (y * 2)) (sym (mul_assoc (n % 2) b 2)) ih
    ∙ xor_double (n % 2 * b) (carryless (n / 2) b * 2)
    ∙ sym (ap (λ (x : ℕ). x * 2) (carryless_step n b))) a

-- (a x) b = (a b) x
pub double_carryless : (a b : ℕ) → carryless (a * 2) b ≡ carryless a b * 2
double_carryless a b =
    carryless_step (a * 2) b
    ∙ ap₂ (λ (x y : ℕ). bit_xor (x * b) (carryless y b * 2)) (mul-mod_left a 2) (mul-div_cancel a (lit< tt))
    ∙ ap (λ (x : ℕ). bit_xor x (carryless a b * 2)) (zero-mul b)

-- a (b x^k) = (a b) x^k
pub carryless_shl : (k a b : ℕ) → carryless a (b * 2 ^ k) ≡ carryless a b * 2 ^ k
carryless_shl zero a b = ap (carryless a) (mul-one b) ∙ sym (mul-one (carryless a b))
carryless_shl (suc k) a b =
    ap (carryless a) (shift b) ∙ carryless_double a (b * 2 ^ k) ∙ ap (λ (x : ℕ). x * 2) (carryless_shl k a b) ∙ sym (shift (carryless a b))
  where
    shift : (x : ℕ) → x * 2 ^ suc k ≡ x * 2 ^ k * 2
    shift x = ap (λ (y : ℕ). x * y) (pow-suc 2 k) ∙ sym (mul_assoc x (2 ^ k) 2)

-- ---- the order of the operands

-- a b = b a
pub carryless_comm : (a b : ℕ) → carryless a b ≡ carryless b a
carryless_comm a b =
    bin_ind (λ (n : ℕ). carryless n b ≡ carryless b n) (zero_carryless b ∙ sym (carryless_zero b))
    (λ n ih. carryless_step n b
    ∙ ap₂ (λ (x y : ℕ). bit_xor x y) (sym (carryless_bit b n)) (ap (λ (x : ℕ). x * 2) ih ∙ sym (carryless_double b (n / 2)))
    ∙ sym (carryless_sum b (n % 2) (n / 2 * 2))
    ∙ ap (carryless b) (xor_split n)) a

-- (a x^k) b = (a b) x^k
pub shl_carryless : (k a b : ℕ) → carryless (a * 2 ^ k) b ≡ carryless a b * 2 ^ k
shl_carryless k a b = carryless_comm (a * 2 ^ k) b ∙ carryless_shl k b a ∙ ap (λ (x : ℕ). x * 2 ^ k) (carryless_comm b a)

-- a bit times b, times c, is the bit times the product
bit_times_carryless : (d b c : ℕ) → carryless (d % 2 * b) c ≡ d % 2 * carryless b c
bit_times_carryless d b c =
    bit_cases (λ x. carryless (x * b) c ≡ x * carryless b c)
    (ap (λ (x : ℕ). carryless x c) (zero-mul b) ∙ zero_carryless c ∙ sym (zero-mul (carryless b c)))
    (ap (λ (x : ℕ). carryless x c) (one-mul b) ∙ sym (one-mul (carryless b c))) d

-- (a b) c = a (b c)
pub carryless_assoc : (a b c : ℕ) → carryless (carryless a b) c ≡ carryless a (carryless b c)
carryless_assoc a b c =
    bin_ind (λ (n : ℕ). carryless (carryless n b) c ≡ carryless n (carryless b c))
    (ap (λ (x : ℕ). carryless x c) (zero_carryless b) ∙ zero_carryless c ∙ sym (zero_carryless (carryless b c)))
    (λ n ih. ap (λ (x : ℕ). carryless x c) (carryless_step n b)
    ∙ sum_carryless (n % 2 * b) (carryless (n / 2) b * 2) c
    ∙ ap₂ bit_xor (bit_times_carryless n b c) (double_carryless (carryless (n / 2) b) c ∙ ap (λ (x : ℕ). x * 2) ih)
    ∙ sym (carryless_step n (carryless b c))) a

-- ---- bounds

-- half of a number of m + 1 bits has m bits
half_lt : (a m : ℕ) → a < 2 ^ suc m → a / 2 < 2 ^ m
half_lt a m fits = omega arith

-- twice a number of k bits has k + 1 bits
double_lt : (x k : ℕ) → x < 2 ^ k → x * 2 < 2 ^ suc k
double_lt x k fits = omega arith

-- a bit times a number of n bits has n bits
pub bit_times_lt : (d b n : ℕ) → b < 2 ^ n → d % 2 * b < 2 ^ n
bit_times_lt d b n fits = bit_cases (λ x. x * b < 2 ^ n) (rw zero-mul (pow_pos n)) (rw one-mul fits) d

-- the product of m and n bits has m + n - 1 bits, if m and n are positive
pub carryless_below : (m n a b : ℕ) → a < 2 ^ m → b < 2 ^ n → carryless a b * 2 < 2 ^ (m + n)
carryless_below zero n a b left right =
    subst (λ (x : ℕ). x * 2 < 2 ^ (0 + n)) (sym (ap (λ (x : ℕ). carryless x b) (lt-one left) ∙ zero_carryless b)) (pow_pos (0 + n))
carryless_below (suc m) n a b left right =
    subst (λ (x : ℕ). x < 2 ^ (suc m + n))
    (xor_double (a % 2 * b) (carryless (a / 2) b * 2) ∙ sym (ap (λ (x : ℕ). x * 2) (carryless_step a b)))
    (subst (λ (x : ℕ). bit_xor (a % 2 * b * 2) (carryless (a / 2) b * 2 * 2) < 2 ^ x) (sym (suc-add m n))
    (xor_lt (suc (m + n)) _ _
    (double_lt (a % 2 * b) (m + n)
    (lt_of_lt_of_le (bit_times_lt a b n right) (pow-le-pow_right (lit< tt) (le-add_left n m))))
    (double_lt (carryless (a / 2) b * 2) (m + n) (carryless_below m n (a / 2) b (half_lt a m left) right))))

-- the product of m and n bits has at most m + n bits
pub carryless_lt : (m n a b : ℕ) → a < 2 ^ m → b < 2 ^ n → carryless a b < 2 ^ (m + n)
carryless_lt m n a b left right = let twice : carryless a b * 2 < 2 ^ (m + n) = carryless_below m n a b left right in omega arith

-- ---- the ring

-- the carryless product is commutative and associative, distributes over sums, has the one 1, and adds degrees
pub carryless_is_product : CarrylessIsProduct
carryless_is_product = record { comm = carryless_comm; assoc = carryless_assoc; over_sum = carryless_sum; one = one_carryless; below = carryless_below }
