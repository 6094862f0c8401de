-- Powers and repeated squarings in a ring of numbers: exponents add and multiply, a square of a sum is the sum of the
-- squares, and so repeated squarings and sums of them are additive.
use Rattle.std.proofs.Common.{◌≡◌, ℕ, zero, suc, ◌+◌, ◌*◌, ◌/◌, ◌%◌, ◌^◌, ◌<◌, refl, sym, ◌∙◌, ap, ap₂, arith}
use Rattle.std.specs.Prelude.{bit_xor}
use Rattle.std.proofs.lemmas.Nat.{div-add-mod'}
use native.Mathlib.Nat.{mod-eq_of_lt, mul-suc, mul-zero, pow-suc, zero-mul, zero-add, suc-mul}
use native.Mathlib.Numerals.{add-one}
use lib.Bits.{xor_assoc, xor_self, xor_zero_r}
use Rattle.field_base.specs.Ring.{IsRing}
use Rattle.field_base.specs.Powers.{power, repeated_square, sum_of_squarings}
use Rattle.field_base.proofs.RingLemmas.{xor_left_comm, xor_cancel, sum_times, times_left_comm, times-mod, mod-times}

module _ (width unit : ℕ) (times : ℕ → ℕ → ℕ) (ring : IsRing width unit times) where
  -- 1 a = a
  pub one-times : (a : ℕ) → a < 2 ^ width → times unit a ≡ a
  one-times a low = ring.one a ∙ mod-eq_of_lt low

  -- a 1 = a
  pub times-one : (a : ℕ) → a < 2 ^ width → times a unit ≡ a
  times-one a low = ring.comm a unit ∙ one-times a low

  -- the square of a sum is the sum of the squares
  pub square_xor : (a b : ℕ) → times (bit_xor a b) (bit_xor a b) ≡ bit_xor (times a a) (times b b)
  square_xor a b =
      sum_times width unit times ring a b (bit_xor a b)
      ∙ ap₂ bit_xor (ring.over_sum a a b) (ring.over_sum b a b ∙ ap (λ (x : ℕ). bit_xor x (times b b)) (ring.comm b a))
      ∙ xor_assoc (times a a) (times a b) (bit_xor (times a b) (times b b))
      ∙ ap (bit_xor (times a a)) (xor_cancel (times a b) (times b b))

  -- the square of a product is the product of the squares
  pub square_times : (a b : ℕ) → times (times a b) (times a b) ≡ times (times a a) (times b b)
  square_times a b = simp (ring.assoc, times_left_comm width unit times ring)

  -- ---- repeated squarings

  -- a repeated square is an element
  pub repeated_square-lt : (n a : ℕ) → repeated_square unit times n a < 2 ^ width
  unfolding repeated_square
  repeated_square-lt zero a = ring.below unit a
  repeated_square-lt (suc n) a = ring.below (repeated_square unit times n a) (repeated_square unit times n a)

  -- it depends only on the low bits of a
  pub repeated_square-mod : (n a : ℕ) → repeated_square unit times n (a % 2 ^ width) ≡ repeated_square unit times n a
  unfolding repeated_square
  repeated_square-mod zero a = times-mod width unit times ring unit a
  repeated_square-mod (suc n) a = ap (λ (x : ℕ). times x x) (repeated_square-mod n a)

  -- n squarings of a sum are the sum of those of its terms
  pub repeated_square_xor : (n a b : ℕ) → repeated_square unit times n (bit_xor a b) ≡ bit_xor (repeated_square unit times n a) (repeated_square unit times n b)
  unfolding repeated_square
  repeated_square_xor zero a b = ring.over_sum unit a b
  repeated_square_xor (suc n) a b =
      ap (λ (x : ℕ). times x x) (repeated_square_xor n a b) ∙ square_xor (repeated_square unit times n a) (repeated_square unit times n b)

  -- n squarings of a product are the product of those of its factors
  pub repeated_square_times : (n a b : ℕ) → repeated_square unit times n (times a b) ≡ times (repeated_square unit times n a) (repeated_square unit times n b)
  unfolding repeated_square
  repeated_square_times zero a b =
      one-times (times a b) (ring.below a b)
      ∙ sym (ap₂ times (ring.one a) (ring.one b) ∙ mod-times width unit times ring a (b % 2 ^ width)
      ∙ times-mod width unit times ring a b)
  repeated_square_times (suc n) a b =
      ap (λ (x : ℕ). times x x) (repeated_square_times n a b) ∙ square_times (repeated_square unit times n a) (repeated_square unit times n b)

  -- no squaring leaves an element as it is, and one more squares it once more
  pub repeated_square-none : (a : ℕ) → a < 2 ^ width → repeated_square unit times 0 a ≡ a
  unfolding repeated_square
  repeated_square-none a low = one-times a low

  -- one squaring more is the square
  pub repeated_square_more : (n a : ℕ) → repeated_square unit times (n + 1) a ≡ times (repeated_square unit times n a) (repeated_square unit times n a)
  unfolding repeated_square
  repeated_square_more n a = ap (λ (k : ℕ). repeated_square unit times k a) (add-one n)

  -- the first squaring instead of the last
  pub repeated_square_square : (n a : ℕ) → repeated_square unit times n (times a a) ≡ repeated_square unit times (suc n) a
  unfolding repeated_square
  repeated_square_square n a = repeated_square_times n a a

  -- m + n squarings are n squarings and then m
  pub repeated_square-add : (m n a : ℕ) → repeated_square unit times (m + n) a ≡ repeated_square unit times m (repeated_square unit times n a)
  unfolding repeated_square
  repeated_square-add zero n a =
      let none : 0 + n ≡ n = omega arith in
      ap (λ (x : ℕ). repeated_square unit times x a) none ∙ sym (one-times (repeated_square unit times n a) (repeated_square-lt n a))
  repeated_square-add (suc m) n a =
      let next : suc m + n ≡ suc (m + n) = omega arith in
      ap (λ (x : ℕ). repeated_square unit times x a) next ∙ ap (λ (x : ℕ). times x x) (repeated_square-add m n a)

  -- where as many squarings as `round` return each element, a count of squarings counts modulo `round`
  module _ (round : ℕ) (returns : (a : ℕ) → repeated_square unit times round a ≡ a % 2 ^ width) where
    whole_rounds : (m n a : ℕ) → repeated_square unit times (m * round + n) a ≡ repeated_square unit times n a
    whole_rounds zero n a = ap (λ (x : ℕ). repeated_square unit times x a) (ap (λ (x : ℕ). x + n) (zero-mul round) ∙ zero-add n)
    whole_rounds (suc m) n a =
        let next : suc m * round + n ≡ m * round + n + round = omega (arith, suc-mul m round) in
        ap (λ (x : ℕ). repeated_square unit times x a) next ∙ repeated_square-add (m * round + n) round a
        ∙ ap (repeated_square unit times (m * round + n)) (returns a) ∙ repeated_square-mod (m * round + n) a ∙ whole_rounds m n a

    pub repeated_square-mod_round : (n a : ℕ) → repeated_square unit times (n % round) a ≡ repeated_square unit times n a
    repeated_square-mod_round n a =
        sym (whole_rounds (n / round) (n % round) a) ∙ ap (λ (x : ℕ). repeated_square unit times x a) (div-add-mod' n round)

  -- ---- sums of repeated squarings

  -- it depends only on the low bits of a
  pub sum_of_squarings-mod : (n a : ℕ) → sum_of_squarings unit times n (a % 2 ^ width) ≡ sum_of_squarings unit times n a
  unfolding sum_of_squarings
  sum_of_squarings-mod zero a = refl
  sum_of_squarings-mod (suc n) a = ap₂ bit_xor (sum_of_squarings-mod n a) (repeated_square-mod n a)

  -- the sum of squarings of a sum is the sum of those of its terms
  pub sum_of_squarings_xor : (n a b : ℕ) → sum_of_squarings unit times n (bit_xor a b)
      ≡ bit_xor (sum_of_squarings unit times n a) (sum_of_squarings unit times n b)
  unfolding sum_of_squarings
  sum_of_squarings_xor zero a b = refl
  sum_of_squarings_xor (suc n) a b =
      ap₂ bit_xor (sum_of_squarings_xor n a b) (repeated_square_xor n a b) ∙ simp (xor_assoc, xor_left_comm)

  -- a sum that telescopes, by one term more
  telescoped : (sum first last next : ℕ) → bit_xor (bit_xor sum (bit_xor first last)) next
      ≡ bit_xor (bit_xor sum last) (bit_xor first next)
  telescoped sum first last next = simp (xor_assoc, xor_left_comm)

  -- the sum for a square differs from that for the element in the last square and the first
  pub sum_of_squarings-telescope : (n a : ℕ) → sum_of_squarings unit times n (times a a)
      ≡ bit_xor (sum_of_squarings unit times n a) (bit_xor (times unit a) (repeated_square unit times n a))
  unfolding repeated_square sum_of_squarings
  sum_of_squarings-telescope zero a = sym (xor_self (times unit a))
  sum_of_squarings-telescope (suc n) a =
      ap₂ bit_xor (sum_of_squarings-telescope n a) (repeated_square_times n a a)
      ∙ telescoped (sum_of_squarings unit times n a) (times unit a) (repeated_square unit times n a) _

  -- the first m + n squarings are the first n, and the first m of the n-th
  pub sum_of_squarings-add : (m n a : ℕ) → sum_of_squarings unit times (m + n) a
      ≡ bit_xor (sum_of_squarings unit times n a) (sum_of_squarings unit times m (repeated_square unit times n a))
  unfolding sum_of_squarings
  sum_of_squarings-add zero n a =
      let none : 0 + n ≡ n = omega arith in
      ap (λ (x : ℕ). sum_of_squarings unit times x a) none ∙ sym (xor_zero_r (sum_of_squarings unit times n a))
  sum_of_squarings-add (suc m) n a =
      let next : suc m + n ≡ suc (m + n) = omega arith in
      ap (λ (x : ℕ). sum_of_squarings unit times x a) next
      ∙ ap₂ bit_xor (sum_of_squarings-add m n a) (repeated_square-add m n a)
      ∙ xor_assoc (sum_of_squarings unit times n a) (sum_of_squarings unit times m (repeated_square unit times n a))
      (repeated_square unit times m (repeated_square unit times n a))

  -- ---- powers

  module _ (fits : unit < 2 ^ width) where
    pub power-lt : (a n : ℕ) → power unit times a n < 2 ^ width
    unfolding power
    power-lt a zero = fits
    power-lt a (suc n) = ring.below (power unit times a n) a

    -- the element of one factor, and of two
    pub power-one : (a : ℕ) → power unit times a 1 ≡ a % 2 ^ width
    unfolding power
    power-one a = ring.one a

    pub power-two : (a : ℕ) → power unit times a 2 ≡ times a a
    unfolding power
    power-two a = ap (λ (x : ℕ). times x a) (ring.one a) ∙ mod-times width unit times ring a a

    -- a ^ (m + n) is a ^ m times a ^ n
    pub power-add : (a m n : ℕ) → power unit times a (m + n) ≡ times (power unit times a m) (power unit times a n)
    unfolding power
    power-add a m zero =
        ap (power unit times a) (omega arith) ∙ sym (times-one (power unit times a m) (power-lt a m))
    power-add a m (suc n) =
        let next : m + suc n ≡ suc (m + n) = omega arith in
        ap (power unit times a) next ∙ ap (λ (x : ℕ). times x a) (power-add a m n)
        ∙ ring.assoc (power unit times a m) (power unit times a n) a

    -- a ^ (m n) is (a ^ m) ^ n
    pub power-mul : (a m n : ℕ) → power unit times a (m * n) ≡ power unit times (power unit times a m) n
    unfolding power
    power-mul a m zero = ap (power unit times a) (mul-zero m)
    power-mul a m (suc n) =
        ap (power unit times a) (mul-suc m n) ∙ power-add a (m * n) m
        ∙ ap (λ (x : ℕ). times x (power unit times a m)) (power-mul a m n)

    -- ---- raising by squaring and multiplying, from the exponent's lowest bit

    -- an even power is a power of the square
    pub power-even : (a n : ℕ) → power unit times a (2 * n) ≡ power unit times (times a a) n
    power-even a n = power-mul a 2 n ∙ ap (λ (x : ℕ). power unit times x n) (power-two a)

    pub power-odd : (a n : ℕ) → power unit times a (2 * n + 1) ≡ times a (power unit times (times a a) n)
    power-odd a n =
        power-add a (2 * n) 1 ∙ ap₂ times (power-even a n) (power-one a)
        ∙ times-mod width unit times ring (power unit times (times a a) n) a
        ∙ ring.comm (power unit times (times a a) n) a

    -- before the first step, what is there is the one
    pub power_start : (one a n : ℕ) → one ≡ unit → times one (power unit times a n) ≡ power unit times a n
    power_start one a n is_one =
        ap (λ (x : ℕ). times x (power unit times a n)) is_one
        ∙ one-times (power unit times a n) (power-lt a n)

    -- where the exponent is odd, one factor goes over to what is there
    pub power_step : (value a n : ℕ) → n % 2 ≡ 1
        → times (times value a) (power unit times (times a a) (n / 2)) ≡ times value (power unit times a n)
    power_step value a n odd =
        let whole : 2 * (n / 2) + 1 ≡ n = omega arith in
        ring.assoc value a (power unit times (times a a) (n / 2))
        ∙ ap (times value) (sym (power-odd a (n / 2)) ∙ ap (power unit times a) whole)

    pub power_skip : (a n : ℕ) → n % 2 ≡ 0 → power unit times (times a a) (n / 2) ≡ power unit times a n
    power_skip a n even =
        let whole : 2 * (n / 2) ≡ n = omega arith in
        sym (power-even a (n / 2)) ∙ ap (power unit times a) whole

    -- after the last step, it is all
    pub power_end : (value a n : ℕ) → value < 2 ^ width → n ≡ 0 → times value (power unit times a n) ≡ value
    unfolding power
    power_end value a n low done =
        ap (λ (k : ℕ). times value (power unit times a k)) done ∙ times-one value low

    -- n squarings raise to the power 2 ^ n
    pub repeated_square-power : (n a : ℕ) → repeated_square unit times n a ≡ power unit times a (2 ^ n)
    unfolding repeated_square
    repeated_square-power zero a = ring.one a ∙ sym (power-one a)
    repeated_square-power (suc n) a =
        ap (λ (x : ℕ). times x x) (repeated_square-power n a) ∙ sym (power-add a (2 ^ n) (2 ^ n))
        ∙ ap (power unit times a) (sym (pow-suc 2 n ∙ omega arith))
