-- The number of a list of lanes: sums and products of lanes are those of the numbers. These lemmas stand here since the packing's
-- implementation of the traits cites them.
use Rattle.std.proofs.Common.{◌≡◌, ◌≢◌, ℕ, zero, suc, ◌+◌, ◌*◌, ◌/◌, ◌%◌, ◌^◌, ◌<◌, ◌↔◌, Bool, true, List, [], ◌∷◌, length, map, replicate, refl, sym, ◌∙◌, ap, ap₂, subst, arith}
use Rattle.std.specs.Prelude.{bit_xor}
use Rattle.std.proofs.lemmas.List.{length-replicate}
use Rattle.std.proofs.lemmas.Nat.{mod_low, pow_pos, shr_high, xor_block}
use lib.Pointwise.{pointwise, pointwise_decides}
use native.Mathlib.Nat.{add-zero, one-mul, zero-mul}
use Rattle.field_base.specs.lemmas.BitRing.{two_cases}
use lib.Arith.{digits_lt}
use Rattle.field_base.specs.Chunks.{joined}
use Rattle.packed_lanes.specs.Lanes.{lane_by_lane, lane_product}
use Rattle.field_base.specs.Ring.{IsRing}
use Rattle.packed_lanes.specs.lemmas.LaneRing.{more_lanes}
use Rattle.field_base.proofs.RingLemmas.{mod-times, times-mod}

-- ---- one element in every lane

-- the numbers of one element n times are its number n times
pub map-replicate : {A : Type 0} → (repr : A → ℕ) (n : ℕ) (x : A) → map repr (replicate n x) ≡ replicate n (repr x)
map-replicate repr zero x = refl
map-replicate repr (suc n) x = ap (λ (xs : List ℕ). repr x ∷ xs) (map-replicate repr n x)

-- lanes that each hold one element of number a are a, n times
pub map-every : {A : Type 0} → (repr : A → ℕ) (n a : ℕ) (x : A) (xs : List A) → xs ≡ replicate n x → repr x ≡ a → map repr xs ≡ replicate n a
map-every repr n a x xs every is = ap (map repr) every ∙ map-replicate repr n x ∙ ap (replicate n) is

module _ (width : ℕ) where
  -- n lanes of w bits are a number below 2 ^ (n * w)
  pub every_below : (n a : ℕ) → a < 2 ^ width → joined width (replicate n a) < 2 ^ (n * width)
  unfolding joined
  every_below zero a fits = pow_pos (zero * width)
  every_below (suc n) a fits =
      subst (λ (m : ℕ). joined width (replicate (suc n) a) < m) (sym (more_lanes n width))
      (digits_lt (every_below n a fits) fits)

  -- 0 in every lane is 0
  pub every_zero : (n : ℕ) → joined width (replicate n 0) ≡ 0
  unfolding joined
  every_zero zero = refl
  every_zero (suc n) =
      ap (λ (h : ℕ). h * 2 ^ width + 0) (every_zero n) ∙ add-zero (0 * 2 ^ width) ∙ zero-mul (2 ^ width)

  -- the sum in every lane is the sum of the packings
  pub every_sum : (n a b : ℕ) → a < 2 ^ width → b < 2 ^ width
      → joined width (replicate n (bit_xor a b)) ≡ bit_xor (joined width (replicate n a)) (joined width (replicate n b))
  unfolding joined
  every_sum zero a b a_fits b_fits = refl
  every_sum (suc n) a b a_fits b_fits =
      ap (λ (h : ℕ). h * 2 ^ width + bit_xor a b) (every_sum n a b a_fits b_fits)
      ∙ sym (xor_block width (joined width (replicate n a)) (joined width (replicate n b)) a b a_fits b_fits)

  -- packings of one element each are equal only where the elements are, if there is a lane
  pub every_same : (unit n a b : ℕ) → a < 2 ^ width → b < 2 ^ width → joined width (replicate n unit) ≢ 0
      → joined width (replicate n a) ≡ joined width (replicate n b) → a ≡ b
  unfolding joined
  every_same unit zero a b a_fits b_fits proper same = absurd (proper refl)
  every_same unit (suc n) a b a_fits b_fits proper same =
      sym (mod_low (joined width (replicate n a)) width a a_fits)
      ∙ ap (λ (x : ℕ). x % 2 ^ width) same
      ∙ mod_low (joined width (replicate n b)) width b b_fits

  -- a bit times the number of ones is the bit in every lane
  pub every_bit : (unit n b : ℕ) → b < 2 → joined width (replicate n (b * unit)) ≡ b * joined width (replicate n unit)
  every_bit unit n =
      two_cases (λ b. joined width (replicate n (b * unit)) ≡ b * joined width (replicate n unit))
      (ap (λ (a : ℕ). joined width (replicate n a)) (zero-mul unit) ∙ every_zero n ∙ sym (zero-mul (joined width (replicate n unit))))
      (ap (λ (a : ℕ). joined width (replicate n a)) (one-mul unit) ∙ sym (one-mul (joined width (replicate n unit))))

  -- ---- products

  module _ (unit : ℕ) (times : ℕ → ℕ → ℕ) (ring : IsRing width unit times) where
    -- the product of two packings of one lane more
    pub product_more : (n h l h' l' : ℕ) → l < 2 ^ width → l' < 2 ^ width
        → lane_product width times (suc n) (h * 2 ^ width + l) (h' * 2 ^ width + l')
        ≡ lane_product width times n h h' * 2 ^ width + times l l'
    unfolding lane_product
    product_more n h l h' l' fits fits' =
        ap₂ (λ (x y : ℕ). x * 2 ^ width + y)
        (ap₂ (lane_product width times n) (shr_high h width l fits) (shr_high h' width l' fits'))
        (sym (mod-times width unit times ring (h * 2 ^ width + l) (h' * 2 ^ width + l'))
        ∙ sym (times-mod width unit times ring ((h * 2 ^ width + l) % 2 ^ width) (h' * 2 ^ width + l'))
        ∙ ap₂ times (mod_low h width l fits) (mod_low h' width l' fits'))

    -- the product in every lane is the product of the packings
    pub every_product : (n a b : ℕ) → a < 2 ^ width → b < 2 ^ width
        → joined width (replicate n (times a b))
        ≡ lane_product width times n (joined width (replicate n a)) (joined width (replicate n b))
    unfolding joined lane_product
    every_product zero a b a_fits b_fits = refl
    every_product (suc n) a b a_fits b_fits =
        ap (λ (h : ℕ). h * 2 ^ width + times a b) (every_product n a b a_fits b_fits)
        ∙ sym (product_more n (joined width (replicate n a)) a (joined width (replicate n b)) b a_fits b_fits)

  -- ---- lists of lanes

  module _ (A : Type 0) (repr : A → ℕ) (fits : (x : A) → repr x < 2 ^ width) where
    -- the number of a list of lanes is below 2 ^ (its length times the width)
    lanes_lt : (xs : List A) → joined width (map repr xs) < 2 ^ (length xs * width)
    unfolding joined
    lanes_lt [] = pow_pos (zero * width)
    lanes_lt (x ∷ xs) =
        subst (λ (m : ℕ). joined width (map repr (x ∷ xs)) < m) (sym (more_lanes (length xs) width))
        (digits_lt (lanes_lt xs) (fits x))

    -- n lanes of w bits are a number below 2 ^ (n * w)
    pub lanes_below : (n : ℕ) (xs : List A) → length xs ≡ n → joined width (map repr xs) < 2 ^ (n * width)
    lanes_below n xs long = subst (λ (k : ℕ). joined width (map repr xs) < 2 ^ (k * width)) long (lanes_lt xs)

    -- lists of one length and one number are one
    pub lanes_same : ((x y : A) → repr x ≡ repr y → x ≡ y) → (xs ys : List A) → length xs ≡ length ys
        → joined width (map repr xs) ≡ joined width (map repr ys) → xs ≡ ys
    unfolding joined
    lanes_same same [] [] long is = refl
    lanes_same same [] (y ∷ ys) long is = absurd (omega (arith, long))
    lanes_same same (x ∷ xs) [] long is = absurd (omega (arith, long))
    lanes_same same (x ∷ xs) (y ∷ ys) long is =
        ap₂ (λ (z : A) (zs : List A). z ∷ zs)
        (same x y
        (sym (mod_low (joined width (map repr xs)) width (repr x) (fits x)) ∙ ap (λ (n : ℕ). n % 2 ^ width) is
        ∙ mod_low (joined width (map repr ys)) width (repr y) (fits y)))
        (lanes_same same xs ys (omega (arith, long))
        (sym (shr_high (joined width (map repr xs)) width (repr x) (fits x)) ∙ ap (λ (n : ℕ). n / 2 ^ width) is
        ∙ shr_high (joined width (map repr ys)) width (repr y) (fits y)))

    -- lists of lanes compare equal exactly where their numbers are equal
    pub equal_lanes : (equal : A → A → Bool) → ((x y : A) → (equal x y ≡ true) ↔ (repr x ≡ repr y))
        → ((x y : A) → repr x ≡ repr y → x ≡ y) → (xs ys : List A) → length xs ≡ length ys
        → (pointwise equal xs ys ≡ true) ↔ (joined width (map repr xs) ≡ joined width (map repr ys))
    equal_lanes equal decides same xs ys long =
        let both = pointwise_decides {E = equal} (λ x y. (λ h. same x y ((decides x y).0 h), λ e. (decides x y).1 (ap repr e))) xs ys in
        (λ h. ap (λ (zs : List A). joined width (map repr zs)) (both.0 h), λ e. both.1 (lanes_same same xs ys long e))

    -- the number of one element in every lane
    pub number_of_every : (n : ℕ) (x : A) → joined width (map repr (replicate n x)) ≡ joined width (replicate n (repr x))
    number_of_every n x = ap (joined width) (map-replicate repr n x)

    -- the number of a sum, lane by lane, with lanes of another kind
    lanes_sum : (B : Type 0) (other : B → ℕ) → ((y : B) → other y < 2 ^ width) → (xs : List A) (ys : List B) → length xs ≡ length ys
        → joined width (lane_by_lane bit_xor (map repr xs) (map other ys))
        ≡ bit_xor (joined width (map repr xs)) (joined width (map other ys))
    unfolding joined
    lanes_sum B other also [] [] long = refl
    lanes_sum B other also [] (y ∷ ys) long = absurd (omega (arith, long))
    lanes_sum B other also (x ∷ xs) [] long = absurd (omega (arith, long))
    lanes_sum B other also (x ∷ xs) (y ∷ ys) long =
        ap (λ (h : ℕ). h * 2 ^ width + bit_xor (repr x) (other y)) (lanes_sum B other also xs ys (omega (arith, long)))
        ∙ sym (xor_block width _ _ (repr x) (other y) (fits x) (also y))

    -- the number of a sum, lane by lane, is the sum of the numbers
    pub sum_number : (xs ys rs : List A) → length xs ≡ length ys
        → map repr rs ≡ lane_by_lane bit_xor (map repr xs) (map repr ys)
        → joined width (map repr rs) ≡ bit_xor (joined width (map repr xs)) (joined width (map repr ys))
    sum_number xs ys rs long is = ap (joined width) is ∙ lanes_sum A repr fits xs ys long

    -- the number of the sum with one number in every lane
    pub sum_with_every : (n v : ℕ) → v < 2 ^ width → (xs rs : List A) → length xs ≡ n
        → map repr rs ≡ lane_by_lane bit_xor (map repr xs) (replicate n v)
        → joined width (map repr rs) ≡ bit_xor (joined width (map repr xs)) (joined width (replicate n v))
    sum_with_every n v v_fits xs rs long is =
        let every : map (λ (y : ℕ). v) (replicate n v) ≡ replicate n v = map-replicate (λ (y : ℕ). v) n v in
        ap (joined width) is
        ∙ subst (λ (vs : List ℕ). joined width (lane_by_lane bit_xor (map repr xs) vs) ≡ bit_xor (joined width (map repr xs)) (joined width vs))
        every (lanes_sum ℕ (λ y. v) (λ y. v_fits) xs (replicate n v) (long ∙ sym (length-replicate n v)))

    module _ (unit : ℕ) (times : ℕ → ℕ → ℕ) (ring : IsRing width unit times) where
      -- the number of a product, lane by lane, with lanes of another kind
      lanes_times : (B : Type 0) (other : B → ℕ) → ((y : B) → other y < 2 ^ width) → (n : ℕ) (xs : List A) (ys : List B)
          → length xs ≡ n → length ys ≡ n
          → joined width (lane_by_lane times (map repr xs) (map other ys))
          ≡ lane_product width times n (joined width (map repr xs)) (joined width (map other ys))
      unfolding joined lane_product
      lanes_times B other also zero [] [] x_long y_long = refl
      lanes_times B other also zero [] (y ∷ ys) x_long y_long = absurd (omega (arith, y_long))
      lanes_times B other also zero (x ∷ xs) ys x_long y_long = absurd (omega (arith, x_long))
      lanes_times B other also (suc n) [] ys x_long y_long = absurd (omega (arith, x_long))
      lanes_times B other also (suc n) (x ∷ xs) [] x_long y_long = absurd (omega (arith, y_long))
      lanes_times B other also (suc n) (x ∷ xs) (y ∷ ys) x_long y_long =
          ap (λ (h : ℕ). h * 2 ^ width + times (repr x) (other y))
          (lanes_times B other also n xs ys (omega (arith, x_long)) (omega (arith, y_long)))
          ∙ sym (product_more unit times ring n (joined width (map repr xs)) (repr x) (joined width (map other ys)) (other y)
          (fits x) (also y))

      -- the number of a product, lane by lane, is the product of the numbers
      pub product_number : (n : ℕ) (xs ys rs : List A) → length xs ≡ n → length ys ≡ n
          → map repr rs ≡ lane_by_lane times (map repr xs) (map repr ys)
          → joined width (map repr rs)
          ≡ lane_product width times n (joined width (map repr xs)) (joined width (map repr ys))
      product_number n xs ys rs x_long y_long is =
          ap (joined width) is ∙ lanes_times A repr fits n xs ys x_long y_long

      -- the number of the product with one number in every lane
      pub product_with_every : (n v : ℕ) → v < 2 ^ width → (xs rs : List A) → length xs ≡ n
          → map repr rs ≡ lane_by_lane times (map repr xs) (replicate n v)
          → joined width (map repr rs) ≡ lane_product width times n (joined width (map repr xs)) (joined width (replicate n v))
      product_with_every n v v_fits xs rs long is =
          let every : map (λ (y : ℕ). v) (replicate n v) ≡ replicate n v = map-replicate (λ (y : ℕ). v) n v in
          ap (joined width) is
          ∙ subst (λ (vs : List ℕ). joined width (lane_by_lane times (map repr xs) vs) ≡ lane_product width times n (joined width (map repr xs)) (joined width vs))
          every (lanes_times ℕ (λ y. v) (λ y. v_fits) n xs (replicate n v) long (length-replicate n v))
