-- Products of bytes modulo x^8 + t by shift and add, in any number of lanes, each by the step on one product.
use Rattle.std.proofs.Common.{◌≡◌, ℕ, zero, suc, ◌+◌, ◌-◌, ◌*◌, ◌/◌, ◌%◌, ◌^◌, ◌<◌, Bool, true, false, leb, cond, List, [], ◌∷◌, length, map, replicate, refl, sym, ◌∙◌, ap, ap₂, arith, lit<, w8, Fits}
use Rattle.std.specs.Prelude.{bit_xor}
use Rattle.std.specs.Simd.Lanes.{zip2, sel_l, top, Each1}
use Rattle.std.proofs.lemmas.Bool.{leb-true, leb-false}
use Rattle.std.proofs.lemmas.Nat.{xor_comm}
use native.Mathlib.Nat.{mod-eq_of_lt, mul_assoc, one-mul, pow-suc, zero-mul}
use lib.Bits.{xor_zero_r}
use Rattle.field_base.specs.Remainder.{HasDegree, mul_mod, rem}
use Rattle.field_base.specs.Ring.{IsRing}
use Rattle.field_base.proofs.CarrylessProduct.{bit_cases, xor_split, carryless_double, carryless_one}
use Rattle.field_base.proofs.EightCases.{eight_cases}
use Rattle.field_base.proofs.RemainderRing.{mul_mod_ring, mul_mod-rem}
use Rattle.field_base.proofs.RingLemmas.{times-zero}
use Rattle.any_field.proofs.RatioSteps.{doubled-remainder}

-- ---- one product

-- the product modulo x^8 + t
abbrev times : ℕ → ℕ → ℕ → ℕ
times t = mul_mod 8 (2 ^ 8 + t)

-- a byte times x, by a shift and the modulus
abbrev doubled : ℕ → ℕ → ℕ
doubled t p = bit_xor ((p + p) % 2 ^ 8) (p / 128 * t)

-- what the code chooses by the highest bit of a byte
abbrev chosen : ℕ → ℕ → ℕ
chosen x a = cond (top 7 (cond (leb 128 x) (2 ^ 8 - 1) 0)) a 0

-- it is the bit times the choice
chosen_is : (x a : ℕ) → x < 256 → chosen x a ≡ x / 128 * a
chosen_is x a fits = pick (leb 128 x) refl
  where
    pick : (b : Bool) → leb 128 x ≡ b → cond (top 7 (cond b (2 ^ 8 - 1) 0)) a 0 ≡ x / 128 * a
    pick true is =
        let above = leb-true 128 x is in
        let one : 1 ≡ x / 128 = omega arith in
        sym (one-mul a) ∙ ap (λ (d : ℕ). d * a) one
    pick false is =
        let below = leb-false 128 x is in
        let none : 0 ≡ x / 128 = omega arith in
        sym (zero-mul a) ∙ ap (λ (d : ℕ). d * a) none

-- the bits of b from the highest down to bit 7 - k enter with the highest bit of b shifted by k
abbrev Enters : ℕ → Type 0
Enters k = (b : ℕ) → b < 256 → (b * 2 ^ k % 2 ^ 8 / 128 ≡ b / 2 ^ (8 - (k + 1)) % 2) × (b / 2 ^ (8 - k) ≡ b / 2 ^ (8 - (k + 1)) / 2)

enters : (k : ℕ) → k < 8 → Enters k
enters =
    eight_cases Enters
    (λ b fits. (omega arith, omega arith)) (λ b fits. (omega arith, omega arith)) (λ b fits. (omega arith, omega arith))
    (λ b fits. (omega arith, omega arith)) (λ b fits. (omega arith, omega arith)) (λ b fits. (omega arith, omega arith))
    (λ b fits. (omega arith, omega arith)) (λ b fits. (omega arith, omega arith))

-- one lane of a step of the code
abbrev lane : ℕ → ℕ → ℕ → ℕ → ℕ
lane t p a r = bit_xor (bit_xor ((p + p) % 2 ^ 8) (chosen p t)) (chosen r a)

module _ (t : ℕ) (tail_fits : t < 256) where
  degree : HasDegree 8 (2 ^ 8 + t)
  degree = omega (arith, tail_fits)

  -- the polynomials modulo x^8 + t are a ring
  ring : IsRing 8 1 (times t)
  ring = mul_mod_ring 8 (2 ^ 8 + t) (lit< tt) degree

  -- p x = p doubled
  double_is : (p : ℕ) → p < 256 → times t p 2 ≡ doubled t p
  double_is p fits =
      let twice : p * 2 % 2 ^ 8 ≡ (p + p) % 2 ^ 8 = omega arith in
      mul_mod-rem 8 (2 ^ 8 + t) degree p 2 fits (lit< tt)
      ∙ ap (rem 8 (2 ^ 8 + t)) (carryless_double p 1 ∙ ap (λ (z : ℕ). z * 2) (carryless_one p))
      ∙ doubled-remainder 8 t p (lit< tt) tail_fits fits
      ∙ ap (λ (z : ℕ). bit_xor z (p / 128 * t)) twice

  -- a byte without its highest bit is only shifted
  small_double : (q : ℕ) → q < 128 → times t q 2 ≡ q * 2
  small_double q small =
      let shifted : (q + q) % 2 ^ 8 ≡ q * 2 = omega arith in
      let none : q / 128 ≡ 0 = omega arith in
      double_is q (omega arith)
      ∙ ap₂ bit_xor shifted (ap (λ (d : ℕ). d * t) none ∙ zero-mul t) ∙ xor_zero_r (q * 2)

  -- the product by a bit
  by_bit : (a b : ℕ) → a < 256 → times t a (b % 2) ≡ b % 2 * a
  by_bit a b fits =
      bit_cases (λ d. times t a d ≡ d * a)
      (times-zero 8 1 (times t) ring a ∙ sym (zero-mul a))
      (ring.comm a 1 ∙ ring.one a ∙ mod-eq_of_lt fits ∙ sym (one-mul a)) b

  -- a bit more of the right factor
  bit_more : (a b : ℕ) → a < 256 → b < 256 → times t a b ≡ bit_xor (doubled t (times t a (b / 2))) (b % 2 * a)
  bit_more a b a_fits b_fits =
      ap (times t a) (sym (xor_split b)) ∙ ring.over_sum a (b % 2) (b / 2 * 2)
      ∙ xor_comm (times t a (b % 2)) (times t a (b / 2 * 2))
      ∙ ap₂ bit_xor
      (ap (times t a) (sym (small_double (b / 2) (omega arith))) ∙ sym (ring.assoc a (b / 2) 2)
      ∙ double_is (times t a (b / 2)) (ring.below a (b / 2)))
      (by_bit a b a_fits)

  -- after k steps the product is that by the k highest bits of b, and after the next that by one more
  lane_is : (k a b : ℕ) → k < 8 → a < 256 → b < 256
      → lane t (times t a (b / 2 ^ (8 - k))) a (b * 2 ^ k % 2 ^ 8) ≡ times t a (b / 2 ^ (8 - (k + 1)))
  lane_is k a b within a_fits b_fits =
      let highest = enters k within b b_fits in
      let q = b / 2 ^ (8 - (k + 1)) in
      ap₂ bit_xor
      (ap (bit_xor ((times t a (b / 2 ^ (8 - k)) + times t a (b / 2 ^ (8 - k))) % 2 ^ 8))
      (chosen_is (times t a (b / 2 ^ (8 - k))) t (ring.below a (b / 2 ^ (8 - k))))
      ∙ ap (λ (x : ℕ). doubled t (times t a x)) highest.1)
      (chosen_is (b * 2 ^ k % 2 ^ 8) a (omega arith) ∙ ap (λ (d : ℕ). d * a) highest.0)
      ∙ sym (bit_more a q a_fits (omega arith))

-- ---- all lanes

-- the products by the k highest bits of the right factors
abbrev pub products : ℕ → ℕ → List ℕ → List ℕ → List ℕ
products t k = zip2 (λ a b. times t a (b / 2 ^ (8 - k)))

-- the bits of the right factors that are left, at the top
abbrev pub rests : ℕ → List ℕ → List ℕ
rests k = map (λ b. b * 2 ^ k % 2 ^ 8)

-- the lanes that the code chooses by the highest bits of others
abbrev choices : ℕ → List ℕ → List ℕ → List ℕ
choices n xs ys =
    sel_l (map (top 7) (zip2 (λ (a b : ℕ). cond (leb a b) (2 ^ 8 - 1) 0) (replicate n 128) xs)) ys (replicate n 0)

module _ (t : ℕ) (tail_fits : t < 256) where
  -- at first there are no bits
  pub no_bits : (n : ℕ) (xs ys : List ℕ) → length xs ≡ n → length ys ≡ n → Each1 (Fits w8) ys → replicate n 0 ≡ products t 0 xs ys
  no_bits zero [] [] long also fits = refl
  no_bits zero (x ∷ xs) ys long also fits = absurd (omega arith)
  no_bits zero [] (y ∷ ys) long also fits = absurd (omega arith)
  no_bits (suc n) [] ys long also fits = absurd (omega arith)
  no_bits (suc n) (x ∷ xs) [] long also fits = absurd (omega arith)
  no_bits (suc n) (x ∷ xs) (y ∷ ys) long also fits =
      let small = fits.0.fits in
      let none : 0 ≡ y / 2 ^ 8 = omega arith in
      ap₂ (λ (z : ℕ) (zs : List ℕ). z ∷ zs) (sym (times-zero 8 1 (times t) (ring t tail_fits) x) ∙ ap (times t x) none)
      (no_bits n xs ys (omega arith) (omega arith) fits.1)

  -- a step of the code
  pub step : (n k : ℕ) (xs ys ps rs : List ℕ) → k < 8 → length xs ≡ n → length ys ≡ n → Each1 (Fits w8) xs → Each1 (Fits w8) ys
      → ps ≡ products t k xs ys → rs ≡ rests k ys
      → zip2 bit_xor (zip2 bit_xor (zip2 (λ (a b : ℕ). (a + b) % 2 ^ 8) ps ps) (choices n ps (replicate n t))) (choices n rs xs)
      ≡ products t (k + 1) xs ys
  step n k xs ys ps rs within long also x_fits y_fits of_ps of_rs = rw (of_ps, of_rs) (each n xs ys long also x_fits y_fits)
    where
      each : (n : ℕ) (xs ys : List ℕ) → length xs ≡ n → length ys ≡ n → Each1 (Fits w8) xs → Each1 (Fits w8) ys
          → (let ps = products t k xs ys in
          zip2 bit_xor (zip2 bit_xor (zip2 (λ (a b : ℕ). (a + b) % 2 ^ 8) ps ps) (choices n ps (replicate n t))) (choices n (rests k ys) xs))
          ≡ products t (k + 1) xs ys
      each zero [] [] long also x_fits y_fits = refl
      each zero (x ∷ xs) ys long also x_fits y_fits = absurd (omega arith)
      each zero [] (y ∷ ys) long also x_fits y_fits = absurd (omega arith)
      each (suc n) [] ys long also x_fits y_fits = absurd (omega arith)
      each (suc n) (x ∷ xs) [] long also x_fits y_fits = absurd (omega arith)
      each (suc n) (x ∷ xs) (y ∷ ys) long also x_fits y_fits =
          ap₂ (λ (z : ℕ) (zs : List ℕ). z ∷ zs) (lane_is t tail_fits k x y within x_fits.0.fits y_fits.0.fits)
          (each n xs ys (omega arith) (omega arith) x_fits.1 y_fits.1)

-- all bits are left at first
pub all_left : (ys : List ℕ) → Each1 (Fits w8) ys → ys ≡ rests 0 ys
all_left [] fits = refl
all_left (y ∷ ys) fits =
    let small = fits.0.fits in
    let same : y ≡ y * 2 ^ 0 % 2 ^ 8 = omega arith in
    ap₂ (λ (z : ℕ) (zs : List ℕ). z ∷ zs) same (all_left ys fits.1)

-- after a step one bit fewer is left
pub fewer_left : (k : ℕ) (ys rs : List ℕ) → rs ≡ rests k ys → zip2 (λ (a b : ℕ). (a + b) % 2 ^ 8) rs rs ≡ rests (k + 1) ys
fewer_left k ys rs is = rw is (each ys)
  where
    each : (ys : List ℕ) → zip2 (λ (a b : ℕ). (a + b) % 2 ^ 8) (rests k ys) (rests k ys) ≡ rests (k + 1) ys
    each [] = refl
    each (y ∷ ys) =
        let suc_k : k + 1 ≡ suc k = omega arith in
        let twice : y * 2 ^ (k + 1) ≡ y * 2 ^ k * 2 = ap (λ (j : ℕ). y * 2 ^ j) suc_k ∙ ap (λ (x : ℕ). y * x) (pow-suc 2 k) ∙ sym (mul_assoc y (2 ^ k) 2) in
        let next : (y * 2 ^ k % 2 ^ 8 + y * 2 ^ k % 2 ^ 8) % 2 ^ 8 ≡ y * 2 ^ (k + 1) % 2 ^ 8 = omega (arith, twice) in
        ap₂ (λ (z : ℕ) (zs : List ℕ). z ∷ zs) next (each ys)

-- after eight steps the products are whole
pub all_bits : (t : ℕ) (xs ys ps : List ℕ) → ps ≡ products t 8 xs ys → ps ≡ zip2 (times t) xs ys
all_bits t xs ys ps is = is ∙ each xs ys
  where
    each : (xs ys : List ℕ) → products t 8 xs ys ≡ zip2 (times t) xs ys
    each [] ys = refl
    each (x ∷ xs) [] = refl
    each (x ∷ xs) (y ∷ ys) =
        let whole : y / 2 ^ (8 - 8) ≡ y = omega arith in
        ap₂ (λ (z : ℕ) (zs : List ℕ). z ∷ zs) (ap (times t x) whole) (each xs ys)
