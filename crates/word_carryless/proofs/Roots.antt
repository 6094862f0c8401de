-- The square root of a polynomial modulo another from its even part and its odd part.
use Rattle.std.proofs.Common.{◌≡◌, ℕ, ◌+◌, ◌*◌, ◌/◌, ◌%◌, ◌^◌, ◌<◌, ◌≤◌, true, refl, sym, ◌∙◌, ap, ap₂, arith, lit<, lit≤}
use Rattle.std.specs.Prelude.{bit_xor, bit_and}
use Rattle.std.proofs.lemmas.Nat.{and_le_l, xor_comm, xor_lt, xor_mod, xor_shr, shl-shr, shr-shr, shr_split, mul-mod_first, pow_pos}
use native.Mathlib.Nat.{lt_of_lt_of_le, mod-lt, mod-eq_of_lt, pow-le-pow_right}
use lib.Bits.{xor_assoc, xor_shifted}
use Rattle.field_base.specs.Carryless.{carryless, carryless_in}
use Rattle.field_base.specs.Remainder.{HasDegree, rem, rem_in, mul_mod, poly64_modulus, ghash_modulus}
use Rattle.field_base.specs.Ring.{IsRing}
use Rattle.field_base.proofs.AdditiveMaps.{KeepsSums, maps_agree, agree_on_powers, agree_on_powers-true}
use Rattle.field_base.proofs.CarrylessProduct.{xor_double, one_carryless, double_carryless, sum_carryless, shl_carryless, carryless_lt}
use Rattle.field_base.proofs.PowerLemmas.{square_xor, square_times}
use Rattle.field_base.proofs.RingLemmas.{xor_left_comm, xor_exchange}
use Rattle.field_base.proofs.RemainderLaws.{rem_small}
use Rattle.field_base.proofs.RemainderRing.{mul_mod-rem, mul_mod_ring}
use Rattle.word_carryless.specs.Compact.{even_places, ones, root_of_x_64, root_of_x_128}
use Rattle.word_carryless.proofs.Classes.{xor_and}

-- ---- any width

-- the root of x is the sum of the root e of its even part and the product p of the root o of its odd part by s, which squares to the
-- polynomial x
abbrev pub RootOfParts : ℕ → ℕ → ℕ → ℕ → ℕ → Type 0
RootOfParts width half modulus mask s =
    (x e o p : ℕ) → x < 2 ^ width → e < 2 ^ half → o < 2 ^ half → carryless e e ≡ bit_and x mask
    → carryless o o ≡ bit_and (x / 2) mask → p ≡ mul_mod width modulus s o
    → mul_mod width modulus (bit_xor e p) (bit_xor e p) ≡ x

module _ (width modulus : ℕ) (wide : 1 < width) (degree : HasDegree width modulus) (mask : ℕ) where
  -- the square of what squares to the bits z of an element is z
  square_of : (e z : ℕ) → e < 2 ^ width → z < 2 ^ width → carryless e e ≡ z → mul_mod width modulus e e ≡ z
  square_of e z e_fits z_fits of_e =
      mul_mod-rem width modulus degree e e e_fits e_fits ∙ ap (rem width modulus) of_e ∙ rem_small width modulus degree z z_fits

  -- the product of x and an element of lower degree is its shift
  times_x : (z : ℕ) → z * 2 < 2 ^ width → 2 < 2 ^ width → mul_mod width modulus 2 z ≡ z * 2
  times_x z fits two_fits =
      mul_mod-rem width modulus degree 2 z two_fits (omega arith)
      ∙ ap (rem width modulus) (double_carryless 1 z ∙ ap (λ (y : ℕ). y * 2) (one_carryless z))
      ∙ rem_small width modulus degree (z * 2) fits

  -- the even places and the odd ones
  parts_sum : KeepsSums (λ x. bit_xor (bit_and x mask) (bit_and (x / 2) mask * 2))
  parts_sum a b =
      ap₂ bit_xor (xor_and a b mask)
      (ap (λ (z : ℕ). bit_and z mask * 2) (xor_shr a b 1) ∙ ap (λ (z : ℕ). z * 2) (xor_and (a / 2) (b / 2) mask)
      ∙ sym (xor_double (bit_and (a / 2) mask) (bit_and (b / 2) mask)))
      ∙ xor_exchange (bit_and a mask) (bit_and b mask) _ _

  -- if s² = x and every power of two is the sum of its even part and its odd part, roots are computed by parts
  pub root_of_parts : (half s : ℕ) → half ≤ width → 2 < 2 ^ width → mul_mod width modulus s s ≡ 2
      → agree_on_powers (λ x. bit_xor (bit_and x mask) (bit_and (x / 2) mask * 2)) (λ x. x) width ≡ true
      → RootOfParts width half modulus mask s
  root_of_parts half s few two_fits is_root agree x e o p x_fits e_fits o_fits of_e of_o of_p =
      square_xor width 1 (mul_mod width modulus) ring e p
      ∙ ap₂ bit_xor
      (square_of e (bit_and x mask) (wider e e_fits) (omega (arith, even_le)) of_e)
      (ap (λ (y : ℕ). mul_mod width modulus y y) of_p ∙ square_times width 1 (mul_mod width modulus) ring s o
      ∙ ap₂ (mul_mod width modulus) is_root (square_of o (bit_and (x / 2) mask) (wider o o_fits) (omega (arith, odd_le)) of_o)
      ∙ times_x (bit_and (x / 2) mask) (omega (arith, odd_le)) two_fits)
      ∙ maps_agree (λ y. bit_xor (bit_and y mask) (bit_and (y / 2) mask * 2)) (λ y. y) parts_sum (λ a b. refl) width
      (agree_on_powers-true (λ y. bit_xor (bit_and y mask) (bit_and (y / 2) mask * 2)) (λ y. y) width agree) x x_fits
    where
      wider : (y : ℕ) → y < 2 ^ half → y < 2 ^ width
      wider y below = lt_of_lt_of_le below (pow-le-pow_right (lit< tt) few)

      ring : IsRing width 1 (mul_mod width modulus)
      ring = mul_mod_ring width modulus (omega arith) degree

      even_le : bit_and x mask ≤ x
      even_le = and_le_l x mask

      odd_le : bit_and (x / 2) mask ≤ x / 2
      odd_le = and_le_l (x / 2) mask

-- a word and what a shift by half of its width pushes past it
shifted_split : (n h : ℕ) → bit_xor (h / 2 ^ n * 2 ^ (n + n)) (h * 2 ^ n % 2 ^ (n + n)) ≡ h * 2 ^ n
shifted_split n h =
    ap (λ (q : ℕ). bit_xor (q * 2 ^ (n + n)) (h * 2 ^ n % 2 ^ (n + n)))
    (sym (ap (λ (y : ℕ). y / 2 ^ n) (shl-shr h n)) ∙ shr-shr (h * 2 ^ n) n n)
    ∙ xor_shifted (h * 2 ^ n / 2 ^ (n + n)) (n + n) (h * 2 ^ n % 2 ^ (n + n)) (mod-lt (h * 2 ^ n) (pow_pos (n + n)))
    ∙ shr_split (h * 2 ^ n) (n + n)

-- ---- 64 and 128 bits

-- the two constants square to the polynomial x (computed)
roots_squared : (mul_mod 64 poly64_modulus root_of_x_64 root_of_x_64 ≡ 2) × (mul_mod 128 ghash_modulus root_of_x_128 root_of_x_128 ≡ 2)
unfolding mul_mod rem rem_in carryless carryless_in
roots_squared = (refl, refl)

-- square roots modulo x^64 + x^4 + x^3 + x + 1 by parts
pub root_64 : RootOfParts 64 32 poly64_modulus (even_places 64) root_of_x_64
root_64 =
    root_of_parts 64 poly64_modulus (lit< tt) refl (even_places 64) 32 root_of_x_64 (lit≤ tt) (lit< tt) roots_squared.0 refl

-- square roots modulo x^128 + x^7 + x^2 + x + 1 by parts
pub root_128 : RootOfParts 128 64 ghash_modulus (even_places 128) root_of_x_128
root_128 =
    root_of_parts 128 ghash_modulus (lit< tt) refl (even_places 128) 64 root_of_x_128 (lit≤ tt) (lit< tt) roots_squared.1 refl

-- ---- the product by the root of 64 bits

-- a word and its shift are the product by a polynomial and its shift
times_shifted : (k a s t : ℕ) → t ≡ carryless a s % 2 ^ 64
    → bit_xor t (t * 2 ^ k % 2 ^ 64) ≡ carryless (bit_xor a (a * 2 ^ k)) s % 2 ^ 64
times_shifted k a s t of_t =
    ap (λ (z : ℕ). bit_xor z (z * 2 ^ k % 2 ^ 64)) of_t
    ∙ ap (bit_xor (carryless a s % 2 ^ 64)) (mul-mod_first (carryless a s) (2 ^ k) (2 ^ 64))
    ∙ sym (xor_mod (carryless a s) (carryless a s * 2 ^ k) 64)
    ∙ ap (λ (z : ℕ). z % 2 ^ 64)
    (ap (bit_xor (carryless a s)) (sym (shl_carryless k a s)) ∙ sym (sum_carryless a (a * 2 ^ k) s))

-- a word and its shift to the left, in a word
abbrev with_shift : ℕ → ℕ → ℕ
with_shift k t = bit_xor t (t * 2 ^ k % 2 ^ 64)

-- the doubling steps make a run of 32 ones, and no bit leaves the word
pub times_ones : (s : ℕ) → s < 2 ^ 32
    → with_shift 16 (with_shift 8 (with_shift 4 (with_shift 2 (with_shift 1 s)))) ≡ carryless (ones 32) s
times_ones s fits =
    times_shifted 16 0xffff s _ (times_shifted 8 0xff s _ (times_shifted 4 0xf s _ (times_shifted 2 3 s _
    (times_shifted 1 1 s s (sym (ap (λ (z : ℕ). z % 2 ^ 64) (one_carryless s) ∙ mod-eq_of_lt (omega arith)))))))
    ∙ mod-eq_of_lt (carryless_lt 32 32 (ones 32) s (lit< tt) fits)

-- the root is a run of ones and two terms
root_terms : (s : ℕ) → carryless root_of_x_64 s ≡ bit_xor (bit_xor (carryless (ones 32) s * 2 ^ 32) (s * 2 ^ 3)) (s * 2 ^ 1)
root_terms s =
    sum_carryless (bit_xor ((ones 32) * 2 ^ 32) (1 * 2 ^ 3)) (1 * 2 ^ 1) s
    ∙ ap₂ bit_xor
    (sum_carryless ((ones 32) * 2 ^ 32) (1 * 2 ^ 3) s ∙ ap₂ bit_xor (shl_carryless 32 (ones 32) s) (term 3))
    (term 1)
  where
    term : (k : ℕ) → carryless (1 * 2 ^ k) s ≡ s * 2 ^ k
    term k = shl_carryless k 1 s ∙ ap (λ (z : ℕ). z * 2 ^ k) (one_carryless s)

-- so the product by the root, from the product by the ones
pub product_by_terms : (o t r : ℕ) → o < 2 ^ 32 → t ≡ carryless (ones 32) o
    → r ≡ rem 64 poly64_modulus
    (t / 2 ^ 32 * 2 ^ 64 + bit_xor (bit_xor (t * 2 ^ 32 % 2 ^ 64) (o * 2 ^ 3 % 2 ^ 64)) (o * 2 ^ 1 % 2 ^ 64))
    → r ≡ mul_mod 64 poly64_modulus root_of_x_64 o
product_by_terms o t r fits of_t of_r =
    of_r
    ∙ ap (rem 64 poly64_modulus)
    (sym (xor_shifted (t / 2 ^ 32) 64 _
    (xor_lt 64 _ (o * 2 ^ 1 % 2 ^ 64)
    (xor_lt 64 (t * 2 ^ 32 % 2 ^ 64) (o * 2 ^ 3 % 2 ^ 64) (word (t * 2 ^ 32)) (word (o * 2 ^ 3))) (word (o * 2 ^ 1))))
    ∙ sym (ap (λ (z : ℕ). bit_xor z (o * 2 ^ 1 % 2 ^ 64))
    (xor_assoc (t / 2 ^ 32 * 2 ^ 64) (t * 2 ^ 32 % 2 ^ 64) (o * 2 ^ 3 % 2 ^ 64))
    ∙ xor_assoc (t / 2 ^ 32 * 2 ^ 64) (bit_xor (t * 2 ^ 32 % 2 ^ 64) (o * 2 ^ 3 % 2 ^ 64)) (o * 2 ^ 1 % 2 ^ 64))
    ∙ ap₂ bit_xor
    (ap₂ bit_xor (shifted_split 32 t ∙ ap (λ (z : ℕ). z * 2 ^ 32) of_t) (mod-eq_of_lt (omega arith)))
    (mod-eq_of_lt (omega arith))
    ∙ sym (root_terms o))
    ∙ sym (mul_mod-rem 64 poly64_modulus refl root_of_x_64 o (lit< tt) (omega arith))
  where
    word : (z : ℕ) → z % 2 ^ 64 < 2 ^ 64
    word z = mod-lt z (lit< tt)

-- ---- the product by the root of 128 bits

-- the product by a double word, from the products by its words
pub product_by_words : (s0 s1 o low high r : ℕ) → s0 < 2 ^ 64 → s1 * 2 ^ 64 + s0 < 2 ^ 128 → o < 2 ^ 64 → low < 2 ^ 128
    → low ≡ carryless s0 o → high ≡ carryless s1 o
    → r ≡ rem 128 ghash_modulus (high / 2 ^ 64 * 2 ^ 128 + bit_xor low (high * 2 ^ 64 % 2 ^ 128))
    → r ≡ mul_mod 128 ghash_modulus (s1 * 2 ^ 64 + s0) o
product_by_words s0 s1 o low high r s0_fits s_fits o_fits low_fits of_low of_high of_r =
    of_r
    ∙ ap (rem 128 ghash_modulus)
    (sym (xor_shifted (high / 2 ^ 64) 128 (bit_xor low (high * 2 ^ 64 % 2 ^ 128))
    (xor_lt 128 low (high * 2 ^ 64 % 2 ^ 128) low_fits (mod-lt (high * 2 ^ 64) (lit< tt))))
    ∙ xor_left_comm (high / 2 ^ 64 * 2 ^ 128) low (high * 2 ^ 64 % 2 ^ 128)
    ∙ ap (bit_xor low) (shifted_split 64 high) ∙ xor_comm low (high * 2 ^ 64)
    ∙ ap₂ (λ (x y : ℕ). bit_xor (x * 2 ^ 64) y) of_high of_low
    ∙ sym (ap (λ (z : ℕ). carryless z o) (sym (xor_shifted s1 64 s0 s0_fits)) ∙ sum_carryless (s1 * 2 ^ 64) s0 o
    ∙ ap (λ (z : ℕ). bit_xor z (carryless s0 o)) (shl_carryless 64 s1 o)))
    ∙ sym (mul_mod-rem 128 ghash_modulus refl (s1 * 2 ^ 64 + s0) o s_fits (omega arith))
