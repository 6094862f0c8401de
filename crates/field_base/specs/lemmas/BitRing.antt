-- The laws of the field of two elements, level 0 of the tower, by cases on its bits. They stand here since the field's
-- own implementation of the traits cites them.
use Rattle.std.proofs.Common.{◌≡◌, ℕ, zero, suc, ◌*◌, ◌%◌, ◌^◌, ◌<◌, ◌≢◌, refl, sym, ◌∙◌, ap, arith, lit<}
use Rattle.std.specs.Prelude.{bit_and, bit_xor}
use Rattle.std.proofs.lemmas.Nat.{pow_pos, xor_mod}
use native.Mathlib.Nat.{mod-lt, mul_comm, mul_assoc, zero-mul, one-mul, mul-one, mod-eq_of_lt}
use Rattle.field_base.specs.Ring.{IsRing}
use Rattle.field_base.specs.Field.{IsField}
use Rattle.field_base.specs.Orders.{AreCantorVectors, HasFullOrder}
use Rattle.field_base.specs.Powers.{power, repeated_square}
use Rattle.field_base.specs.Tower.{root, tower_mul}
use Rattle.field_base.specs.TowerBasis.{AreEvenCantorVectors, IsIsomorphism}

-- a fact of 0 and of 1 holds of each number below 2
pub two_cases : (P : ℕ → Type 0) → P 0 → P 1 → (d : ℕ) → d < 2 → P d
two_cases P none one zero fits = none
two_cases P none one (suc zero) fits = one
two_cases P none one (suc (suc d)) fits = absurd (omega arith)

bit_lt : (a : ℕ) → a % 2 < 2
bit_lt a = mod-lt a (lit< tt)

bit_product-lt : (x : ℕ) → x < 2 → (y : ℕ) → y < 2 → x * y < 2
bit_product-lt = two_cases (λ x. (y : ℕ) → y < 2 → x * y < 2) (λ y fits. rw zero-mul (lit< tt)) (λ y fits. rw one-mul fits)

-- a product of bits is a bit
bit_product-mod : (a b : ℕ) → a % 2 * (b % 2) % 2 ≡ a % 2 * (b % 2)
bit_product-mod a b = mod-eq_of_lt (bit_product-lt (a % 2) (bit_lt a) (b % 2) (bit_lt b))

bit_over_sum : (x : ℕ) → x < 2 → (y z : ℕ) → x * bit_xor y z ≡ bit_xor (x * y) (x * z)
bit_over_sum =
    two_cases (λ x. (y z : ℕ) → x * bit_xor y z ≡ bit_xor (x * y) (x * z))
    (λ y z. simp zero-mul) (λ y z. simp one-mul)

pub bits_ring : IsRing 1 1 (tower_mul 0)
unfolding tower_mul
bits_ring = record {
  below = λ a b. bit_product-lt (a % 2) (bit_lt a) (b % 2) (bit_lt b);
  comm = λ a b. mul_comm (a % 2) (b % 2);
  assoc = λ a b c.
      ap (λ (x : ℕ). x * (c % 2)) (bit_product-mod a b) ∙ mul_assoc (a % 2) (b % 2) (c % 2)
      ∙ ap (λ (x : ℕ). a % 2 * x) (sym (bit_product-mod b c));
  over_sum = λ a b c. ap (λ (x : ℕ). a % 2 * x) (xor_mod b c 1) ∙ bit_over_sum (a % 2) (bit_lt a) (b % 2) (c % 2);
  one = λ a. one-mul (a % 2);
}

-- the product of two bits is their and
pub bit_and-bits : (x : ℕ) → x < 2 → (y : ℕ) → y < 2 → bit_and x y ≡ x % 2 * (y % 2)
bit_and-bits =
    two_cases (λ x. (y : ℕ) → y < 2 → bit_and x y ≡ x % 2 * (y % 2))
    (two_cases (λ y. bit_and 0 y ≡ 0 % 2 * (y % 2)) refl refl) (two_cases (λ y. bit_and 1 y ≡ 1 % 2 * (y % 2)) refl refl)

-- the only nonzero bit is the one
pub bit_over_bit : (x : ℕ) → x < 2 → (y : ℕ) → y < 2 → y ≢ 0 → tower_mul 0 x y ≡ x
unfolding tower_mul
bit_over_bit x fits =
    two_cases (λ y. y ≢ 0 → tower_mul 0 x y ≡ x) (λ nonzero. absurd (nonzero refl))
    (λ nonzero. mul-one (x % 2) ∙ mod-eq_of_lt fits)

-- which is its own inverse
pub bit_times_itself : (x : ℕ) → x < 2 → x ≢ 0 → tower_mul 0 x x ≡ 1
unfolding tower_mul
bit_times_itself = two_cases (λ x. x ≢ 0 → tower_mul 0 x x ≡ 1) (λ nonzero. absurd (nonzero refl)) (λ nonzero. refl)

-- the root that level 0 adjoins is the one
pub root_zero-times : (x : ℕ) → x < 2 → tower_mul 0 (root 0) x ≡ x
unfolding root tower_mul
root_zero-times x fits = one-mul (x % 2) ∙ mod-eq_of_lt fits

-- every nonzero element is a power of the one
pub bit_generator : HasFullOrder 1 (tower_mul 0) 1
unfolding power tower_mul
bit_generator = (refl, λ e above below. absurd (omega arith))

-- the only Cantor vector is the one
pub bit_cantor : AreEvenCantorVectors 0 (λ i. 1)
bit_cantor =
    record {
      first = refl;
      below = λ i below. lit< tt;
      rule = λ i above below. absurd (omega (arith, above, below));
      even = λ i above below. absurd (omega (arith, above, below));
    }

pub bit_cantor_image : AreCantorVectors 1 (tower_mul 0) (λ i. 1)
bit_cantor_image = record { first = refl; rule = λ i above below. absurd (omega (arith, above, below)) }

-- squaring returns each bit, and only 0 has no inverse
pub bit_field : IsField 1 (tower_mul 0)
unfolding repeated_square tower_mul
bit_field =
    record {
      ring = bits_ring;
      inverses = λ a fits nonzero. (a, fits, bit_times_itself a fits nonzero);
      squarings_return = λ a. two_cases (λ d. 1 % 2 * d % 2 * (1 % 2 * d % 2) ≡ d) refl refl (a % 2) (bit_lt a);
    }

pub one_is_nonzero : ◌≢◌ {A = ℕ} 1 0
one_is_nonzero e = absurd (omega (arith, e))

-- the identity is an isomorphism from a level to itself
pub level_basis : (k : ℕ) → IsIsomorphism k (2 ^ k) (tower_mul k) (λ a. a)
level_basis k =
    record {
      below = λ a fits. fits;
      one_image = refl;
      sum_image = λ a b. refl;
      product_image = λ a b. refl;
      inverse = λ b. b % 2 ^ 2 ^ k;
      inverse_below = λ b. mod-lt b (pow_pos (2 ^ k));
      image_of_inverse = λ b fits. mod-eq_of_lt fits;
      inverse_of_image = λ a fits. mod-eq_of_lt fits;
    }

-- x² + x + 1 has no root among them
pub bit_no_root : (x : ℕ) → bit_xor (bit_xor (tower_mul 0 x x) (tower_mul 0 (root 0) x)) 1 ≢ 0
unfolding root tower_mul
bit_no_root x =
    two_cases (λ d. bit_xor (bit_xor (d * d) (1 % 2 * d)) 1 ≢ 0) (λ e. absurd (omega (arith, e)))
    (λ e. absurd (omega (arith, e))) (x % 2) (bit_lt x)
