-- The bits of a number in the other order: what the reversal of k bits does to sums, to the lowest and the highest bit, and that
-- it undoes itself.
use Rattle.std.proofs.Common.{◌≡◌, ℕ, zero, suc, ◌+◌, ◌*◌, ◌/◌, ◌%◌, ◌^◌, ◌<◌, refl, sym, ◌∙◌, ap, ap₂, arith, lit<}
use Rattle.std.specs.Prelude.{bit_xor}
use Rattle.std.specs.Int.{bit_at, reverse_bits_onto}
use Rattle.std.proofs.lemmas.Nat.{xor_block, pow_pos, mod_low, shr_high}
use Rattle.std.proofs.lemmas.Nat.Bits.{bit_at-suc, bit_at_lowest}
use native.Mathlib.Nat.{mod-lt, mod-eq_of_lt, zero-mul, zero-add, pow-suc, mul-mod_left, mul-div_cancel, div-add-mod', mul_assoc}
use lib.Bits.{xor_shifted}
use Rattle.field_base.proofs.CarrylessProduct.{xor_half, xor_odd}
use Rattle.tags.specs.lemmas.Multiplier.{reverse_bits-lt}

-- the low k bits of n in the other order
abbrev pub reversed : ℕ → ℕ → ℕ
reversed k n = reverse_bits_onto k n 0

-- the reversal keeps sums
pub onto_xor : (k a b c d : ℕ)
    → reverse_bits_onto k (bit_xor a b) (bit_xor c d) ≡ bit_xor (reverse_bits_onto k a c) (reverse_bits_onto k b d)
unfolding reverse_bits_onto
onto_xor zero a b c d = refl
onto_xor (suc k) a b c d =
    ap₂ (reverse_bits_onto k) (xor_half a b)
    (ap (λ (z : ℕ). bit_xor c d * 2 + z) (xor_odd a b)
    ∙ sym (xor_block 1 c d (a % 2) (b % 2) (mod-lt a (lit< tt)) (mod-lt b (lit< tt))))
    ∙ onto_xor k (a / 2) (b / 2) (c * 2 + a % 2) (d * 2 + b % 2)

pub reversed_xor : (k a b : ℕ) → reversed k (bit_xor a b) ≡ bit_xor (reversed k a) (reversed k b)
reversed_xor k a b = onto_xor k a b 0 0

-- what the reversed bits come after
onto_start : (k n a : ℕ) → reverse_bits_onto k n a ≡ a * 2 ^ k + reversed k n
unfolding reverse_bits_onto
onto_start zero n a = omega arith
onto_start (suc k) n a =
    let power : 2 ^ suc k ≡ 2 ^ k * 2 = pow-suc 2 k in
    let left : reverse_bits_onto k (n / 2) (a * 2 + n % 2) ≡ (a * 2 + n % 2) * 2 ^ k + reversed k (n / 2) =
    onto_start k (n / 2) (a * 2 + n % 2) in
    let right : reverse_bits_onto k (n / 2) (0 * 2 + n % 2) ≡ (0 * 2 + n % 2) * 2 ^ k + reversed k (n / 2) =
    onto_start k (n / 2) (0 * 2 + n % 2) in
    left ∙ moved (2 ^ k) (2 ^ suc k) power ∙ sym (ap (λ (z : ℕ). a * 2 ^ suc k + z) right)
  where
    moved : (p q : ℕ) → q ≡ p * 2
        → (a * 2 + n % 2) * p + reversed k (n / 2) ≡ a * q + ((0 * 2 + n % 2) * p + reversed k (n / 2))
    moved p q e = grind arith

-- the lowest bit comes to the highest place
pub reversed_front : (k n : ℕ) → reversed (suc k) n ≡ n % 2 * 2 ^ k + reversed k (n / 2)
unfolding reverse_bits_onto
reversed_front k n =
    onto_start k (n / 2) (0 * 2 + n % 2) ∙ ap (λ (z : ℕ). z * 2 ^ k + reversed k (n / 2)) (zero-add (n % 2))

-- k bits stay k bits
pub reversed-lt : (k n : ℕ) → reversed k n < 2 ^ k
reversed-lt k n = reverse_bits-lt k n

-- a single bit
first_bit : (n : ℕ) → reversed 1 n ≡ reversed 0 n * 2 + bit_at n 0
unfolding reverse_bits_onto
first_bit n = ap (λ (z : ℕ). 0 + z) (sym (bit_at_lowest n))

-- the highest bit comes to the lowest place
pub reversed_back : (k n : ℕ) → reversed (suc k) n ≡ reversed k n * 2 + bit_at n k
reversed_back zero n = first_bit n
reversed_back (suc k) n =
    reversed_front (suc k) n
    ∙ ap (λ (z : ℕ). n % 2 * 2 ^ suc k + z) (reversed_back k (n / 2))
    ∙ moved (2 ^ k) (2 ^ suc k) (reversed k (n / 2)) (pow-suc 2 k)
    ∙ ap₂ (λ (y z : ℕ). y * 2 + z) (sym (reversed_front k n)) (sym (bit_at-suc n k))
  where
    moved : (p q r : ℕ) → q ≡ p * 2
        → n % 2 * q + (r * 2 + bit_at (n / 2) k) ≡ (n % 2 * p + r) * 2 + bit_at (n / 2) k
    moved p q r e = omega (arith, ap (λ (z : ℕ). n % 2 * z) e ∙ sym (mul_assoc (n % 2) p 2))

-- bits above the k low ones do not count
pub reversed_high : (k h : ℕ) → reversed k (h * 2 ^ k) ≡ 0
unfolding reverse_bits_onto
reversed_high zero h = refl
reversed_high (suc k) h =
    let even : h * 2 ^ suc k ≡ h * 2 ^ k * 2 = ap (λ (z : ℕ). h * z) (pow-suc 2 k) ∙ sym (mul_assoc h (2 ^ k) 2) in
    ap (reversed (suc k)) even ∙ reversed_front k (h * 2 ^ k * 2)
    ∙ ap₂ (λ (y z : ℕ). y * 2 ^ k + reversed k z) (mul-mod_left (h * 2 ^ k) 2) (mul-div_cancel (h * 2 ^ k) (lit< tt))
    ∙ ap (λ (z : ℕ). z + reversed k (h * 2 ^ k)) (zero-mul (2 ^ k)) ∙ zero-add (reversed k (h * 2 ^ k)) ∙ reversed_high k h

pub reversed_low : (k n : ℕ) → reversed k (n % 2 ^ k) ≡ reversed k n
reversed_low k n =
    let low : ℕ = reversed k (n % 2 ^ k) in
    sym (ap (reversed k) (sym (div-add-mod' n (2 ^ k)) ∙ sym (xor_shifted (n / 2 ^ k) k (n % 2 ^ k) (mod-lt n (pow_pos k))))
    ∙ reversed_xor k (n / 2 ^ k * 2 ^ k) (n % 2 ^ k)
    ∙ ap (λ (z : ℕ). bit_xor z (reversed k (n % 2 ^ k))) (reversed_high k (n / 2 ^ k))
    ∙ ap (λ (z : ℕ). bit_xor z low) (sym (zero-mul (2 ^ k)))
    ∙ xor_shifted 0 k low (reversed-lt k (n % 2 ^ k)) ∙ ap (λ (z : ℕ). z + low) (zero-mul (2 ^ k)) ∙ zero-add low)

-- the reversal undoes itself
pub reversed_twice : (k n : ℕ) → n < 2 ^ k → reversed k (reversed k n) ≡ n
unfolding reverse_bits_onto
reversed_twice zero n fits = omega arith
reversed_twice (suc k) n fits =
    let r : ℕ = reversed k (n / 2) in
    let r_fits : r < 2 ^ k = reversed-lt k (n / 2) in
    let m : ℕ = n % 2 * 2 ^ k + r in
    let half : n / 2 < 2 ^ k = omega (arith, fits, pow-suc 2 k) in
    let front : reversed (suc k) n ≡ m = reversed_front k n in
    let lower : m % 2 ^ k ≡ r = mod_low (n % 2) k r r_fits in
    let upper : bit_at m k ≡ n % 2 = high_of (n % 2) r r_fits (mod-lt n (lit< tt)) in
    ap (reversed (suc k)) front ∙ reversed_back k m
    ∙ ap₂ (λ (y z : ℕ). y * 2 + z) (sym (reversed_low k m) ∙ ap (reversed k) lower ∙ reversed_twice k (n / 2) half) upper
    ∙ div-add-mod' n 2
  where
    high_of : (d r : ℕ) → r < 2 ^ k → d < 2 → bit_at (d * 2 ^ k + r) k ≡ d
    high_of d r r_fits bit = ap (λ (z : ℕ). z % 2) (shr_high d k r r_fits) ∙ mod-eq_of_lt bit
