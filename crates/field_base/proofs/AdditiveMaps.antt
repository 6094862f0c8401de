-- A map of numbers that keeps sums is known by its values at the powers of two.
use Rattle.std.proofs.Common.{◌≡◌, ◌⊎◌, inl, inr, ℕ, zero, suc, ◌+◌, ◌*◌, ◌/◌, ◌%◌, ◌^◌, ◌<◌, Bool, true, ◌&&◌, eqb, sym, ◌∙◌, ap, ap₂, subst, arith}
use Rattle.std.specs.Prelude.{bit_xor}
use Rattle.std.proofs.lemmas.Bool.{eqb-true, and_parts}
use Rattle.std.proofs.lemmas.Nat.{pow_pos, shr_split, shr_below}
use native.Mathlib.Nat.{mod-lt, zero-mul, one-mul, eq-or-lt_of_le, le_of_suc-le-suc}
use lib.Arith.{lt-one}
use lib.Bits.{xor_self, xor_shifted}
use Rattle.field_base.specs.lemmas.BitRing.{two_cases}

-- ---- maps that agree

-- f keeps sums
abbrev pub KeepsSums : (ℕ → ℕ) → Type 0
KeepsSums f = (a b : ℕ) → f (bit_xor a b) ≡ bit_xor (f a) (f b)

-- a map that keeps sums takes 0 to 0
pub keeps_zero : (f : ℕ → ℕ) → KeepsSums f → f 0 ≡ 0
keeps_zero f f_sum = f_sum 0 0 ∙ xor_self (f 0)

module _ (f g : ℕ → ℕ) (f_sum : KeepsSums f) (g_sum : KeepsSums g) where
  -- two such maps agree at 0
  zeros_agree : f 0 ≡ g 0
  zeros_agree = keeps_zero f f_sum ∙ sym (keeps_zero g g_sum)

  -- at a bit moved to place n
  bits_agree : (n : ℕ) → f (2 ^ n) ≡ g (2 ^ n) → (d : ℕ) → d < 2 → f (d * 2 ^ n) ≡ g (d * 2 ^ n)
  bits_agree n same =
      two_cases (λ d. f (d * 2 ^ n) ≡ g (d * 2 ^ n))
      (ap f (zero-mul (2 ^ n)) ∙ zeros_agree ∙ ap g (sym (zero-mul (2 ^ n))))
      (ap f (one-mul (2 ^ n)) ∙ same ∙ ap g (sym (one-mul (2 ^ n))))

  -- two such maps that agree at the powers of two below 2 ^ n agree below it
  pub maps_agree : (n : ℕ) → ((i : ℕ) → i < n → f (2 ^ i) ≡ g (2 ^ i)) → (x : ℕ) → x < 2 ^ n → f x ≡ g x
  maps_agree zero same x fits = ap f (lt-one fits) ∙ zeros_agree ∙ ap g (sym (lt-one fits))
  maps_agree (suc n) same x fits =
      ap f (sym split)
      ∙ f_sum (x / 2 ^ n * 2 ^ n) (x % 2 ^ n)
      ∙ ap₂ bit_xor (bits_agree n (same n (omega arith)) (x / 2 ^ n) (shr_below x 1 n (subst (λ (m : ℕ). x < 2 ^ m) (sum n) fits)))
      (maps_agree n (λ i below. same i (omega arith)) (x % 2 ^ n) (mod-lt x (pow_pos n)))
      ∙ sym (g_sum (x / 2 ^ n * 2 ^ n) (x % 2 ^ n))
      ∙ ap g split
    where
      sum : (m : ℕ) → suc m ≡ 1 + m
      sum m = omega arith

      split : bit_xor (x / 2 ^ n * 2 ^ n) (x % 2 ^ n) ≡ x
      split = xor_shifted (x / 2 ^ n) n (x % 2 ^ n) (mod-lt x (pow_pos n)) ∙ shr_split x n

-- ---- the test of the powers of two

-- whether f and g agree at the powers of two below 2 ^ n: true by computation at two given maps
abbrev pub agree_on_powers : (ℕ → ℕ) → (ℕ → ℕ) → ℕ → Bool
agree_on_powers f g zero = true
agree_on_powers f g (suc n) = eqb (f (2 ^ n)) (g (2 ^ n)) && agree_on_powers f g n

-- maps for which the check of the first n powers of two passes agree there
pub agree_on_powers-true : (f g : ℕ → ℕ) (n : ℕ) → agree_on_powers f g n ≡ true
    → (i : ℕ) → i < n → f (2 ^ i) ≡ g (2 ^ i)
agree_on_powers-true f g zero holds i below = absurd (omega arith)
agree_on_powers-true f g (suc n) holds i below =
    pick i (and_parts (eqb (f (2 ^ n)) (g (2 ^ n))) (agree_on_powers f g n) holds) (eq-or-lt_of_le (le_of_suc-le-suc below))
    (λ rest lower. agree_on_powers-true f g n rest i lower)
  where
    pick : (k : ℕ) → (eqb (f (2 ^ n)) (g (2 ^ n)) ≡ true) × (agree_on_powers f g n ≡ true) → (k ≡ n) ⊎ (k < n)
        → (agree_on_powers f g n ≡ true → k < n → f (2 ^ k) ≡ g (2 ^ k)) → f (2 ^ k) ≡ g (2 ^ k)
    pick k both (inl same) others =
        subst (λ (m : ℕ). f (2 ^ m) ≡ g (2 ^ m)) (sym same) (eqb-true (f (2 ^ n)) (g (2 ^ n)) both.0)
    pick k both (inr lower) others = others both.1 lower
