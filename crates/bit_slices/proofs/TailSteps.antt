-- The product by a tail bit by bit: what is carried has eight bits, the lowest of which is given out at each step.
use Rattle.std.proofs.Common.{◌≡◌, ℕ, zero, suc, ◌+◌, ◌*◌, ◌/◌, ◌%◌, ◌^◌, ◌<◌, sym, ◌∙◌, ap, ap₂, arith, lit<}
use Rattle.std.specs.Prelude.{bit_xor}
use Rattle.std.proofs.lemmas.Nat.{mod_low, shr_high, xor_block, xor_comm, xor_lt}
use native.Mathlib.Nat.{mod-eq_of_lt, mod-lt}
use lib.Bits.{xor_zero_r}
use Rattle.field_base.specs.Carryless.{carryless}
use Rattle.field_base.specs.Quadratic.{pair}
use Rattle.field_base.proofs.CarrylessProduct.{bit_carryless}
use Rattle.field_base.proofs.TowerRing.{halves-lt}
use Rattle.bit_slices.specs.Tails.{tail_product}
use Rattle.bit_slices.proofs.PairProducts.{sum_of_pairs}

-- ---- eight bits

-- the number of four bits, and of eight, as halves of halves
abbrev pub four : ℕ → ℕ → ℕ → ℕ → ℕ
four a b c d = pair 2 (pair 1 a b) (pair 1 c d)

abbrev pub eight : ℕ → ℕ → ℕ → ℕ → ℕ → ℕ → ℕ → ℕ → ℕ
eight a b c d e f g h = pair 4 (four a b c d) (four e f g h)

-- without the lowest bit
pub eight_down : (a b c d e f g h none : ℕ) → none ≡ 0 → eight a b c d e f g h ≡ pair 1 a (eight b c d e f g h none)
eight_down a b c d e f g h none is = omega (arith, is)

four_lt : (a b c d : ℕ) → a < 2 → b < 2 → c < 2 → d < 2 → four a b c d < 2 ^ 4
four_lt a b c d fa fb fc fd = halves-lt 1 (pair 1 a b) (pair 1 c d) (halves-lt 0 a b fa fb) (halves-lt 0 c d fc fd)

four_xor : (a b c d p q r s : ℕ) → a < 2 → b < 2 → c < 2 → p < 2 → q < 2 → r < 2
    → four (bit_xor a p) (bit_xor b q) (bit_xor c r) (bit_xor d s) ≡ bit_xor (four a b c d) (four p q r s)
four_xor a b c d p q r s fa fb fc fp fq fr =
    ap₂ (pair 2) (sum_of_pairs 0 b q fa fp) (sum_of_pairs 0 d s fc fr)
    ∙ sum_of_pairs 1 (pair 1 c d) (pair 1 r s) (halves-lt 0 a b fa fb) (halves-lt 0 p q fp fq)

-- ---- a step

-- a bit times half 2 + 1
parts : (bit half : ℕ) → bit * (half * 2 + 1) ≡ bit * half * 2 ^ 1 + bit
parts bit half = grind arith

-- the tail times a bit, added to what is carried: its lowest bit, and the others
module _ (tail bit lowest others : ℕ) (odd : tail % 2 ≡ 1) (bit_fits : bit < 2) (lowest_fits : lowest < 2) where
  sum_of_step : tail_product tail bit (pair 1 lowest others) ≡ bit_xor (bit * (tail / 2)) others * 2 ^ 1 + bit_xor bit lowest
  sum_of_step =
      ap (λ (z : ℕ). bit_xor z (pair 1 lowest others))
      (ap (λ (z : ℕ). carryless z tail) (sym (mod-eq_of_lt bit_fits)) ∙ bit_carryless bit tail
      ∙ ap₂ (λ (x y : ℕ). x * y) (mod-eq_of_lt bit_fits) (omega (arith, odd)) ∙ parts bit (tail / 2))
      ∙ xor_block 1 (bit * (tail / 2)) others bit lowest bit_fits lowest_fits

  -- the lowest bit
  pub step_lowest : bit_xor lowest bit ≡ tail_product tail bit (pair 1 lowest others) % 2
  step_lowest =
      xor_comm lowest bit
      ∙ sym (ap (λ (z : ℕ). z % 2) sum_of_step
      ∙ mod_low (bit_xor (bit * (tail / 2)) others) 1 (bit_xor bit lowest) (xor_lt 1 bit lowest bit_fits lowest_fits))

  -- and the others
  pub step_carried : bit_xor others (bit * (tail / 2)) ≡ tail_product tail bit (pair 1 lowest others) / 2
  step_carried =
      xor_comm others (bit * (tail / 2))
      ∙ sym (ap (λ (z : ℕ). z / 2) sum_of_step
      ∙ shr_high (bit_xor (bit * (tail / 2)) others) 1 (bit_xor bit lowest) (xor_lt 1 bit lowest bit_fits lowest_fits))

-- a product of bits is a bit
bit_times : (a b : ℕ) → a < 2 → b < 2 → a * b < 2
bit_times zero b fa fb = omega arith
bit_times (suc zero) b fa fb = omega (arith, fb)
bit_times (suc (suc a)) b fa fb = omega (arith, fa)

-- the terms of the tail above 1, divided by x, times a bit: each is added to a slice of what is carried
pub terms_added : (a b c d e f g h bit tail : ℕ) → tail < 2 ^ 8 → a < 2 → b < 2 → c < 2 → d < 2 → e < 2 → f < 2 → g < 2 → bit < 2
    → eight (bit_xor a (bit * (tail / 2 ^ 1 % 2))) (bit_xor b (bit * (tail / 2 ^ 2 % 2))) (bit_xor c (bit * (tail / 2 ^ 3 % 2)))
    (bit_xor d (bit * (tail / 2 ^ 4 % 2))) (bit_xor e (bit * (tail / 2 ^ 5 % 2))) (bit_xor f (bit * (tail / 2 ^ 6 % 2)))
    (bit_xor g (bit * (tail / 2 ^ 7 % 2))) h
    ≡ bit_xor (eight a b c d e f g h) (bit * (tail / 2))
terms_added a b c d e f g h bit tail small fa fb fc fd fe ff fg fits =
    ap (λ (z : ℕ). pair 4 (four (bit_xor a (t 1)) (bit_xor b (t 2)) (bit_xor c (t 3)) (bit_xor d (t 4))) (four (bit_xor e (t 5)) (bit_xor f (t 6)) (bit_xor g (t 7)) z)) (sym (xor_zero_r h))
    ∙ ap₂ (pair 4) (four_xor a b c d (t 1) (t 2) (t 3) (t 4) fa fb fc (t_fits 1) (t_fits 2) (t_fits 3))
    (four_xor e f g h (t 5) (t 6) (t 7) 0 fe ff fg (t_fits 5) (t_fits 6) (t_fits 7))
    ∙ sum_of_pairs 2 (four e f g h) (four (t 5) (t 6) (t 7) 0) (four_lt a b c d fa fb fc fd)
    (four_lt (t 1) (t 2) (t 3) (t 4) (t_fits 1) (t_fits 2) (t_fits 3) (t_fits 4))
    ∙ ap (bit_xor (eight a b c d e f g h)) (whole bit fits)
  where
    t : ℕ → ℕ
    t i = bit * (tail / 2 ^ i % 2)

    t_fits : (i : ℕ) → t i < 2
    t_fits i = bit_times bit (tail / 2 ^ i % 2) fits (mod-lt (tail / 2 ^ i) (lit< tt))

    whole : (z : ℕ) → z < 2 → eight (z * (tail / 2 ^ 1 % 2)) (z * (tail / 2 ^ 2 % 2)) (z * (tail / 2 ^ 3 % 2)) (z * (tail / 2 ^ 4 % 2))
        (z * (tail / 2 ^ 5 % 2)) (z * (tail / 2 ^ 6 % 2)) (z * (tail / 2 ^ 7 % 2)) 0 ≡ z * (tail / 2)
    whole zero less = omega arith
    whole (suc zero) less = omega (arith, small)
    whole (suc (suc z)) less = omega (arith, less)
