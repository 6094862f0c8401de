-- Addition chains for inverses: runs of ones, the powers a ^ (2 ^ n - 1), and how two of them join.
use Rattle.std.proofs.Common.{◌≡◌, ℕ, zero, suc, ◌+◌, ◌-◌, ◌^◌, ◌<◌, refl, sym, ◌∙◌, ap, ap₂, arith}
use Rattle.std.proofs.lemmas.Nat.{pow_pos}
use native.Mathlib.Nat.{pow-suc}
use Rattle.field_base.specs.Powers.{power, repeated_square}
use Rattle.field_base.specs.Ring.{IsRing}
use Rattle.field_base.proofs.PowerLemmas.{one-times, times-one, square_times, power-add, repeated_square-none, repeated_square_more}
use Rattle.field_base.proofs.RingLemmas.{times-zero}

-- a ^ (2 ^ n - 1): each run is the square of the one before, times a
unfoldable pub run : (ℕ → ℕ → ℕ) → ℕ → ℕ → ℕ
run times zero a = 1
run times (suc n) a = times (times (run times n a) (run times n a)) a

module _ (width : ℕ) (times : ℕ → ℕ → ℕ) (ring : IsRing width 1 times) (one_fits : 1 < 2 ^ width) where
  -- a run of ones is an element
  run-lt : (n a : ℕ) → run times n a < 2 ^ width
  unfolding run
  run-lt zero a = one_fits
  run-lt (suc n) a = ring.below (times (run times n a) (run times n a)) a

  -- the run of a single one is the element itself
  pub run-one : (a : ℕ) → a < 2 ^ width → a ≡ run times 1 a
  unfolding run
  run-one a fits =
      sym (ap (λ (x : ℕ). times x a) (one-times width 1 times ring 1 one_fits) ∙ one-times width 1 times ring a fits)

  -- the run of m ones, squared n times, times the run of n ones is the run of m + n ones
  run-join : (m n a : ℕ) → times (repeated_square 1 times n (run times m a)) (run times n a) ≡ run times (m + n) a
  unfolding run repeated_square
  run-join m zero a =
      let same : m ≡ m + 0 = omega arith in
      times-one width 1 times ring (times 1 (run times m a)) (ring.below 1 (run times m a))
      ∙ one-times width 1 times ring (run times m a) (run-lt m a) ∙ ap (λ (k : ℕ). run times k a) same
  run-join m (suc n) a =
      let next : suc (m + n) ≡ m + suc n = omega arith in
      let moved : ℕ = repeated_square 1 times n (run times m a) in
      sym (ring.assoc (times moved moved) (times (run times n a) (run times n a)) a)
      ∙ ap (λ (x : ℕ). times x a)
      (sym (square_times width 1 times ring moved (run times n a)) ∙ ap (λ (x : ℕ). times x x) (run-join m n a))
      ∙ ap (λ (k : ℕ). run times k a) next

  -- two runs, the first squared as many times as the second is long
  pub joined : (m n a first second moved product : ℕ) → first ≡ run times m a → second ≡ run times n a
      → moved ≡ repeated_square 1 times n first → product ≡ times moved second → product ≡ run times (m + n) a
  joined m n a first second moved product of_first of_second of_moved of_product =
      of_product ∙ ap₂ times (of_moved ∙ ap (repeated_square 1 times n) of_first) of_second ∙ run-join m n a

  -- a square is one repeated squaring
  pub squared_once : (a square : ℕ) → a < 2 ^ width → square ≡ times a a → square ≡ repeated_square 1 times 1 a
  unfolding repeated_square
  squared_once a square fits of_square =
      of_square ∙ sym (ap (λ (x : ℕ). times x x) (one-times width 1 times ring a fits))

  -- squared no times
  pub squared_none : (a : ℕ) → a < 2 ^ width → a ≡ repeated_square 1 times 0 a
  squared_none a fits = sym (repeated_square-none width 1 times ring a fits)

  -- squared once more
  pub squared_more : (n a now next : ℕ) → next ≡ times now now → now ≡ repeated_square 1 times n a → next ≡ repeated_square 1 times (n + 1) a
  squared_more n a now next is so_far = is ∙ ap (λ (x : ℕ). times x x) so_far ∙ sym (repeated_square_more width 1 times ring n a)

  -- the run of n ones is the power a^(2^n - 1)
  run-power : (n a : ℕ) → run times n a ≡ power 1 times a (2 ^ n - 1)
  unfolding run power
  run-power zero a = refl
  run-power (suc n) a =
      let positive = pow_pos n in
      let twice : suc (2 ^ n - 1 + (2 ^ n - 1)) ≡ 2 ^ suc n - 1 = omega (arith, positive, pow-suc 2 n) in
      ap (λ (x : ℕ). times x a)
      (ap₂ times (run-power n a) (run-power n a)
      ∙ sym (power-add width 1 times ring one_fits a (2 ^ n - 1) (2 ^ n - 1)))
      ∙ ap (power 1 times a) twice

  -- the square of the run of n ones
  pub chain_end : (n a ones square : ℕ) → ones ≡ run times n a → square ≡ times ones ones
      → square ≡ power 1 times a (2 ^ suc n - 2)
  chain_end n a ones square of_ones of_square =
      let positive = pow_pos n in
      let twice : 2 ^ n - 1 + (2 ^ n - 1) ≡ 2 ^ suc n - 2 = omega (arith, positive, pow-suc 2 n) in
      of_square ∙ ap (λ (x : ℕ). times x x) (of_ones ∙ run-power n a)
      ∙ sym (power-add width 1 times ring one_fits a (2 ^ n - 1) (2 ^ n - 1)) ∙ ap (power 1 times a) twice

  -- a power of 0
  pub power_of_zero : (n : ℕ) → 0 < n → power 1 times 0 n ≡ 0
  unfolding power
  power_of_zero zero positive = absurd (omega arith)
  power_of_zero (suc n) positive = times-zero width 1 times ring (power 1 times 0 n)
