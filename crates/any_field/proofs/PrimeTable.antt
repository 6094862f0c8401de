-- The table of primes, checked whole by computation: of 2^m - 1, for each m of 1 to 128, it leaves 1.
use Rattle.std.proofs.Common.{◌≡◌, inl, inr, ℕ, zero, suc, ◌-◌, ◌^◌, ◌≤◌, ◌<◌, Bool, true, ◌&&◌, refl, ◌∙◌, ap, arith, eqb}
use Rattle.std.specs.Prelude.{ltb, slice_index}
use native.Mathlib.Nat.{eq-or-lt_of_le}
use Rattle.std.proofs.lemmas.Bool.{and_parts, eqb-true, ltb-true}
use Rattle.field_base.proofs.TableChecks.{passes, passes_at}
use Rattle.any_field.proofs.OrderFactors.{removed, divided}
use Rattle.any_field.specs.declared.extension.orders.literals.TheConstants.{PRIMES}

-- whether the table leaves 1 of 2^m - 1, for each m of 1 to n
leaves_one : ℕ → Bool
leaves_one zero = true
leaves_one (suc n) = eqb (removed (2 ^ suc n - 1) PRIMES) 1 && leaves_one n

-- it does (computed)
all-leave_one : leaves_one 128 ≡ true
unfolding leaves_one removed divided
all-leave_one = refl

leaves : (n m : ℕ) → leaves_one n ≡ true → m < n → removed (2 ^ suc m - 1) PRIMES ≡ 1
unfolding leaves_one
leaves zero m pass less = absurd (omega (arith, less))
leaves (suc n) m pass less =
    let parts = and_parts (eqb (removed (2 ^ suc n - 1) PRIMES) 1) (leaves_one n) pass in
    elim (eq-or-lt_of_le (last m n less)) [
      | inl same ↦ ap (λ (k : ℕ). removed (2 ^ suc k - 1) PRIMES) same ∙ eqb-true (removed (2 ^ suc n - 1) PRIMES) 1 parts.0
      | inr below ↦ leaves n m parts.1 below
    ]
  where
    last : (m n : ℕ) → m < suc n → m ≤ n
    last m n less = omega (arith, less)

pub leaves-one : (m : ℕ) → 0 < m → m ≤ 128 → removed (2 ^ m - 1) PRIMES ≡ 1
leaves-one zero wide narrow = absurd (omega (arith, wide))
leaves-one (suc m) wide narrow = leaves 128 m all-leave_one (omega (arith, narrow))

-- each number is above 1 (computed)
all_above : passes (λ x q. ltb 1 q) 0 PRIMES ≡ true
unfolding passes
all_above = refl

pub prime-above : (i : ℕ) → i < 233 → 1 < slice_index PRIMES i
prime-above i within = ltb-true 1 (slice_index PRIMES i) (passes_at (λ x q. ltb 1 q) 0 PRIMES i all_above within)
