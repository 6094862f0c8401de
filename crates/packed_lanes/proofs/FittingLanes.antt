-- The words of a block are numbers of 64 bits, since those of an operation on its lanes are.
use Rattle.std.proofs.Common.{ℕ, zero, suc, ◌^◌, ◌<◌, List, [], ◌∷◌, get_or, subst, Fits, w64}
use Rattle.std.specs.Prelude.{bit_and}
use Rattle.std.specs.Int.Bits.{and_self}
use Rattle.std.specs.Simd.Lanes.{Each1, zip2}
use Rattle.std.proofs.Math.Facts.{Fits-lt-pow}
use Rattle.std.proofs.lemmas.Nat.{pow_pos}

-- numbers are of 64 bits if the conjunction of each with itself is
pub fit_themselves : (xs : List ℕ) → Each1 (Fits w64) (zip2 bit_and xs xs) → (i : ℕ) → get_or xs i 0 < 2 ^ 64
fit_themselves [] each i = pow_pos 64
fit_themselves (x ∷ xs) each zero = subst (λ (n : ℕ). n < 2 ^ 64) (and_self x) (Fits-lt-pow each.0)
fit_themselves (x ∷ xs) each (suc i) = fit_themselves xs each.1 i
