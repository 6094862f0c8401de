-- Sums to which multiples of values were added.
use Rattle.std.proofs.Common.{◌≡◌, ℕ, zero, suc, ◌<◌, List, [], ◌∷◌, length, refl, ◌∙◌, ap, arith}
use Rattle.std.specs.Prelude.{bit_xor, slice_index}
use Rattle.std.specs.Simd.Lanes.{zip2}
use Rattle.field_slices.specs.Matrices.{AreScaledSums}

-- what stands at a place of numbers that are computed place by place
zip2-at : (f : ℕ → ℕ → ℕ) (xs ys : List ℕ) (n : ℕ) → n < length xs → length ys ≡ length xs
    → slice_index (zip2 f xs ys) n ≡ f (slice_index xs n) (slice_index ys n)
zip2-at f [] ys n below same = absurd (omega (arith, below))
zip2-at f (x ∷ xs) [] n below same = absurd (omega (arith, same))
zip2-at f (x ∷ xs) (y ∷ ys) zero below same = refl
zip2-at f (x ∷ xs) (y ∷ ys) (suc n) below same = zip2-at f xs ys n (omega (arith, below)) (omega (arith, same))

pub scaled_sums : (times : ℕ → ℕ → ℕ) (s : ℕ) (values old now : List ℕ) → length values ≡ length old
    → now ≡ zip2 (λ x y. bit_xor x (times s y)) old values → AreScaledSums times s values old now
scaled_sums times s values old now same is k below =
    ap (λ (ns : List ℕ). slice_index ns k) is ∙ zip2-at (λ x y. bit_xor x (times s y)) old values k below same
