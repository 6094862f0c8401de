-- Butterflies that restore, and the product by a scalar as a linear map.
use Rattle.std.proofs.Common.{◌≡◌, ℕ, List, [], ◌∷◌, length, refl, sym, ◌∙◌, ap, ap₂, arith}
use Rattle.std.specs.Prelude.{bit_xor}
use Rattle.std.specs.Simd.Lanes.{zip2}
use Rattle.std.proofs.lemmas.Simd.{length-zip2}
use native.Mathlib.Nat.{suc_inj}
use lib.Bits.{xor_assoc, xor_self, xor_zero_r}
use Rattle.field_base.specs.Remainder.{ghash_modulus, mul_mod}
use Rattle.ghash_slices.specs.LowStages.{ghash_product}
use Rattle.ghash_slices.specs.Slices.{ButterfliesRestore}
use Rattle.ghash_slices.specs.Stages.{add_multiple}

-- ---- butterflies

-- what is added twice is gone
undo : (g : ℕ → ℕ) (xs ys : List ℕ) → length xs ≡ length ys
    → zip2 (λ x y. bit_xor x (g y)) (zip2 (λ x y. bit_xor x (g y)) xs ys) ys ≡ xs
undo g [] ys same = refl
undo g (x ∷ xs) [] same = absurd (omega arith)
undo g (x ∷ xs) (y ∷ ys) same =
    ap₂ (λ (z : ℕ) (zs : List ℕ). z ∷ zs)
    (xor_assoc x (g y) (g y) ∙ ap (bit_xor x) (xor_self (g y)) ∙ xor_zero_r x) (undo g xs ys (suc_inj same))

-- the inverse butterfly after the forward one with the same scalar restores both lists
pub butterflies_restore : ButterfliesRestore
butterflies_restore scalar lo hi lo' hi' lo'' hi'' same forward inverse = (low, high)
  where
    length_low : length lo' ≡ length lo
    length_low = ap length forward.low ∙ length-zip2 (add_multiple ghash_product scalar) lo hi same

    high : hi'' ≡ hi
    high =
        inverse.high ∙ ap (λ (l : List ℕ). zip2 bit_xor l lo') forward.high
        ∙ undo (λ y. y) hi lo' (sym same ∙ sym length_low)

    low : lo'' ≡ lo
    low =
        inverse.low ∙ ap₂ (zip2 (add_multiple ghash_product scalar)) forward.low high ∙ undo (mul_mod 128 ghash_modulus scalar) lo hi same

-- ---- the product by a scalar
