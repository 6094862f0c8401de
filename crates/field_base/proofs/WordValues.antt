-- The values of words.
use Rattle.std.proofs.Common.{ℕ, zero, suc, ◌^◌, ◌<◌, List, [], ◌∷◌, map}
use Rattle.std.specs.Prelude.{slice_index}
use Rattle.std.proofs.lemmas.Nat.{pow_pos}

-- the values of words have at most so many bits
pub values_fit : {A : Type 0} (width : ℕ) (value : A → ℕ) → ((x : A) → value x < 2 ^ width) → (xs : List A) (p : ℕ)
    → slice_index (map value xs) p < 2 ^ width
values_fit width value fits [] p = pow_pos width
values_fit width value fits (x ∷ xs) zero = fits x
values_fit width value fits (x ∷ xs) (suc p) = values_fit width value fits xs p
