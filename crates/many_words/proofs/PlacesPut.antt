-- Loops over a slice that put results in place.
use Rattle.std.proofs.Common.{◌≡◌, ℕ, ◌<◌, ◌≤◌, List, length, get_or}

-- the slice is as long as it was, this holds of each place before `place`, and the places from there on are as they were
abbrev pub ArePut : {W : Type 0} → List W → List W → ℕ → (ℕ → W → Type 0) → Type 0
ArePut {W} before after place Holds =
    (length after ≡ length before)
    × ((k : ℕ) → k < place → (d : W) → Holds k d)
    × ((k : ℕ) → place ≤ k → k < length after → (d : W) → get_or after k d ≡ get_or before k d)

-- each place before `place` is related to what it held, and the places from there on are as they were
abbrev pub AreRelated : {W : Type 0} → (W → W → Type 0) → List W → List W → ℕ → Type 0
AreRelated relates before after place = ArePut before after place (λ k d. relates (get_or before k d) (get_or after k d))
