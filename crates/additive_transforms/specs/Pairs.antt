-- Pairs of places of two slices, one after another.
use Rattle.std.specs.Prelude.{◌≡◌, ℕ, ◌<◌, ◌≤◌, Bool, List, [], ◌∷◌, length, slice_index}
use Rattle.additive_transforms.specs.Stages.{TakesBlock}

-- a pair is a block of two places: the forward butterfly takes it to another, or, where `inverse` is true, the inverse one
abbrev pub taken_pair : Bool → (ℕ → ℕ → ℕ) → ℕ → ℕ → ℕ → ℕ → ℕ → Type 0
taken_pair inverse times s x y x' y' = TakesBlock inverse times s 1 (slice_index (x ∷ y ∷ [])) (slice_index (x' ∷ y' ∷ []))

-- the pairs before place n are done, and those from it on are as they were
pub record PairsSoFar (pair : ℕ → ℕ → ℕ → ℕ → Type 0) (n : ℕ) (lo hi lo' hi' : List ℕ) : Type 0 where
  pub low_length : length lo' ≡ length lo
  pub high_length : length hi' ≡ length hi
  pub done : (p : ℕ) → p < n → pair (slice_index lo p) (slice_index hi p) (slice_index lo' p) (slice_index hi' p)
  pub low_rest : (p : ℕ) → n ≤ p → slice_index lo' p ≡ slice_index lo p
  pub high_rest : (p : ℕ) → n ≤ p → slice_index hi' p ≡ slice_index hi p
