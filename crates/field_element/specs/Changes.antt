-- Lists of elements that are changed place by place.
use Rattle.std.specs.Prelude.{◌≡◌, ℕ, ◌<◌, List, length, map, slice_index}

-- each element is, by its number, related to the one that stood at its place
pub record AreChanged {A : Type 0} (number : A → ℕ) (relates : ℕ → ℕ → ℕ → Type 0) (old new : List A) : Type 0 where
  pub long : length new ≡ length old
  pub results : (k : ℕ) → k < length old → relates k (slice_index (map number old) k) (slice_index (map number new) k)
