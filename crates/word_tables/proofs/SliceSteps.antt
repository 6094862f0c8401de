-- A step of a loop that replaces each element of a slice by its value.
use Rattle.std.proofs.Common.{◌≡◌, ℕ, ◌+◌, ◌<◌, List, ◌++◌, length, map, take, drop, get_or, ◌∙◌, ap}
use Rattle.std.proofs.Math.ListN.{set}
use Rattle.std.proofs.lemmas.List.{get_or_default}
use Rattle.std.proofs.lemmas.List.Edits.{map_over_more}

-- the value of the element at place i is written there, where those before it are written
pub value_written : (f : ℕ → ℕ) (old xs : List ℕ) (i y : ℕ) → i < length old → i < length xs → y ≡ f (get_or xs i 0)
    → xs ≡ map f (take i old) ++ drop i old → set xs i y ≡ map f (take (i + 1) old) ++ drop (i + 1) old
value_written f old xs i y old_within within of_y so_far =
    ap (set xs i) of_y ∙ map_over_more f old xs i (get_or xs i 0) old_within so_far
    (get_or_default xs i 0 (get_or xs i 0) within)
