use Rattle.std.proofs.Common.{◌≡◌, ℕ, ◌<◌, length}
use Rattle.std.specs.Prelude.{slice_index}
use Rattle.field_slices.proofs.decompositions.count_up.Given as goal

-- the places before this one have their own numbers
abbrev pub invariant-loop-place : goal.invariant-loop-place
invariant-loop-place l = (length l.order ≡ length l.fn.order) × ((i : ℕ) → i < l.place → slice_index l.order i ≡ i)
