use Rattle.std.proofs.Common.{◌≡◌, ◌+◌, ◌*◌, ◌%◌, ℕ, map, slice_index}
use Rattle.std.specs.List.{range_with_len}
use Rattle.protocols.proofs.commitment_scheme.Parameters.places.Given as goal

-- the places of the blocks so far
abbrev pub invariant-numbers : goal.invariant-numbers
invariant-numbers g l = l.places.items ≡ map (λ (i : ℕ). i * l.size + slice_index l.numbers i % l.size) (range_with_len 0 l.index)
