use Rattle.std.proofs.Common.{◌≡◌, ℕ, ◌+◌, ◌-◌, length, map}
use Rattle.std.specs.Prelude.{bit_xor, slice_index}
use Rattle.ghash_slices.specs.Blocks.{HoldBytes, HoldsPlaces}
use Rattle.ghash_slices.proofs.slices.add_bytes.Given as goal

-- the places before are written
abbrev pub invariant-loop-place : goal.invariant-loop-place
invariant-loop-place g l =
    let value = g.W.Reads.number in
    (length l.values ≡ length l.fn.values)
    × ((added : ℕ → ℕ) → HoldBytes l.bytes added
    → HoldsPlaces (λ p. bit_xor (slice_index (map value l.fn.values) p) (added (p - l.start))) l.start (l.start + l.place)
    (map value l.fn.values) (map value l.values))
