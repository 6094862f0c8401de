use Rattle.std.proofs.Common.{◌≡◌, ◌*◌, ◌≤◌, ℕ, length, map}
use Rattle.std.specs.Prelude.{bit_xor, slice_index}
use Rattle.field_base.specs.Tower.{tower_mul}
use Rattle.additive_transforms.specs.Rows.{level_of}
use Rattle.additive_transforms.specs.Units.{FirstAre}
use Rattle.additive_transforms.proofs.scaled_words.add_multiples.Given as goal

-- the products of the blocks before this one are added
abbrev pub invariant-loop-block : goal.invariant-loop-block
invariant-loop-block g l =
    (length l.sums ≡ length l.fn.sums)
    × ((s : ℕ) → g.P.Planes.are_multiples l.multiples s → FirstAre (l.lanes * l.block)
    (λ k. bit_xor (slice_index (map g.W.Reads.number l.fn.sums) k)
    (tower_mul (level_of g.P.Planes.depth) s (slice_index (map g.W.Reads.number l.words) k)))
    (map g.W.Reads.number l.fn.sums) (map g.W.Reads.number l.sums))
    × (l.block ≤ l.blocks)
