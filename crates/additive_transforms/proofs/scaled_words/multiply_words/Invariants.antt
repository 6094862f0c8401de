use Rattle.std.proofs.Common.{◌≡◌, ◌*◌, ◌≤◌, ℕ, length, map}
use Rattle.std.specs.Prelude.{slice_index}
use Rattle.field_base.specs.Tower.{tower_mul}
use Rattle.additive_transforms.specs.Rows.{level_of}
use Rattle.additive_transforms.specs.Units.{FirstAre}
use Rattle.additive_transforms.proofs.scaled_words.multiply_words.Given as goal

-- the words of the blocks before this one are multiplied
abbrev pub invariant-loop-block : goal.invariant-loop-block
invariant-loop-block g l =
    (length l.words ≡ length l.fn.words)
    × ((s : ℕ) → g.P.Planes.are_multiples l.multiples s → FirstAre (l.lanes * l.block)
    (λ k. tower_mul (level_of g.P.Planes.depth) s (slice_index (map g.W.Reads.number l.fn.words) k))
    (map g.W.Reads.number l.fn.words) (map g.W.Reads.number l.words))
    × (l.block ≤ l.blocks)
