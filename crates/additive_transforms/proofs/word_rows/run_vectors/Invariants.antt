use Rattle.std.proofs.Common.{◌≡◌, ◌+◌, ◌*◌, ◌^◌, ◌<◌, ◌≤◌, ℕ, length}
use Rattle.additive_transforms.specs.Rows.{level_of}
use Rattle.additive_transforms.specs.Words.{TakesWordPairs}
use Rattle.additive_transforms.proofs.word_rows.run_vectors.Given as goal

-- the pairs of the blocks before this one are done
abbrev pub invariant-loop-block : goal.invariant-loop-block
invariant-loop-block g l =
    (length l.lo ≡ length l.fn.lo) × (length l.hi ≡ length l.fn.hi)
    × ((s : ℕ) → g.M.Scales.are_multiples l.fn.scalar.multiples s → s < 2 ^ 2 ^ level_of g.M.Scales.depth
    → (k : ℕ) → level_of g.M.Scales.depth ≤ k → k ≤ level_of g.W.WordBytes.size
    → TakesWordPairs g.W.Reads.number k l.fn.scalar.inverse s l.fn.first (l.fn.first + l.count * l.block) l.fn.lo l.fn.hi l.lo l.hi)
    × (l.block ≤ l.blocks)
