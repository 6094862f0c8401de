use Rattle.std.proofs.Common.{◌≡◌, ℕ, length}
use Rattle.additive_transforms.specs.Words.{TakesWordPairs}
use Rattle.additive_transforms.proofs.level_pairs.run_pairs.Given as goal

-- the pairs before this one are done, by any scalar that this one is
abbrev pub invariant-loop-place : goal.invariant-loop-place
invariant-loop-place g l =
    (length l.lo ≡ length l.fn.lo) × (length l.hi ≡ length l.fn.hi)
    × ((s : ℕ) → g.S.Multiplies.is_scalar l.fn.scalar s
    → TakesWordPairs g.W.Reads.number g.S.Multiplies.level (g.S.Multiplies.inverse l.fn.scalar) s l.fn.first l.place l.fn.lo l.fn.hi l.lo l.hi)
