use Rattle.std.proofs.Common.{◌≡◌, ℕ, ◌*◌}
use Rattle.tags.specs.Powers.{ArePowers}
use Rattle.tags.proofs.Folding.{hash_from}
use Rattle.tags.proofs.blocks.with_few_blocks.Given as goal

-- the blocks before have been added, four at a time
abbrev pub invariant-fours : goal.invariant-fours
invariant-fours g l = (key : ℕ) → ArePowers key l.powers → l.hash ≡ hash_from g.E.Encoding.element key l.sum l.blocks (4 * l.i)

-- and one at a time
abbrev pub invariant-rest : goal.invariant-rest
invariant-rest g l = (key : ℕ) → ArePowers key l.powers → l.hash ≡ hash_from g.E.Encoding.element key l.sum l.blocks l.i
