use Rattle.std.proofs.Common.{◌≡◌, ◌^◌, ℕ, map, take}
use Rattle.protocols.proofs.Words.{AreBlocks}
use Rattle.protocols.proofs.extension.extend.Given as goal

-- the word begins with the message, and has the values at the points of the blocks so far
abbrev pub invariant-loop-block : goal.invariant-loop-block
invariant-loop-block g l =
    (take (2 ^ l.levels) l.word.items ≡ l.message)
    × AreBlocks g.F.Represented.width g.F.Represented.product (λ (i : ℕ). g.F.TowerLevel.basis (g.F.TowerLevel.cantor i)) l.levels
    (map g.F.Represented.repr l.coefficients.items) l.block (map g.F.Represented.repr l.word.items)
