use Rattle.std.proofs.Common.{◌≡◌, ◌++◌, length, map, take, drop}
use Rattle.additive_transforms.specs.Images.{after_change, before_change}
use Rattle.additive_transforms.proofs.images.change_basis.Given as goal

-- the numbers before this place are replaced, and the others as they were
abbrev pub invariant-loop-place : goal.invariant-loop-place
invariant-loop-place g l =
    (length l.words ≡ length l.fn.words)
    × (map (after_change l.back) (take l.place (map g.W.Reads.number l.words)) ++ map (before_change l.back) (drop l.place (map g.W.Reads.number l.words))
    ≡ map (before_change l.back) (map g.W.Reads.number l.fn.words))
