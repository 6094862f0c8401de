use Rattle.std.proofs.Common.{◌≡◌, length, map, take}
use Rattle.tags.specs.Blocks.{first_blocks}
use Rattle.tags.proofs.interleaved.read_blocks.Given as goal

-- the elements before are those of the blocks before
abbrev pub invariant-loop-place : goal.invariant-loop-place
invariant-loop-place g l =
    (length l.elements ≡ 32) × (take l.place l.elements ≡ map g.E.Encoding.element (first_blocks l.place l.fn.blocks))
