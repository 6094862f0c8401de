use Rattle.std.proofs.Common.{◌≡◌, ◌*◌, ◌%◌, ◌^◌, ◌≤◌, ℕ, length, map}
use Rattle.std.specs.Prelude.{bit_xor, slice_index}
use Rattle.additive_transforms.specs.Rows.{level_of}
use Rattle.additive_transforms.specs.Units.{FirstAre}
use Rattle.many_words.specs.Maps.{AreTables}
use Rattle.many_words.proofs.word_maps.add_images.Given as goal

-- the images of the blocks before this one are added
abbrev pub invariant-loop-block : goal.invariant-loop-block
invariant-loop-block g l =
    let number = g.W.Reads.number in
    (length l.sums ≡ length l.fn.sums)
    × ((f : ℕ → ℕ) → AreTables g.S.Planes.lane f 0 l.tables → FirstAre (16 * l.block)
    (λ k. bit_xor (slice_index (map number l.fn.sums) k % 2 ^ 2 ^ level_of g.S.Planes.depth)
    (f (slice_index (map number l.words) k % 2 ^ 2 ^ level_of g.S.Planes.depth))) (map number l.fn.sums) (map number l.sums))
    × (l.block ≤ l.blocks)
