use Rattle.std.proofs.Common.{◌≡◌, ◌*◌, ◌%◌, ◌^◌, ◌≤◌, ℕ, length, map}
use Rattle.std.specs.Prelude.{slice_index}
use Rattle.additive_transforms.specs.Rows.{level_of}
use Rattle.additive_transforms.specs.Units.{FirstAre}
use Rattle.many_words.specs.Maps.{AreTables}
use Rattle.many_words.proofs.word_maps.map_words.Given as goal

-- the words of the blocks before this one are replaced
abbrev pub invariant-loop-block : goal.invariant-loop-block
invariant-loop-block g l =
    let number = g.W.Reads.number in
    (length l.words ≡ length l.fn.words)
    × ((f : ℕ → ℕ) → AreTables g.S.Planes.lane f 0 l.tables → FirstAre (16 * l.block)
    (λ k. f (slice_index (map number l.fn.words) k % 2 ^ 2 ^ level_of g.S.Planes.depth)) (map number l.fn.words) (map number l.words))
    × (l.block ≤ l.blocks)
