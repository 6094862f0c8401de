use Rattle.std.proofs.Common.{◌≡◌}
use Rattle.field_base.specs.LinearMaps.{linear_image}
use Rattle.word_tables.proofs.BlockLemmas.{done_before}
use Rattle.word_tables.proofs.images.map_each.Given as goal

-- the bytes before this place are written over, and the others are as they were
abbrev pub invariant-loop-place : goal.invariant-loop-place
invariant-loop-place l = l.bytes ≡ done_before (linear_image l.images) l.place l.fn.bytes
