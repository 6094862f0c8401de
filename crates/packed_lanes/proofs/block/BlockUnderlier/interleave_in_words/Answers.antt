use Rattle.std.proofs.Common.{refl}
use Rattle.packed_lanes.specs.Parts.{HasFirstBlocks, HasSecondBlocks}
use Rattle.packed_lanes.proofs.BlockLemmas.{first_in_words, of_joined, second_in_words}
use Rattle.packed_lanes.proofs.block.BlockUnderlier.interleave_in_words.Goals as goal

pub returns-clause-first : goal.returns-clause-first
returns-clause-first g c =
    first_in_words 64 6 c.args.block g.row.N _ _ _ refl c.requires
    (of_joined (HasFirstBlocks 64 c.args.block) g.row.N _ _ _ c.checked-left.ensures.whole c.checked-right.ensures.whole c.checked-first.ensures.whole
    c.interleave_lanes-first.ensures.first)

pub returns-clause-second : goal.returns-clause-second
returns-clause-second g c =
    second_in_words 64 6 c.args.block g.row.N _ _ _ refl c.requires
    (of_joined (HasSecondBlocks 64 c.args.block) g.row.N _ _ _ c.checked-left.ensures.whole c.checked-right.ensures.whole c.checked-second.ensures.whole
    c.interleave_lanes-first.ensures.second)
