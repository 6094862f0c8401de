use Rattle.std.proofs.Common.{refl, rules}
use Rattle.packed_lanes.proofs.EvenBlocks.{even_mask, last_block}
use Rattle.packed_lanes.proofs.bits.even_blocks.Goals as goal

pub returns-in-1 : goal.returns-in-1
returns-in-1 c = even_mask _ 1 _ c.in-1.is refl

pub returns-in-2 : goal.returns-in-2
returns-in-2 c = even_mask _ 2 _ c.in-2.is refl

pub returns-in-4 : goal.returns-in-4
returns-in-4 c = even_mask _ 4 _ c.in-4.is refl

pub returns-in-8 : goal.returns-in-8
returns-in-8 c = even_mask _ 8 _ c.in-8.is refl

pub returns-in-16 : goal.returns-in-16
returns-in-16 c = even_mask _ 16 _ c.in-16.is refl

pub returns-in_default : goal.returns-in_default
returns-in_default c =
    let last = last_block c.args.block c.requires (search rules) (search rules) (search rules) (search rules) (search rules) in
    even_mask _ 32 _ last refl
