use Rattle.std.proofs.Common.{◌∙◌, ap, sym, subst}
use Rattle.std.specs.Prelude.{bit_xor}
use Rattle.packed_lanes.specs.Parts.{HasSecondBlocks}
use Rattle.packed_lanes.proofs.LaneLemmas.{second_blocks}
use Rattle.packed_lanes.proofs.bits.join_odd_blocks.Goals as goal

pub returns : goal.returns
returns g c =
    subst (HasSecondBlocks _ _ _ _) (sym (g.met.W.Word.xor_law _ _ _ c.bitxor.ensures ∙ ap (bit_xor _) c.block_difference.ensures))
    (second_blocks g.W.Word.BITS c.args.block _ _ _ c.requires.even)
