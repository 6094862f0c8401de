use Rattle.std.proofs.Common.{ℕ, ◌∙◌, ◌*◌, ◌%◌, ◌^◌, ap, sym, subst}
use Rattle.std.specs.Prelude.{bit_xor}
use Rattle.packed_lanes.specs.Parts.{HasFirstBlocks}
use Rattle.packed_lanes.proofs.LaneLemmas.{first_blocks}
use Rattle.packed_lanes.proofs.bits.join_even_blocks.Goals as goal

pub returns : goal.returns
returns g c =
    let word = g.met.W.Word in
    let moved = word.shl_law _ _ _ c.shl.ensures ∙ ap (λ (n : ℕ). n * 2 ^ c.args.block % 2 ^ g.W.Word.BITS) c.block_difference.ensures in
    subst (HasFirstBlocks _ _ _ _) (sym (word.xor_law _ _ _ c.bitxor.ensures ∙ ap (bit_xor _) moved))
    (first_blocks g.W.Word.BITS c.args.block _ _ _ c.requires.some c.requires.even)
