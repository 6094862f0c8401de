use Rattle.std.proofs.Common.{◌≤◌, ◌/◌, ℕ, sym, subst}
use Rattle.packed_lanes.specs.Parts.{IsBlockSize}
use Rattle.packed_lanes.proofs.LaneLemmas.{power_some}
use Rattle.bits_packed.proofs.LaneAccess.{block_of_words, word_block}
use Rattle.bits_packed.proofs.packed.transpose.interleave_blocks.Goals as goal

pub interleave_words-first-requires : goal.interleave_words-first-requires
interleave_words-first-requires g c =
    let some = power_some _ _ g.met.U.Word.Word.bits_law in
    let more : g.U.Word.Word.BITS ≤ c.args.block = subst (λ (z : ℕ). z ≤ c.args.block) c.BITS-word_bits.ensures c.if-block-word_bits.false in
    subst (λ (z : ℕ). IsBlockSize g.U.Underlier.WORD_COUNT (c.args.block / z)) (sym c.BITS-word_bits.ensures)
    (word_block g.U.Word.Word.BITS g.U.Word.Word.log_bits g.U.Underlier.WORD_COUNT c.args.block some g.met.U.Word.Word.bits_law
    (subst (λ (z : ℕ). IsBlockSize z c.args.block) g.met.U.Underlier.bits_law c.requires) more)

pub returns-else-block-word_bits-clause-first : goal.returns-else-block-word_bits-clause-first
returns-else-block-word_bits-clause-first g c =
    rw (← block_of_words g.U.Word.Word.BITS g.U.Word.Word.log_bits c.args.block g.U.Underlier.BITS g.met.U.Word.Word.bits_law c.requires
    c.BITS-word_bits.ensures c.if-block-word_bits.false) c.interleave_words-first.ensures.first

pub returns-else-block-word_bits-clause-second : goal.returns-else-block-word_bits-clause-second
returns-else-block-word_bits-clause-second g c =
    rw (← block_of_words g.U.Word.Word.BITS g.U.Word.Word.log_bits c.args.block g.U.Underlier.BITS g.met.U.Word.Word.bits_law c.requires
    c.BITS-word_bits.ensures c.if-block-word_bits.false) c.interleave_words-first.ensures.second
