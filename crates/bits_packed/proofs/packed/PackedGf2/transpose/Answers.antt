use Rattle.std.proofs.Common.{◌≡◌, ◌<◌, ◌≤◌, ◌+◌, ◌*◌, ℕ, ◌∙◌, ap, sym, subst, refl, inl, arith, rules}
use Rattle.std.proofs.lemmas.Nat.{pow-add, pow_pos}
use Rattle.packed_lanes.specs.Parts.{IsBlockSize}
use Rattle.bits_packed.proofs.LaneAccess.{row_bits}
use Rattle.bits_packed.proofs.Rounds.{all_mixed, double_inside, nothing_mixed, same_length}
use Rattle.bits_packed.proofs.packed.PackedGf2.transpose.Goals as goal

pub loop-block-init : goal.loop-block-init
loop-block-init g c =
    let power =
    row_bits g.U.Underlier.BITS g.U.Word.Word.BITS g.U.Underlier.WORD_COUNT g.U.Word.Word.log_bits g.U.Underlier.log_words
    g.met.U.Underlier.bits_law g.met.U.Word.Word.bits_law g.met.U.Underlier.words_law in
    let some : 1 ≤ g.U.Underlier.BITS = subst (λ (z : ℕ). 1 ≤ z) (sym power) (pow_pos (g.U.Word.Word.log_bits + g.U.Underlier.log_words)) in
    (0, refl, some, nothing_mixed g.U.Underlier.BITS _)

pub loop-block-preserved : goal.loop-block-preserved
loop-block-preserved g c =
    let fits : 8 * c.loop-block.block ≤ g.U.Underlier.BITS = search rules in (
      c.loop-block.invariant.0 + 3,
      ap (λ (z : ℕ). z * 8) c.loop-block.invariant.1 ∙ sym (pow-add 2 c.loop-block.invariant.0 3),
      omega (arith, fits),
      same_length g.U.Underlier.BITS (8 * c.loop-block.block) (c.loop-block.block * 8) _ _ (omega arith)
          (c.rounds_of_constant.ensures _ c.loop-block.invariant.3),
    )

pub rounds_of_constant-requires-in-loop-block-2 : goal.rounds_of_constant-requires-in-loop-block-2
rounds_of_constant-requires-in-loop-block-2 g c =
    let less : c.loop-block-2.block < g.U.Underlier.BITS = search rules in
    let power = row_bits g.U.Underlier.BITS _ _ _ _ g.met.U.Underlier.bits_law g.met.U.Word.Word.bits_law g.met.U.Underlier.words_law in
    let size : IsBlockSize g.U.Underlier.BITS c.loop-block-2.block = (c.loop-block-2.invariant.0, c.loop-block-2.invariant.1, less) in
    (size, inl refl, double_inside g.U.Underlier.BITS _ c.loop-block-2.block power size, search rules)

pub loop-block-2-preserved : goal.loop-block-2-preserved
loop-block-2-preserved g c =
    let less : c.loop-block-2.block < g.U.Underlier.BITS = search rules in
    let power = row_bits g.U.Underlier.BITS _ _ _ _ g.met.U.Underlier.bits_law g.met.U.Word.Word.bits_law g.met.U.Underlier.words_law in
    let fits = double_inside g.U.Underlier.BITS _ c.loop-block-2.block power (c.loop-block-2.invariant.0, c.loop-block-2.invariant.1, less) in (
      c.loop-block-2.invariant.0 + 1,
      ap (λ (z : ℕ). z * 2) c.loop-block-2.invariant.1 ∙ sym (pow-add 2 c.loop-block-2.invariant.0 1),
      omega (arith, fits),
      same_length g.U.Underlier.BITS (2 * c.loop-block-2.block) (c.loop-block-2.block * 2) _ _ (omega arith)
          (c.rounds_of_constant-in-loop-block-2.ensures _ c.loop-block-2.invariant.3),
    )

pub returns : goal.returns
returns g c =
    let inside = c.loop-block-2.invariant.2 in
    let whole : c.loop-block-2.block ≡ g.U.Underlier.BITS = omega arith in
    all_mixed g.U.Underlier.BITS c.loop-block-2.block _ _ whole c.loop-block-2.invariant.3
