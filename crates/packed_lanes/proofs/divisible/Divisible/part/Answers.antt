use Rattle.std.proofs.Common.{◌≡◌, ◌<◌, ◌+◌, ◌*◌, ℕ, ◌∙◌, ap, arith, rules}
use Rattle.field_base.specs.Chunks.{chunk}
use Rattle.packed_lanes.proofs.BlockLemmas.{more_parts}
use Rattle.packed_lanes.proofs.LaneLemmas.{power_some}
use Rattle.packed_lanes.proofs.WideParts.{is_part}
use Rattle.packed_lanes.proofs.divisible.Divisible.part.Goals as goal

pub loop-k-preserved : goal.loop-k-preserved
loop-k-preserved g c =
    let word = g.V.Word.Word in
    let row = g.Self.Underlier.number c.args.self.now in
    let inside : c.loop-k.k < g.V.Underlier.WORD_COUNT = search rules in (
      more_parts (λ (j x : ℕ). x ≡ chunk word.BITS (c.args.i * g.V.Underlier.WORD_COUNT + j) row) word.BITS g.V.Underlier.WORD_COUNT
          (g.V.Underlier.number c.loop-k.part) c.loop-k.k (word.number c.narrow_word.result) (g.V.Underlier.number c.set_word.new.self)
          inside c.set_word.ensures.replaced
          (c.narrow_word.ensures ∙ ap (λ (p : ℕ). chunk word.BITS p row) c.word_of_part.ensures.value) c.loop-k.invariant.0,
      c.set_word.ensures.whole,
    )

pub returns-clause-value : goal.returns-clause-value
returns-clause-value g c =
    let word = g.V.Word.Word in
    let some = power_some _ _ g.met.V.Word.Word.bits_law in
    is_part word.BITS g.V.Underlier.WORD_COUNT g.V.Underlier.BITS (g.Self.Underlier.number c.args.self.now) c.args.i
    (g.V.Underlier.number c.loop-k.part) some g.met.V.Underlier.bits_law (g.V.Underlier.range_law c.loop-k.part c.loop-k.invariant.1)
    (λ j less. let here : j < c.loop-k.k = omega arith in c.loop-k.invariant.0 j here)
