use Rattle.std.proofs.Common.{length, slice_index, refl, ◌∙◌, ap, arith}
use Rattle.std.proofs.lemmas.List.{length-set}
use Rattle.error_codes.proofs.CodeValues.{entry-more}
use Rattle.error_codes.proofs.field_code.FieldCode.fill_erasures.Goals as goal
use Rattle.error_codes.proofs.field_code.FieldCode.fill_erasures.Goals.{then-marked-i, else-marked-i}

pub loop-i-init : goal.loop-i-init
loop-i-init g c = (refl, refl, λ sent checked same j below. absurd (omega (arith, below)))

pub loop-i-preserved : goal.loop-i-preserved
loop-i-preserved g c = (
  elim c.if-marked-i.branch [
    | then-marked-i w ↦ ap length w.sums-is ∙ w.difference-symbol.ensures.long ∙ c.loop-i.invariant.0
    | else-marked-i w ↦ ap length w.sums-is ∙ c.loop-i.invariant.0
  ],
  length-set c.loop-i.symbols c.loop-i.i _ ∙ c.loop-i.invariant.1,
  λ sent checked same.
      (entry-more sent _ c.loop-i.i _ c.loop-i.symbols
      (c.loop-i.invariant.1, c.loop-i.invariant.2 sent checked same) (omega (arith, c.requires.written, c.loop-i-test.true))
      (elim c.if-marked-i.branch [
        | then-marked-i w ↦
            w.symbol-is
            ∙ w.difference-symbol.ensures.difference (slice_index c.args.word.now) sent c.requires.values c.requires.elements
            checked same
        | else-marked-i w ↦ w.symbol-is ∙ same c.loop-i.i c.loop-i-test.true w.if-marked-i.false
      ])).1,
)
