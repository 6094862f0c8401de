use Rattle.std.proofs.Common.{ℕ, ◌+◌, not, sym, ◌∙◌, ap, arith}
use Rattle.reed_solomon.proofs.LostCounts.{lost_count-hit, lost_count-miss, lost_count-nil}
use Rattle.reed_solomon.specs.Restoring.{is_missing}
use Rattle.reed_solomon.proofs.transform_codec.missing_count.Goals as goal
use Rattle.reed_solomon.proofs.transform_codec.missing_count.Goals.{then-not-present-i, else-not-present-i}

pub loop-i-init : goal.loop-i-init
loop-i-init c = (sym (lost_count-nil (is_missing c.args.present.now)), omega arith)

pub loop-i-preserved : goal.loop-i-preserved
loop-i-preserved c =
    let missing = is_missing c.args.present.now in
    let so_far = c.loop-i.invariant.0 in
    elim c.if-not-present-i.branch [
      | then-not-present-i w ↦ (
        w.count-is ∙ ap (λ (n : ℕ). n + 1) so_far
            ∙ sym (lost_count-hit missing c.loop-i.i
            (ap not w.if-not-present-i.true)),
        omega (arith, w.count-is, c.loop-i.invariant.1),
      )
      | else-not-present-i w ↦ (
        w.count-is ∙ so_far
            ∙ sym (lost_count-miss missing c.loop-i.i
            (ap not w.if-not-present-i.false)),
        omega (arith, w.count-is, c.loop-i.invariant.1),
      )
    ]
