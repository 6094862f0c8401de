use Rattle.std.proofs.Common.{◌≡◌, ℕ, Bool, sym, ◌∙◌, ap, arith}
use Rattle.std.specs.Prelude.{not, ◌&&◌}
use Rattle.field_slices.specs.Marks.{marked_below}
use Rattle.error_codes.specs.Filling.{is_marked}
use Rattle.error_codes.proofs.Marking.{count-more, count-none, count-same, kept-free, kept-marked, kept-out}
use Rattle.error_codes.proofs.correcting.count_others.Goals as goal
use Rattle.error_codes.proofs.correcting.count_others.Goals.{then-not-left_out-i+then-marks-i, else-not-left_out-i}
use Rattle.error_codes.proofs.correcting.count_others.Goals.{else-not-left_out-i-via-then-not-left_out-i+else-marks-i}
use Rattle.error_codes.proofs.correcting.count_others.Goals.{else-not-left_out-i-via-else-not-left_out-i}

pub loop-i-init : goal.loop-i-init
loop-i-init c =
    (sym (count-none (λ i. not (is_marked c.args.left_out.now i) && is_marked c.args.marks.now i)), omega arith)

pub loop-i-preserved : goal.loop-i-preserved
loop-i-preserved c =
    elim c.if-not-left_out-i.branch [
      | then-not-left_out-i+then-marks-i w ↦ (
        w.marked-is
            ∙ count-more others c.loop-i.i c.loop-i.marked
            (kept-marked (is_marked c.args.left_out.now c.loop-i.i) (is_marked c.args.marks.now c.loop-i.i)
            w.if-not-left_out-i.true w.if-marks-i.true) c.loop-i.invariant.0,
        omega (arith, w.marked-is, c.loop-i.invariant.1),
      )
      | else-not-left_out-i w ↦ (
        w.marked-is
            ∙ count-same others c.loop-i.i c.loop-i.marked
            (elim w.else-not-left_out-i.branch [
              | else-not-left_out-i-via-then-not-left_out-i+else-marks-i v ↦
                  kept-free (is_marked c.args.left_out.now c.loop-i.i) (is_marked c.args.marks.now c.loop-i.i)
                  v.if-marks-i.false
              | else-not-left_out-i-via-else-not-left_out-i v ↦
                  kept-out (is_marked c.args.left_out.now c.loop-i.i) (is_marked c.args.marks.now c.loop-i.i)
                  v.if-not-left_out-i.false
            ]) c.loop-i.invariant.0,
        omega (arith, w.marked-is, c.loop-i.invariant.1),
      )
    ]
  where
    others : ℕ → Bool
    others i = not (is_marked c.args.left_out.now i) && is_marked c.args.marks.now i

pub returns : goal.returns
returns c =
    let end : c.loop-i.i ≡ c.args.count = omega arith in
    c.loop-i.invariant.0
    ∙ ap (marked_below (λ i. not (is_marked c.args.left_out.now i) && is_marked c.args.marks.now i)) end
