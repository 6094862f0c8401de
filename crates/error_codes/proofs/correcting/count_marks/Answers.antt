use Rattle.std.proofs.Common.{◌≡◌, sym, ◌∙◌, ap, arith}
use Rattle.field_slices.specs.Marks.{marked_below}
use Rattle.error_codes.specs.Filling.{is_marked}
use Rattle.error_codes.proofs.Marking.{count-more, count-none, count-same}
use Rattle.error_codes.proofs.correcting.count_marks.Goals as goal
use Rattle.error_codes.proofs.correcting.count_marks.Goals.{then-marks-i, else-marks-i}

pub loop-i-init : goal.loop-i-init
loop-i-init c = (sym (count-none (is_marked c.args.marks.now)), omega arith)

pub loop-i-preserved : goal.loop-i-preserved
loop-i-preserved c =
    elim c.if-marks-i.branch [
      | then-marks-i w ↦ (
        w.marked-is
            ∙ count-more (is_marked c.args.marks.now) c.loop-i.i c.loop-i.marked w.if-marks-i.true c.loop-i.invariant.0,
        omega (arith, w.marked-is, c.loop-i.invariant.1),
      )
      | else-marks-i w ↦ (
        w.marked-is
            ∙ count-same (is_marked c.args.marks.now) c.loop-i.i c.loop-i.marked w.if-marks-i.false c.loop-i.invariant.0,
        omega (arith, w.marked-is, c.loop-i.invariant.1),
      )
    ]

pub returns : goal.returns
returns c =
    let end : c.loop-i.i ≡ c.args.count = omega arith in
    c.loop-i.invariant.0 ∙ ap (marked_below (is_marked c.args.marks.now)) end
