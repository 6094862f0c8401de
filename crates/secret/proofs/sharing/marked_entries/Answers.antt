use Rattle.std.proofs.Common.{◌∙◌, ap, refl}
use Rattle.error_codes.specs.Filling.{is_marked}
use Rattle.secret.proofs.Entries.{entry-left, entry-taken, no-entries}
use Rattle.secret.proofs.sharing.marked_entries.Goals as goal
use Rattle.secret.proofs.sharing.marked_entries.Goals.{then-marks-i+in_ok-push, else-marks-i}

pub loop-i-init : goal.loop-i-init
loop-i-init c = c.new-some.ensures.items ∙ no-entries (is_marked c.args.marks.now) c.args.entries.now

pub loop-i-preserved : goal.loop-i-preserved
loop-i-preserved c =
    let marked = is_marked c.args.marks.now in
    elim c.if-marks-i.branch [
      | then-marks-i+in_ok-push w ↦
          entry-taken marked c.args.entries.now c.loop-i.some.items c.if-marks-i.some.items c.loop-i.i _ c.loop-i.invariant w.if-marks-i.true refl
          (ap (λ v. v.items) w.some-is ∙ w.in_ok-push.ensures.items)
      | else-marks-i w ↦
          entry-left marked c.args.entries.now c.loop-i.some.items c.if-marks-i.some.items c.loop-i.i c.loop-i.invariant w.if-marks-i.false
          (ap (λ v. v.items) w.some-is)
    ]
