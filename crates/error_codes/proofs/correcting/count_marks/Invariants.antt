use Rattle.std.proofs.Common.{◌≡◌, ◌≤◌}
use Rattle.field_slices.specs.Marks.{marked_below}
use Rattle.error_codes.specs.Filling.{is_marked}
use Rattle.error_codes.proofs.correcting.count_marks.Given as goal

abbrev pub invariant-loop-i : goal.invariant-loop-i
invariant-loop-i l = (l.marked ≡ marked_below (is_marked l.marks) l.i) × (l.marked ≤ l.i)
