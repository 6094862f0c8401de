use Rattle.std.proofs.Common.{◌≡◌, ◌≤◌}
use Rattle.reed_solomon.specs.Locators.{lost_count}
use Rattle.reed_solomon.specs.Restoring.{is_missing}
use Rattle.reed_solomon.proofs.transform_codec.missing_count.Given as goal

-- so many of the flags so far are false
abbrev pub invariant-loop-i : goal.invariant-loop-i
invariant-loop-i l = (l.count ≡ lost_count (is_missing l.present) l.i) × (l.count ≤ l.i)
