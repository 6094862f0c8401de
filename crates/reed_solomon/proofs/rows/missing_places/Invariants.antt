use Rattle.std.proofs.Common.{◌≡◌, ◌≤◌, length}
use Rattle.reed_solomon.specs.Missing.{AreMissing}
use Rattle.reed_solomon.proofs.rows.missing_places.Given as goal

abbrev pub invariant-loop-i : goal.invariant-loop-i
invariant-loop-i l = AreMissing l.present l.i l.places l.count × (l.count ≤ l.i) × (length l.places ≡ 256)
