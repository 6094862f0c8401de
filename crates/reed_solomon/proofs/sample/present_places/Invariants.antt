use Rattle.std.proofs.Common.{◌≡◌, ◌≤◌, length}
use Rattle.reed_solomon.specs.Samples.{IsSample}
use Rattle.reed_solomon.proofs.sample.present_places.Given as goal

abbrev pub invariant-loop-i : goal.invariant-loop-i
invariant-loop-i l = IsSample l.k l.present l.i l.places l.count × (l.count ≤ l.i) × (length l.places ≡ 256)
