use Rattle.std.proofs.Common.{◌≡◌, ℕ, ◌<◌, ◌≤◌, true}
use Rattle.reed_solomon.specs.Restoring.{is_lost}
use Rattle.reed_solomon.proofs.points.places_to_last.Given as goal

-- of the places so far those that are lost are before the count
abbrev pub invariant-loop-p : goal.invariant-loop-p
invariant-loop-p l =
    (l.count ≤ l.p)
    × ((q : ℕ) → q < l.p → is_lost l.code.data_shards l.code.levels l.code.parity_shards l.present q ≡ true → q < l.count)
