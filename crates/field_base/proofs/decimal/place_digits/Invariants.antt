use Rattle.std.proofs.Common.{◌≡◌, ◌+◌, ◌≤◌, ◌++◌, length, drop, take, replicate}
use Rattle.std.specs.Fmt.{decimal}
use Rattle.field_base.proofs.decimal.place_digits.Given as goal

abbrev pub invariant-loop-left : goal.invariant-loop-left
invariant-loop-left l =
    (l.end ≤ 40) × (length l.buffer ≡ 40) × (l.end + length (decimal l.n) ≡ 40 + length (decimal l.left)) × (decimal l.left ++ drop l.end l.buffer ≡ decimal l.n) × (take l.end l.buffer ≡ replicate l.end 48)

abbrev pub decreases-loop-left : goal.decreases-loop-left
decreases-loop-left l = l.left
