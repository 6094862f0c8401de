use Rattle.std.proofs.Common.{ℕ, ◌<◌, get_or}
use Rattle.c_calls.proofs.slices.write_each_of_two.Given as goal

abbrev pub invariant-loop-place : goal.invariant-loop-place
invariant-loop-place g l =
    let number = (g.S.ScalarWords.field l.field).number in
    (k : ℕ) → k < l.place → (d : _)
    → g.O.AtTwo.gives l.operation l.field (number (get_or l.left k d)) (number (get_or l.right k d)) (number (get_or l.results k d))
