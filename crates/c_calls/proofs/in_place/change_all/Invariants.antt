use Rattle.std.proofs.Common.{◌≡◌, ℕ, ◌<◌, ◌≤◌, length, get_or}
use Rattle.c_calls.proofs.in_place.change_all.Given as goal

-- the words before this place are done, and the others as they were
abbrev pub invariant-loop-place : goal.invariant-loop-place
invariant-loop-place g l =
    let number = (g.S.ScalarWords.field l.field).number in
    (length l.words ≡ length l.fn.words)
    × ((k : ℕ) → k < l.place → (d : _)
    → g.O.AtOne.gives l.operation l.field (number (get_or l.fn.words k d)) (number (get_or l.words k d)))
    × ((k : ℕ) → l.place ≤ k → k < length l.words → (d : _) → get_or l.words k d ≡ get_or l.fn.words k d)
