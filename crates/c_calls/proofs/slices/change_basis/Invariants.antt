use Rattle.std.proofs.Common.{ℕ, ◌<◌, get_or}
use Rattle.c_calls.proofs.slices.change_basis.Given as goal

-- the places before hold the images of their words
abbrev pub invariant-loop-place : goal.invariant-loop-place
invariant-loop-place g l =
    let number = g.W.Reads.number in
    (k : ℕ) → k < l.place → (d : _) → g.C.ChangeOfBasis.relates (number (get_or l.words k d)) (number (get_or l.images k d))
