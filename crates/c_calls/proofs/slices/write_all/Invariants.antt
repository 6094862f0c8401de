use Rattle.std.proofs.Common.{ℕ, ◌*◌, ◌<◌, get_or}
use Rattle.c_calls.proofs.slices.write_all.Given as goal

-- the places of the pairs before hold their results
abbrev pub invariant-pairs : goal.invariant-pairs
invariant-pairs g l =
    let number = (g.S.ScalarWords.field l.field).number in
    (k : ℕ) → k < 2 * l.pair → (d : _) → g.O.AtOne.gives l.operation l.field (number (get_or l.words k d)) (number (get_or l.results k d))

-- and so do the places before
abbrev pub invariant-rest : goal.invariant-rest
invariant-rest g l =
    let number = (g.S.ScalarWords.field l.field).number in
    (k : ℕ) → k < l.place → (d : _) → g.O.AtOne.gives l.operation l.field (number (get_or l.words k d)) (number (get_or l.results k d))
