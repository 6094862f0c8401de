use Rattle.std.proofs.Common.{get_or}
use Rattle.many_words.proofs.PlacesPut.{ArePut}
use Rattle.many_words.proofs.in_slices.change_all.Given as goal

-- the places before hold the images of their words
abbrev pub invariant-loop-place : goal.invariant-loop-place
invariant-loop-place g l =
    let number = g.W.Reads.number in
    ArePut l.fn.words l.words l.place (λ k d. g.C.ChangeOfBasis.relates (number (get_or l.fn.words k d)) (number (get_or l.words k d)))
