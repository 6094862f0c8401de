use Rattle.std.proofs.Common.{◌≡◌, get_or}
use Rattle.many_words.proofs.PlacesPut.{ArePut}
use Rattle.many_words.proofs.one_by_one.multiply_each_by.Given as goal

abbrev pub invariant-loop-place : goal.invariant-loop-place
invariant-loop-place g l =
    let number = g.W.Reads.number in
    ArePut l.fn.words l.words l.place (λ k d. number (get_or l.words k d) ≡ g.K.FieldKernel.product (number (get_or l.fn.words k d)) (number l.scalar))
