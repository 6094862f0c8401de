use Rattle.std.proofs.Common.{◌≡◌, get_or}
use Rattle.std.specs.Prelude.{bit_xor}
use Rattle.many_words.proofs.PlacesPut.{ArePut}
use Rattle.many_words.proofs.scaled_bytes.add_few.Given as goal

abbrev pub invariant-loop-place : goal.invariant-loop-place
invariant-loop-place g l =
    ArePut l.fn.sums l.sums l.place (λ k d. get_or l.sums k d ≡ bit_xor (get_or l.fn.sums k d) (get_or l.products k d))
