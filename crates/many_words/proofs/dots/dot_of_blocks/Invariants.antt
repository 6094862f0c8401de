use Rattle.std.proofs.Common.{◌≡◌, length}
use Rattle.std.specs.Prelude.{bit_xor}
use Rattle.field_base.specs.Powers.{dot_of}
use Rattle.many_words.proofs.dots.dot_of_blocks.Given as goal

-- the sum so far, and that of the words that are left, are the whole
abbrev pub invariant-parts : goal.invariant-parts
invariant-parts g l =
    (length l.rest_left ≡ length l.rest_right)
    × (bit_xor (g.R.Stored.number l.sum) (dot_of g.K.FieldKernel.product g.P.Reads.number l.rest_left l.rest_right)
    ≡ dot_of g.K.FieldKernel.product g.P.Reads.number l.left l.right)

abbrev pub decreases-parts : goal.decreases-parts
decreases-parts g l = length l.rest_left
