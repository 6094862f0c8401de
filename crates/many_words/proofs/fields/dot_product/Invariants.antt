use Rattle.std.proofs.Common.{◌≡◌, ◌*◌, drop}
use Rattle.std.specs.Prelude.{bit_xor}
use Rattle.field_base.specs.Powers.{dot_of}
use Rattle.many_words.proofs.fields.dot_product.Given as goal

-- the sum so far, and that of the pairs from this one on, are the whole
abbrev pub invariant-pairs : goal.invariant-pairs
invariant-pairs g l =
    bit_xor (g.K.FieldKernel.reduced l.low l.high)
    (dot_of g.K.FieldKernel.product g.P.Reads.number (drop (2 * l.pair) l.left) (drop (2 * l.pair) l.right))
    ≡ dot_of g.K.FieldKernel.product g.P.Reads.number l.left l.right

-- and that of the places from this one on
abbrev pub invariant-rest : goal.invariant-rest
invariant-rest g l =
    bit_xor (g.K.FieldKernel.reduced l.low l.high)
    (dot_of g.K.FieldKernel.product g.P.Reads.number (drop l.at l.left) (drop l.at l.right))
    ≡ dot_of g.K.FieldKernel.product g.P.Reads.number l.left l.right
