use Rattle.std.proofs.Common.{◌≡◌, drop, map}
use Rattle.std.specs.Prelude.{bit_xor}
use Rattle.field_base.specs.Powers.{dot_of}
use Rattle.many_words.proofs.dots.with_products.Given as goal

-- the sum so far, and that of the places from this one on, are the whole
abbrev pub invariant-loop-place : goal.invariant-loop-place
invariant-loop-place g l =
    let product = g.K.FieldKernel.product in
    let left = map g.P.Reads.number l.left in
    let right = map g.P.Reads.number l.right in
    bit_xor (g.R.Stored.number l.sum) (dot_of product (λ n. n) (drop l.place left) (drop l.place right))
    ≡ bit_xor (g.R.Stored.number l.fn.sum) (dot_of product (λ n. n) left right)
