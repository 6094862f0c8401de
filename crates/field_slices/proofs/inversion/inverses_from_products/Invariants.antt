use Rattle.field_slices.proofs.BatchInversion.{InvertedFrom}
use Rattle.field_slices.proofs.inversion.inverses_from_products.Given as goal

-- the places before this one still hold products, the others inverses, and what is left is the inverse of the product before it
abbrev pub invariant-loop-place : goal.invariant-loop-place
invariant-loop-place g l =
    let number = g.S.Scalars.number l.field in
    let times = g.S.Scalars.product l.field in
    InvertedFrom times number l.values l.products l.place l.rest
