use Rattle.std.proofs.Common.{◌≡◌, take}
use Rattle.protocols.specs.ProductSums.{interleaved}
use Rattle.protocols.proofs.product_sums.rows.Given as goal

-- the places before this one are rows
abbrev pub invariant-places : goal.invariant-places
invariant-places g l = l.rows.items ≡ interleaved (take l.place l.left) (take l.place l.right)
