use Rattle.std.proofs.Common.{arith}
use Rattle.protocols.proofs.ProductSums.{rows-grown}
use Rattle.protocols.proofs.product_sums.rows.Goals as goal

pub places-preserved : goal.places-preserved
places-preserved g c =
    rows-grown c.places.rows.items _ _ c.args.left.now c.args.right.now c.index-left-place.result c.index-right-place.result c.places.place
    (omega (arith, c.places-test.true)) c.requires c.index-left-place.is c.index-right-place.is c.in_ok-push.ensures.items c.in_ok-push-2.ensures.items
    c.places.invariant
