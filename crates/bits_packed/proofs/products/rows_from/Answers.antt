use Rattle.std.proofs.Common.{◌+◌, arith, refl}
use Rattle.std.specs.Prelude.{if◌then◌else◌, nat_lt}
use Rattle.bits_packed.proofs.WordRanges.{one_more_filled}
use Rattle.bits_packed.proofs.products.rows_from.Goals as goal

pub loop-offset-init : goal.loop-offset-init
loop-offset-init c = (refl, λ k below. absurd (omega (arith, below)))

pub loop-offset-preserved : goal.loop-offset-preserved
loop-offset-preserved c =
    one_more_filled 64 c.loop-offset.offset c.row_from.result
    (λ k. if nat_lt (c.args.row + k) c.args.inner then c.args.row + k else c.args.inner) c.loop-offset.places (omega arith)
    c.row_from.ensures c.loop-offset.invariant

pub returns : goal.returns
returns c = λ k inside. c.loop-offset.invariant.1 k (omega (arith, inside))
