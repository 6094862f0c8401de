use Rattle.std.proofs.Common.{◌+◌, refl, slice_index, arith}
use Rattle.error_codes.proofs.CodeValues.{entry-more}
use Rattle.error_codes.proofs.field_code.values.read_eight.Goals as goal

pub loop-k-init : goal.loop-k-init
loop-k-init c = (refl, λ n below. absurd (omega (arith, below)))

pub loop-k-preserved : goal.loop-k-preserved
loop-k-preserved c =
    entry-more (λ n. slice_index c.args.entries.now (c.args.first + n)) 8 c.loop-k.k _ c.loop-k.eight c.loop-k.invariant
    (omega (arith, c.min-count.ensures, c.loop-k-test.true)) refl

pub returns : goal.returns
returns c = λ k below inside.
    c.loop-k.invariant.1 k (omega (arith, below, inside, c.min-count.ensures, c.loop-k-test.false))
