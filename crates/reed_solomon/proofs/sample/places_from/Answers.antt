use Rattle.std.proofs.Common.{◌+◌, refl, arith}
use Rattle.reed_solomon.proofs.GroupWriting.{entry_next}
use Rattle.reed_solomon.proofs.sample.places_from.Goals as goal

pub loop-i-preserved : goal.loop-i-preserved
loop-i-preserved c =
    entry_next (λ i. c.args.first + i) 256 c.loop-i.i _ c.loop-i.places c.loop-i.invariant.0
    (omega (arith, c.requires, c.loop-i-test.true)) c.loop-i.invariant.1 refl
