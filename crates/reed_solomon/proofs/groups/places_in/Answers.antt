use Rattle.std.proofs.Common.{◌+◌, ◌*◌, refl, arith}
use Rattle.reed_solomon.proofs.GroupWriting.{entry_next}
use Rattle.reed_solomon.proofs.groups.places_in.Goals as goal

pub loop-i-preserved : goal.loop-i-preserved
loop-i-preserved c =
    entry_next (λ i. (c.args.first + i) * c.args.size + c.args.column) 4 c.loop-i.i _ c.loop-i.starts c.loop-i.invariant.0
    (omega (arith, c.requires.rows, c.loop-i-test.true)) c.loop-i.invariant.1 refl
