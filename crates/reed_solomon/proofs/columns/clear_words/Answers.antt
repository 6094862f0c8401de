use Rattle.std.proofs.Common.{arith}
use Rattle.reed_solomon.proofs.ColumnPlaces.{put_more}
use Rattle.reed_solomon.proofs.columns.clear_words.Goals as goal

pub loop-c-preserved : goal.loop-c-preserved
loop-c-preserved g c =
    let zero = g.R.Stored.ZERO in
    put_more zero c.args.place c.loop-c.c c.args.target.now c.loop-c.target c.ZERO.result
    (omega (arith, c.requires.room, c.loop-c.auto.target, c.loop-c-test.true)) (λ k. zero) c.ZERO.ensures c.loop-c.invariant
