use Rattle.std.proofs.Common.{length, slice_index, refl, arith}
use Rattle.reed_solomon.proofs.StripRows.{strip_row}
use Rattle.reed_solomon.proofs.groups.put_strip.Goals as goal

pub loop-row-preserved : goal.loop-row-preserved
loop-row-preserved c =
    let within = c.loop-row-test.true in
    strip_row c.args.size c.args.column c.args.width c.loop-row.row (slice_index c.args.targets.now) c.args.strip.now _ c.args.shards.now
    c.loop-row.shards (length c.args.targets.now) _ _ _ _ within c.requires.within c.loop-row.invariant refl
    (omega (arith, c.requires.room c.loop-row.row within, c.requires.within, c.loop-row.auto.shards)) (omega arith) c.copy_from_slice.ensures.after
    refl (omega arith) (omega (arith, c.requires.rows, c.requires.narrow, within)) c.requires.distinct
