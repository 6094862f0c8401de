use Rattle.std.proofs.Common.{slice_index, refl, arith}
use Rattle.reed_solomon.proofs.RowTables.{row_next}
use Rattle.reed_solomon.proofs.tables.set_row.Goals as goal

pub loop-j-preserved : goal.loop-j-preserved
loop-j-preserved c =
    row_next (slice_index c.args.factors.now) c.args.row c.loop-j.j _ c.args.entries.now c.loop-j.entries _ c.loop-j.invariant c.requires.within
    refl c.entries_of.ensures.long (omega (arith, c.loop-j-test.true, c.requires.room, c.requires.within, c.loop-j.invariant.long))
    c.entries_of.ensures.entries
