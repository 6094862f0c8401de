use Rattle.std.proofs.Common.{◌*◌, slice_index}
use Rattle.reed_solomon.specs.Tables.{AreWritten, row_sum_of}
use Rattle.reed_solomon.proofs.blocks.add_shards.Given as goal

abbrev pub invariant-loop-block : goal.invariant-loop-block
invariant-loop-block g l =
    AreWritten (row_sum_of l.until l.sources.entries.now l.sources.shards.now l.sources.starts.now) (slice_index l.rows) g.row.N (32 * l.block) l.fn.out l.out

abbrev pub invariant-loop-column : goal.invariant-loop-column
invariant-loop-column g l =
    AreWritten (row_sum_of l.until l.sources.entries.now l.sources.shards.now l.sources.starts.now) (slice_index l.rows) g.row.N l.column l.fn.out l.out
