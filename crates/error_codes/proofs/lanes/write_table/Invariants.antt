use Rattle.reed_solomon.specs.ByteFields.{byte_times}
use Rattle.error_codes.proofs.LaneRegisters.{TableWritten}
use Rattle.error_codes.proofs.lanes.write_table.Given as goal

abbrev pub invariant-loop-n : goal.invariant-loop-n
invariant-loop-n l = TableWritten (byte_times l.field) l.scalar l.start l.n l.initial.tables l.tables
