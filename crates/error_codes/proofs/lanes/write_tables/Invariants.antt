use Rattle.std.proofs.Common.{◌≡◌, length}
use Rattle.reed_solomon.specs.ByteFields.{byte_times}
use Rattle.error_codes.specs.Interleaved.{HaveProducts}
use Rattle.error_codes.proofs.lanes.write_tables.Given as goal

-- the tables of the scalars before this one are written
abbrev pub invariant-loop-j : goal.invariant-loop-j
invariant-loop-j l =
    (length l.tables ≡ length l.initial.tables) × HaveProducts (byte_times l.field) l.scalars l.j l.tables
