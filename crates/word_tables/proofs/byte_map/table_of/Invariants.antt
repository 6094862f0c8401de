use Rattle.std.proofs.Common.{◌≡◌, length}
use Rattle.word_tables.proofs.TabledMaps.{Hold, byte_value}
use Rattle.word_tables.proofs.byte_map.table_of.Given as goal

-- the places before hold their entries
abbrev pub invariant-loop-place : goal.invariant-loop-place
invariant-loop-place l = (length l.table ≡ 4096) × Hold (byte_value l.images) l.place l.table
