use Rattle.std.proofs.Common.{◌≡◌}
use Rattle.field_base.specs.ByteTables.{sum_of_entries}
use Rattle.field_base.proofs.byte_tables.sums.sum_of_entries_16.Given as goal

-- the entries of the bytes before byte i are in the sum
abbrev pub invariant-loop-i : goal.invariant-loop-i
invariant-loop-i l = l.sum ≡ sum_of_entries l.i l.table l.x
