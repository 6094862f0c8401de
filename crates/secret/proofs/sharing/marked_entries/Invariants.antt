use Rattle.std.proofs.Common.{◌≡◌}
use Rattle.error_codes.specs.Filling.{is_marked}
use Rattle.secret.specs.Combining.{entries_at}
use Rattle.secret.proofs.sharing.marked_entries.Given as goal

-- the marked entries so far
abbrev pub invariant-loop-i : goal.invariant-loop-i
invariant-loop-i l = l.some.items ≡ entries_at (is_marked l.marks) l.entries l.i
