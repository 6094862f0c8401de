use Rattle.sum_checks.proofs.ZeroRuns.{AreRows}
use Rattle.sum_checks.proofs.zero_check.rows_of.Given as goal

-- the rows of the corners before this one
abbrev pub invariant-corners : goal.invariant-corners
invariant-corners g l =
    let field = g.F.Represented in
    AreRows field.repr field.product l.point l.a l.b l.c l.rows.items l.corner
