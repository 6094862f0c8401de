use Rattle.std.proofs.Common.{zero, suc, arith}
use Rattle.test_protocols.proofs.tests.joint.made_opening.Goals as goal

pub open_tables-requires-clause-depth : goal.open_tables-requires-clause-depth
open_tables-requires-clause-depth c zero d below = c.in_ok-first.ensures.depth
open_tables-requires-clause-depth c (suc zero) d below = c.in_ok-second.ensures.depth
open_tables-requires-clause-depth c (suc (suc zero)) d below = c.in_ok-last.ensures.depth
open_tables-requires-clause-depth c (suc (suc (suc k))) d below = absurd (omega (arith, below))

pub open_tables-requires-clause-count : goal.open_tables-requires-clause-count
open_tables-requires-clause-count c zero d below = c.in_ok-first.ensures.extended.count
open_tables-requires-clause-count c (suc zero) d below = c.in_ok-second.ensures.extended.count
open_tables-requires-clause-count c (suc (suc zero)) d below = c.in_ok-last.ensures.extended.count
open_tables-requires-clause-count c (suc (suc (suc k))) d below = absurd (omega (arith, below))
