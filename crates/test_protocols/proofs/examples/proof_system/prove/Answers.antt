use Rattle.std.proofs.Common.{zero, suc, length, ◌∙◌, ap, arith}
use Rattle.test_protocols.proofs.examples.proof_system.prove.Goals as goal

pub power_of_two-size-requires : goal.power_of_two-size-requires
power_of_two-size-requires c = omega (arith, c.args.sizes.now.few)

pub open_tables-requires-clause-coordinates : goal.open_tables-requires-clause-coordinates
open_tables-requires-clause-coordinates c = ap length c.as_slice-point.ensures.value ∙ c.in_ok-zeros.ensures.point

pub open_tables-requires-clause-depth : goal.open_tables-requires-clause-depth
open_tables-requires-clause-depth c zero d below = c.in_ok-first.ensures.depth
open_tables-requires-clause-depth c (suc zero) d below = c.in_ok-second.ensures.depth
open_tables-requires-clause-depth c (suc (suc zero)) d below = c.in_ok-third.ensures.depth
open_tables-requires-clause-depth c (suc (suc (suc k))) d below = absurd (omega (arith, below))

pub open_tables-requires-clause-count : goal.open_tables-requires-clause-count
open_tables-requires-clause-count c zero d below = c.in_ok-first.ensures.extended.count
open_tables-requires-clause-count c (suc zero) d below = c.in_ok-second.ensures.extended.count
open_tables-requires-clause-count c (suc (suc zero)) d below = c.in_ok-third.ensures.extended.count
open_tables-requires-clause-count c (suc (suc (suc k))) d below = absurd (omega (arith, below))
