use Rattle.std.proofs.Common.{◌<◌, ◌≤◌, rules}
use Rattle.bits_packed.proofs.LaneLists.{lanes_end, lanes_next}
use Rattle.bits_packed.proofs.packed.lanes.LanesIterator.next.Goals as goal

pub returns-then-self-BITS-clause-steps : goal.returns-then-self-BITS-clause-steps
returns-then-self-BITS-clause-steps g c =
    let past : g.U.Underlier.BITS ≤ c.args.self.now.next = search rules in
    let none = lanes_end g.U.Underlier.BITS c.args.self.now.next (g.U.Underlier.number c.args.self.now.packed.bits) past in
    (none, none)

pub returns-clause-steps : goal.returns-clause-steps
returns-clause-steps g c =
    let inside : c.args.self.now.next < g.U.Underlier.BITS = search rules in
    lanes_next g.U.Underlier.BITS c.args.self.now.next (g.U.Underlier.number c.args.self.now.packed.bits) _ inside c.get-lane.ensures
