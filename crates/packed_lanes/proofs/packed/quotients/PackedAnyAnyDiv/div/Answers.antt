use Rattle.std.proofs.Common.{◌<◌, subst, sym, ◌∙◌}
use Rattle.packed_lanes.proofs.LanePoints.{lanes_agree}
use Rattle.packed_lanes.proofs.packed.quotients.PackedAnyAnyDiv.div.Goals as goal

pub returns : goal.returns
returns g c =
    let ring = g.F.Represented in
    let x = c.args.self in
    let y = c.args.other in
    let r = c.zip.result in
    lanes_agree ring.repr ring.product r.lanes y.lanes x.lanes (x.long ∙ sym r.long) (y.long ∙ sym r.long)
    (λ k d below.
    let within : k < g.row.N = subst (λ n. k < n) r.long below in
    c.zip.ensures k d within (c.requires k d within))
