use Rattle.std.proofs.Common.{◌<◌, subst, sym, ◌∙◌}
use Rattle.std.specs.Prelude.{bit_xor}
use Rattle.packed_lanes.proofs.LanePoints.{lanes_agree}
use Rattle.packed_lanes.proofs.packed.PackedAdd.add.Goals as goal

pub returns : goal.returns
returns g c =
    let x = c.args.self in
    let y = c.args.other in
    let r = c.zip.result in
    lanes_agree g.F.Represented.repr bit_xor x.lanes y.lanes r.lanes (r.long ∙ sym x.long) (y.long ∙ sym x.long)
    (λ k d below. c.zip.ensures k d (subst (λ n. k < n) x.long below))
