use Rattle.std.proofs.Common.{◌^◌}
use Rattle.std.proofs.lemmas.Nat.{pow_pos}
use Rattle.field_base.specs.Tower.{tower_mul}
use Rattle.field_base.proofs.TowerRing.{tower_ring}
use Rattle.additive_transforms.specs.lemmas.LevelVector.{level_vectors}
use Rattle.additive_transforms.specs.Rows.{level_of}
use Rattle.additive_transforms.proofs.LaneStages.{joint-lt, rows_back, rows_on, six_bits, six_stages}
use Rattle.additive_transforms.proofs.in_lanes.stages_in_lanes.Goals as goal

pub returns-then-inverse : goal.returns-then-inverse
returns-then-inverse g c z are =
    let d = g.P.Planes.depth in
    let k = level_of d in
    let lane = g.P.Planes.lane in
    let fits = g.met.P.Planes.fits_law in
    let f = c.stage_before-a in
    let e = c.stage_before-a-then-inverse in
    let h = c.stage_before-a-then-inverse-2 in
    let i = c.stage_before-a-then-inverse-3 in
    let j = c.stage_before-a-then-inverse-4 in
    let a = c.stage_before in
    rows_back (2 ^ k) (tower_mul k) z _ _ c.args.inverse c.if-inverse.true
    (six_stages (pow_pos k) (tower_ring k) (level_vectors k c.requires.few) z (six_bits d) g.P.Planes.lanes g.met.P.LanePlanes.lanes_law
    c.args.shifts.now are (lane a.result.0) (lane j.result.0) (lane i.result.0) (lane h.result.0) (lane e.result.0) (lane f.result.0)
    (lane c.args.first) (lane a.result.1) (lane j.result.1) (lane i.result.1) (lane h.result.1) (lane e.result.1) (lane f.result.1)
    (lane c.args.second) (fits a.result.1) (fits j.result.1) (fits i.result.1) (fits h.result.1) (fits e.result.1) (fits f.result.1)
    (joint-lt 32 (lane c.args.first) (lane c.args.second) (2 ^ 2 ^ k) (fits c.args.first) (fits c.args.second)) a.ensures
    j.ensures i.ensures h.ensures e.ensures f.ensures)

pub returns-else-inverse : goal.returns-else-inverse
returns-else-inverse g c z are =
    let d = g.P.Planes.depth in
    let k = level_of d in
    let lane = g.P.Planes.lane in
    let fits = g.met.P.Planes.fits_law in
    let b = c.stage_after-a in
    let e = c.stage_after-a-else-inverse in
    let h = c.stage_after-a-else-inverse-2 in
    let i = c.stage_after-a-else-inverse-3 in
    let j = c.stage_after-a-else-inverse-4 in
    let f = c.stage_after in
    rows_on (2 ^ k) (tower_mul k) z _ _ c.args.inverse c.if-inverse.false
    (six_stages (pow_pos k) (tower_ring k) (level_vectors k c.requires.few) z (six_bits d) g.P.Planes.lanes g.met.P.LanePlanes.lanes_law
    c.args.shifts.now are (lane c.args.first) (lane b.result.0) (lane e.result.0) (lane h.result.0) (lane i.result.0) (lane j.result.0)
    (lane f.result.0) (lane c.args.second) (lane b.result.1) (lane e.result.1) (lane h.result.1) (lane i.result.1) (lane j.result.1)
    (lane f.result.1) (fits c.args.second) (fits b.result.1) (fits e.result.1) (fits h.result.1) (fits i.result.1) (fits j.result.1)
    (joint-lt 32 (lane f.result.0) (lane f.result.1) (2 ^ 2 ^ k) (fits f.result.0) (fits f.result.1)) b.ensures
    e.ensures h.ensures i.ensures j.ensures f.ensures)
