use Rattle.std.proofs.Common.{map, ◌∙◌}
use Rattle.std.proofs.lemmas.List.{length-map}
use Rattle.std.proofs.lemmas.Nat.{pow_pos}
use Rattle.field_base.proofs.TowerRing.{tower_ring}
use Rattle.additive_transforms.specs.Rows.{level_of}
use Rattle.additive_transforms.specs.Words.{level_element}
use Rattle.additive_transforms.proofs.LaneWords.{rows_held, rows_put, rows_read}
use Rattle.additive_transforms.proofs.in_lanes.transform_in_lanes.Goals as goal

pub returns-clause-values : goal.returns-clause-values
returns-clause-values g c z are =
    let d = g.P.Planes.depth in
    let k = level_of d in
    let lane = g.P.Planes.lane in
    let fits = g.met.P.Planes.fits_law in
    let number = g.W.Reads.number in
    let lanes = g.met.P.LanePlanes.lanes_law in
    let made = c.stages_in_lanes-low.result in
    rows_held (pow_pos k) (tower_ring k) z c.args.inverse (map (level_element number k) c.args.words.now)
    (map (level_element number k) c.scatter-2.new.words) _ _ (length-map c.args.words.now (level_element number k) ∙ c.requires.words)
    (length-map c.scatter-2.new.words (level_element number k) ∙ c.scatter-2.ensures.length ∙ c.scatter.ensures.length ∙ c.requires.words)
    (rows_read number d g.W.WordBytes.size c.requires.size g.P.Planes.lanes lanes (lane c.gather-first.result) (lane c.gather-second.result)
    c.args.words.now c.gather-first.ensures c.gather-second.ensures)
    (rows_put number d g.W.WordBytes.size c.requires.size g.P.Planes.lanes lanes (lane made.0) (lane made.1) c.args.words.now
    c.scatter.new.words c.scatter-2.new.words (fits made.0) (fits made.1) c.scatter.ensures.words c.scatter-2.ensures.words)
    (c.stages_in_lanes-low.ensures z are)
