use Rattle.std.proofs.Common.{ℕ, ◌^◌, ◌<◌, ◌∙◌, ap, subst}
use Rattle.std.specs.Prelude.{slice_index}
use Rattle.additive_transforms.specs.Rows.{level_of}
use Rattle.additive_transforms.proofs.LaneWords.{level_taken}
use Rattle.additive_transforms.proofs.arithmetic.transform_lanes_16.Goals as goal

pub transform_in_lanes-requires-clause-fit : goal.transform_in_lanes-requires-clause-fit
transform_in_lanes-requires-clause-fit g c j =
    subst (λ (n : ℕ). slice_index c.lane_shifts-shifts.result j < 2 ^ n)
    (g.met.W.WordBytes.bits_law ∙ ap (λ (s : ℕ). 2 ^ level_of s) c.requires.size) (c.lane_shifts-shifts.ensures.fit j)

pub returns-clause-values : goal.returns-clause-values
returns-clause-values g c =
    level_taken g.W.Reads.number 4 g.L.Level.LEVEL c.requires.level c.args.inverse (g.R.Stored.number c.args.z) c.args.words.now
    c.transform_in_lanes.new.words c.lane_shifts-shifts.result c.lane_shifts-shifts.ensures.shifts c.transform_in_lanes.ensures.values
