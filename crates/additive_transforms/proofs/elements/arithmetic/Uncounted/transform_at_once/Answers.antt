use Rattle.std.proofs.Common.{◌∙◌}
use Rattle.additive_transforms.proofs.StagesFrom.{all_from}
use Rattle.additive_transforms.proofs.SubspaceSteps.{first_subspace_value}
use Rattle.additive_transforms.proofs.elements.arithmetic.Uncounted.transform_at_once.Goals as goal

pub stages_from-requires-clause-room : goal.stages_from-requires-clause-room
stages_from-requires-clause-room g c = g.met.Self.Uncounted.room_law _ _

pub returns-clause-values : goal.returns-clause-values
returns-clause-values g c =
    let by = g.Self.StageArithmetic in
    let laws = g.met.Self.StageArithmetic in
    let z = by.number c.args.z in
    all_from by.vector laws.ring_law by.value laws.range_law z c.requires.few laws.wide_law laws.vector_law c.args.values.now
    c.stages_from.new.values c.requires.stages.1 (c.stages_from.ensures.length ∙ c.requires.stages.1) c.args.inverse
    (c.stages_from.ensures.stages z (first_subspace_value by.product z))
